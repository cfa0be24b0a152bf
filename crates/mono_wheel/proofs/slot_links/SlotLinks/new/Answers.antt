use Rattle.mono_wheel.proofs.OccupancyLemmas.{marks-new}
use Rattle.mono_wheel.proofs.slot_links.SlotLinks.new.Goals as goal

pub invariant_of-result : goal.invariant_of-result
invariant_of-result c = marks-new c.new-2.result c.in_ok-links.links c.new-2.ensures c.in_ok-links.ensures.lists
