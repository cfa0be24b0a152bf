use Rattle.std.proofs.Common.{refl, ◌∙◌, rules}
use Rattle.lease_core.proofs.ServiceLemmas.{clocked}
use Rattle.lease_core.proofs.cores.Core.advance.Goals as goal

pub returns-clause-clocks : goal.returns-clause-clocks
returns-clause-clocks c =
    clocked _ _ _ c.clock_tick.result _ _ _ _ _ _ _ _ (search rules) c.clock_tick.ensures.tick (c.in_ok-reserve.ensures.items ∙ c.clear-2.ensures.items) (c.in_ok-reserve-2.ensures.items ∙ c.clear-3.ensures.items) c.clear.ensures.items
    c.close_due.ensures c.fill.ensures c.as_slice.ensures.value c.end_each_left.ensures.items c.end_each_left.ensures.kept c.max-self.ensures refl
