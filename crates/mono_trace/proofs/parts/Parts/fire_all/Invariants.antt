use Rattle.std.proofs.Common.{◌≡◌, drop}
use Rattle.mono_machine.specs.Steps.{after_fires}
use Rattle.mono_trace.specs.Trials.{are_in_turn, least_after}
use Rattle.mono_trace.proofs.parts.Parts.fire_all.Given as goal

abbrev pub invariant-loop-s : goal.invariant-loop-s
invariant-loop-s l = (l.self.before ≡ l.fn.self.before)
    × (are_in_turn l.self.now.sleeps.table l.self.now.sleeps.greatest l.reached.tick (least_after l.reached.last) (drop l.s-index l.fired) ≡ are_in_turn l.fn.self.now.sleeps.table l.fn.self.now.sleeps.greatest 0 0 l.fired)
    × (after_fires l.self.now (drop l.s-index l.fired) ≡ after_fires l.fn.self.now l.fired)
