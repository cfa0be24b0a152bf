use Rattle.mono_wheel.proofs.LeapLemmas.{Noted}
use Rattle.mono_wheel.proofs.leap.survey.Given as goal

abbrev pub invariant-loop-key : goal.invariant-loop-key
invariant-loop-key l = Noted l.limit l.near l.count l.links.table.entries l.key
