use Rattle.mono_wheel.specs.Hops.{HasNoTies}
use Rattle.mono_wheel.proofs.leap.has_ties.Given as goal

abbrev pub invariant-loop-place : goal.invariant-loop-place
invariant-loop-place l = HasNoTies l.goal l.near l.links.table l.place
