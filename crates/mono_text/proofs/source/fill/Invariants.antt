use Rattle.std.proofs.Common.{◌≡◌, ◌-◌, vec_len}
use Rattle.mono_text.specs.Environment.{HasRead}
use Rattle.mono_text.proofs.source.fill.Given as goal

abbrev pub invariant-loop-source : goal.invariant-loop-source
invariant-loop-source g l = HasRead (g.S.Source.left l.fn.source) l.bytes.items (g.S.Source.left l.source) × (g.S.Source.faults l.source ≡ g.S.Source.faults l.fn.source)

abbrev pub decreases-loop-source : goal.decreases-loop-source
decreases-loop-source g l = 16777217 - vec_len l.bytes
