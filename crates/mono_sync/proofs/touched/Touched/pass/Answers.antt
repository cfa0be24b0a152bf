use Rattle.std.proofs.Common.{◌+◌, arith}
use Rattle.mono_sync.proofs.TouchedLemmas.{wider}
use Rattle.mono_sync.proofs.touched.Touched.pass.Goals as goal

pub invariant_of-self-then-self-key : goal.invariant_of-self-then-self-key
invariant_of-self-then-self-key c = wider 0 c.self.inside.keys.items c.self.inside.from (c.args.key + 1) c.self.invariant (omega (arith, c.if-self-key.true))
