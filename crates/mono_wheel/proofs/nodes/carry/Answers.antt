use Rattle.std.proofs.Common.{refl}
use Rattle.mono_wheel.proofs.nodes.carry.Goals as goal

pub returns-clause-written : goal.returns-clause-written
returns-clause-written c = (c.index_mut.result.now, c.index_mut.ensures.value, refl)
