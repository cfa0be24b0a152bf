use Rattle.std.proofs.Common.{refl}
use Rattle.lease_core.proofs.LeaseLemmas.{same_core}
use Rattle.lease_core.proofs.cores.Core.handle.Goals as goal

pub returns : goal.returns
returns c = λ s r. c.perform.ensures s (same_core _ _ s refl refl refl refl refl r)
