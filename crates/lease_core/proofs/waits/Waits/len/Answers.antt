use Rattle.std.proofs.Common.{sym, ◌∙◌}
use Rattle.lease_core.proofs.PlaceLemmas.{length_waiters}
use Rattle.lease_core.proofs.waits.Waits.len.Goals as goal

pub returns-clause-len : goal.returns-clause-len
returns-clause-len c = c.len.ensures.len ∙ sym (length_waiters _)
