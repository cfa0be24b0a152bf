use Rattle.mono_groups.proofs.LawLemmas.{pending}
use Rattle.mono_groups.proofs.laws.a_pending_future_is_listed.Goals as goal

pub returns : goal.returns
returns c = pending
