use Rattle.mono_run.proofs.FirstBadLineLemmas.{bad_in_kind}
use Rattle.mono_run.proofs.scripts.laws.what_may_not_follow_is_bad.Goals as goal

pub returns : goal.returns
returns c = λ input x ks bs l rest fit sound may few short split none. bad_in_kind input x ks bs l rest fit sound may few short split none
