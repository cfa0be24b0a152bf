use Rattle.std.proofs.Common.{refl}
use Rattle.std.specs.Prelude.{Err}
use Rattle.mono_model.specs.declared.poll.Poll.TheVariants.{Ready}
use Rattle.mono_limit.specs.declared.RetryError.TheVariants.{Last}
use Rattle.mono_limit.proofs.SpentRetryLemmas.{is_ended}
use Rattle.mono_limit.proofs.laws.answers_for_good.Goals as goal

pub returns-clause-spent : goal.returns-clause-spent
returns-clause-spent g c = λ r s at left x polls. (is_ended g.G.FnMut g.F.TaskFuture g.C.Context.number g.C.Context.nanos g.C.TimeContext.sleeps g.C.Context.work g.C.Context.reaches r at (Ready x) s left polls).over x refl

pub returns-clause-last : goal.returns-clause-last
returns-clause-last g c = λ r s at left e polls. (is_ended g.G.FnMut g.F.TaskFuture g.C.Context.number g.C.Context.nanos g.C.TimeContext.sleeps g.C.Context.work g.C.Context.reaches r at (Ready (Err (Last e))) s left polls).last e refl
