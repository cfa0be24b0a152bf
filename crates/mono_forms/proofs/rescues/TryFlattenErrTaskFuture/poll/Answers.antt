use Rattle.std.proofs.Common.{Ok, Err, refl}
use Rattle.mono_forms.specs.Rescues.{RescueGives}
use Rattle.mono_forms.proofs.AnswerLemmas.{ready_to, same_to}
use Rattle.mono_forms.proofs.rescues.TryFlattenErrTaskFuture.poll.Goals as goal

pub returns-in-Ready-Err-clause-given : goal.returns-in-Ready-Err-clause-given
returns-in-Ready-Err-clause-given g c =
    let Gives = RescueGives g.A.TaskFuture.gives g.B.TaskFuture.gives in
    ready_to c.poll_second.result (Gives c.go_on.new.self) (Gives c.args.self.now)
    (λ y h. rw c.in-First.is (Err c.in-Ready-Err.b, rw c.in-Ready-Err.field-0-is at c.in-Ready-Err.ensures.given, rw c.go_on.ensures.next at h)) c.poll_second.ensures.given

pub returns-in-Ready-Err-clause-same : goal.returns-in-Ready-Err-clause-same
returns-in-Ready-Err-clause-same g c =
    let Gives = RescueGives g.A.TaskFuture.gives g.B.TaskFuture.gives in
    same_to c.poll_second.result (Gives c.poll_second.new.self) (Gives c.go_on.new.self) (Gives c.args.self.now)
    (λ y h. rw c.in-First.is (Err c.in-Ready-Err.b, rw c.in-Ready-Err.field-0-is at c.in-Ready-Err.ensures.given, rw c.go_on.ensures.next at h)) c.poll_second.ensures.same

pub returns-in-Ready-Ok-clause-given : goal.returns-in-Ready-Ok-clause-given
returns-in-Ready-Ok-clause-given g c = rw c.in-First.is (Ok c.in-Ready-Ok.value, rw c.in-Ready-Ok.field-0-is at c.in-Ready-Ok.ensures.given, refl)

pub returns-in-Pending-clause-same : goal.returns-in-Pending-clause-same
returns-in-Pending-clause-same g c = λ x h. rw c.in-First.is (h.0, c.in-Pending.ensures.same h.0 h.1, h.2)
