use Rattle.std.proofs.Common.{◌≡◌, None, Ok, refl, inl, inr, sym, ◌∙◌, rules}
use Rattle.mono_combine.proofs.FailureLemmas.{first_failed, second_failed, kept}
use Rattle.mono_combine.proofs.SuccessLemmas.{both_there, can_without}
use Rattle.mono_combine.proofs.GivesLemmas.{failure_given}
use Rattle.mono_combine.proofs.try_joins.TryJoin2TaskFuture.poll.Goals as goal

pub returns-in-Some-clause-polled : goal.returns-in-Some-clause-polled
returns-in-Some-clause-polled g c = first_failed g.A.TaskFuture g.B.TaskFuture _ _ _ _ _ _ _ _ c.poll.ensures.polled.0 (sym c.in-Some.is ∙ c.take_failure.ensures.error) c.take_failure.ensures.left c.give_up.ensures.gone c.give_up.ensures.cancelled

pub returns-in-Some-take_failure-clause-polled : goal.returns-in-Some-take_failure-clause-polled
returns-in-Some-take_failure-clause-polled g c =
    let none : c.take_failure.result ≡ None = search rules in
    let succeeded = sym c.take_failure.ensures.error ∙ none in
    let same = c.take_failure.ensures.left ∙ kept c.poll.new.self succeeded in
    second_failed g.A.TaskFuture g.B.TaskFuture _ _ _ _ _ _ _ _ _ _ c.poll.ensures.polled.0 succeeded c.poll-2.ensures.polled.0
    (sym c.in-Some-take_failure.is ∙ c.take_failure-2.ensures.error) c.take_failure-2.ensures.left c.give_up-in-Some-take_failure.ensures.gone (rw same at c.give_up-in-Some-take_failure.ensures.cancelled)

pub returns-in-Some-clause-reached : goal.returns-in-Some-clause-reached
returns-in-Some-clause-reached g c = g.met.C.Context.reaches_on _ _ _ c.poll.ensures.reached c.give_up.ensures.reached

pub returns-in-Some-take_failure-clause-reached : goal.returns-in-Some-take_failure-clause-reached
returns-in-Some-take_failure-clause-reached g c = g.met.C.Context.reaches_on _ _ _ (g.met.C.Context.reaches_on _ _ _ c.poll.ensures.reached c.poll-2.ensures.reached) c.give_up-in-Some-take_failure.ensures.reached

pub returns-clause-reached : goal.returns-clause-reached
returns-clause-reached g c = g.met.C.Context.reaches_on _ _ _ c.poll.ensures.reached c.poll-2.ensures.reached

pub returns-in-Some-clause-callable : goal.returns-in-Some-clause-callable
returns-in-Some-clause-callable g c = (can_without g.A.TaskFuture _ _ c.take_failure.ensures.left c.poll.ensures.callable, rw c.give_up.ensures.gone tt)

pub returns-in-Some-take_failure-clause-callable : goal.returns-in-Some-take_failure-clause-callable
returns-in-Some-take_failure-clause-callable g c = (rw c.give_up-in-Some-take_failure.ensures.gone tt, can_without g.B.TaskFuture _ _ c.take_failure-2.ensures.left c.poll-2.ensures.callable)

pub returns-clause-polled : goal.returns-clause-polled
returns-clause-polled g c =
    let none : c.take_failure.result ≡ None = search rules in
    let none_either : c.take_failure-2.result ≡ None = search rules in
    let first_same = c.take_failure.ensures.left ∙ kept c.poll.new.self (sym c.take_failure.ensures.error ∙ none) in
    let second_same = c.take_failure-2.ensures.left ∙ kept c.poll-2.new.self (sym c.take_failure-2.ensures.error ∙ none_either) in
    both_there g.A.TaskFuture g.B.TaskFuture _ _ _ _ c.poll.new.self c.poll-2.new.self _ _ _ _ c.poll.ensures.polled.0 c.poll-2.ensures.polled.0
    (sym first_same ∙ c.take_value-x.ensures.output) (sym second_same ∙ c.take_value-y.ensures.output) c.take_value-x.ensures.gone c.take_value-y.ensures.gone

pub returns-clause-callable : goal.returns-clause-callable
returns-clause-callable g c = (rw c.take_value-x.ensures.gone tt, rw c.take_value-y.ensures.gone tt)

pub returns-in-Some-clause-given : goal.returns-in-Some-clause-given
returns-in-Some-clause-given g c = inl (c.poll.ensures.narrows _ (failure_given g.A.TaskFuture.gives _ _ (sym c.take_failure.ensures.error ∙ c.in-Some.is)))

pub returns-in-Some-take_failure-clause-given : goal.returns-in-Some-take_failure-clause-given
returns-in-Some-take_failure-clause-given g c = inr (c.poll-2.ensures.narrows _ (failure_given g.B.TaskFuture.gives _ _ (sym c.take_failure-2.ensures.error ∙ c.in-Some-take_failure.is)))

pub returns-clause-given : goal.returns-clause-given
returns-clause-given g c =
    let none : c.take_failure.result ≡ None = search rules in
    let none_either : c.take_failure-2.result ≡ None = search rules in
    let first_same = c.take_failure.ensures.left ∙ kept c.poll.new.self (sym c.take_failure.ensures.error ∙ none) in
    let second_same = c.take_failure-2.ensures.left ∙ kept c.poll-2.new.self (sym c.take_failure-2.ensures.error ∙ none_either) in
    (c.poll.ensures.narrows (Ok c.take_value-x.result) (rw (sym first_same ∙ c.take_value-x.ensures.output) refl), c.poll-2.ensures.narrows (Ok c.take_value-y.result) (rw (sym second_same ∙ c.take_value-y.ensures.output) refl))
