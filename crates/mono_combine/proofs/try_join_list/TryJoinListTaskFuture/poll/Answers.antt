use Rattle.std.proofs.Common.{◌≡◌, true, false, Ok, refl, sym, ap, ◌∙◌, arith, length}
use Rattle.std.specs.Prelude.{vec_len}
use Rattle.mono_model.specs.declared.poll.Poll.TheVariants.{Ready}
use Rattle.mono_combine.proofs.ListLemmas.{neither, may_from, can_from, unspent_from}
use Rattle.mono_combine.proofs.TryListLemmas.{tries_waiting, tries_all, tries_failed, one_fails, nothing_left, all_gone, gone_can_poll}
use Rattle.std.specs.List.{filter_map}
use Rattle.mono_combine.specs.Branches.{MaybeGives}
use Rattle.mono_combine.specs.TryLists.{GivesValue, value_in, result_as}
use Rattle.mono_combine.proofs.GivesLemmas.{narrows_each, values_given, error_given, error_before, result_before}
use Rattle.mono_combine.proofs.try_join_list.TryJoinListTaskFuture.poll.Goals as goal

pub poll_until_failed-requires : goal.poll_until_failed-requires
poll_until_failed-requires g c = may_from g.T.TaskFuture _ (neither _ _ c.requires.unspent).1 c.requires.callable

pub unreachable-requires : goal.unreachable-requires
unreachable-requires g c = one_fails c.poll_until_failed.new.branches.items (sym c.poll_until_failed.ensures.failed ∙ c.if-poll_until_failed.true) (sym c.give_up_failing.ensures.error ∙ c.in-None.is)

pub returns-then-poll_until_failed-clause-polled : goal.returns-then-poll_until_failed-clause-polled
returns-then-poll_until_failed-clause-polled g c = record {
  polled = c.poll_until_failed.new.branches.items;
  one_failed = true;
  after = c.poll_until_failed.new.cx;
  turns = rw c.if-poll_until_failed.true at c.poll_until_failed.ensures.polled;
  answer = tries_failed c.poll_until_failed.new.branches.items _ (sym c.give_up_failing.ensures.error ∙ c.in-Some.is);
  waits = tt;
  ends = (refl, (_, c.give_up_failing.ensures.given_up), all_gone g.T.TaskFuture _ _ _ _ c.give_up_failing.ensures.given_up);
}

pub returns-then-poll_until_failed-clause-callable : goal.returns-then-poll_until_failed-clause-callable
returns-then-poll_until_failed-clause-callable g c = gone_can_poll g.T.TaskFuture _ _ _ _ c.give_up_failing.ensures.given_up

pub returns-then-any_waiting-clause-polled : goal.returns-then-any_waiting-clause-polled
returns-then-any_waiting-clause-polled g c =
    let waits = rw c.deref.ensures.value at c.any_waiting.ensures in
    record {
      polled = c.poll_until_failed.new.branches.items;
      one_failed = false;
      after = c.poll_until_failed.new.cx;
      turns = rw c.if-poll_until_failed.false at c.poll_until_failed.ensures.polled;
      answer = tries_waiting g.T.TaskFuture _ c.poll_until_failed.ensures.again (sym c.poll_until_failed.ensures.failed ∙ c.if-poll_until_failed.false) (sym waits ∙ c.if-any_waiting.true);
      waits = (refl, (neither _ _ c.requires.unspent).0, refl);
      ends = tt;
    }

pub returns-then-any_waiting-clause-again : goal.returns-then-any_waiting-clause-again
returns-then-any_waiting-clause-again g c =
    let fresh : c.args.self.now.has_answered ≡ false = (neither _ _ c.requires.unspent).0 in
    rw fresh (unspent_from g.T.TaskFuture _ c.poll_until_failed.ensures.again)

pub returns-then-any_waiting-clause-callable : goal.returns-then-any_waiting-clause-callable
returns-then-any_waiting-clause-callable g c = can_from g.T.TaskFuture _ c.poll_until_failed.ensures.again

pub collect_values-requires : goal.collect_values-requires
collect_values-requires g c =
    let values = c.replace-values.ensures.value in
    let branches = c.replace-branches.ensures.value in
    let none : vec_len c.replace-values.result ≡ 0 = ap (λ v. vec_len v) values ∙ c.args.self.now.values.ok.0 ∙ ap length c.args.self.now.no_values in
    let some = c.into_iter.ensures.len ∙ ap (λ v. vec_len v) branches ∙ c.poll_until_failed.ensures.length in
    let room = rw (sym values) at c.args.self.now.room in
    omega (arith, none, some, room)

pub returns-clause-polled : goal.returns-clause-polled
returns-clause-polled g c =
    let waits = rw c.deref.ensures.value at c.any_waiting.ensures in
    let none = ap (λ v. v.items) c.replace-values.ensures.value ∙ c.args.self.now.no_values in
    let some = c.into_iter.ensures.rest ∙ ap (λ v. v.items) c.replace-branches.ensures.value in
    let waiting = sym waits ∙ c.if-any_waiting.false in
    record {
      polled = c.poll_until_failed.new.branches.items;
      one_failed = false;
      after = c.poll_until_failed.new.cx;
      turns = rw c.if-poll_until_failed.false at c.poll_until_failed.ensures.polled;
      answer = ap (λ xs. Ready (Ok xs)) (c.collect_values.ensures ∙ (rw (none, some) refl)) ∙ tries_all g.T.TaskFuture _ c.poll_until_failed.ensures.again (sym c.poll_until_failed.ensures.failed ∙ c.if-poll_until_failed.false) waiting;
      waits = tt;
      ends = (refl, nothing_left g.T.TaskFuture _ _ waiting, rw (ap (λ v. v.items) c.replace-branches.ensures.after ∙ c.new.ensures.items) tt);
    }

pub returns-then-poll_until_failed-clause-reached : goal.returns-then-poll_until_failed-clause-reached
returns-then-poll_until_failed-clause-reached g c = g.met.C.Context.reaches_on _ _ _ c.poll_until_failed.ensures.reached c.give_up_failing.ensures.reached

pub returns-then-any_waiting-clause-reached : goal.returns-then-any_waiting-clause-reached
returns-then-any_waiting-clause-reached g c = c.poll_until_failed.ensures.reached

pub returns-clause-reached : goal.returns-clause-reached
returns-clause-reached g c = c.poll_until_failed.ensures.reached

pub returns-then-poll_until_failed-clause-given : goal.returns-then-poll_until_failed-clause-given
returns-then-poll_until_failed-clause-given g c =
    error_before g.T.TaskFuture.gives _ _ _ c.poll_until_failed.ensures.narrows (error_given g.T.TaskFuture.gives c.poll_until_failed.new.branches.items _ (sym c.give_up_failing.ensures.error ∙ c.in-Some.is))

pub returns-then-any_waiting-clause-same : goal.returns-then-any_waiting-clause-same
returns-then-any_waiting-clause-same g c = λ r h. result_before g.T.TaskFuture.gives _ _ (result_as (λ v. v.items) r) c.poll_until_failed.ensures.narrows h

pub returns-clause-given : goal.returns-clause-given
returns-clause-given g c =
    let waits = rw c.deref.ensures.value at c.any_waiting.ensures in
    let none = ap (λ v. v.items) c.replace-values.ensures.value ∙ c.args.self.now.no_values in
    let some = c.into_iter.ensures.rest ∙ ap (λ v. v.items) c.replace-branches.ensures.value in
    let values : c.collect_values.new.values.items ≡ filter_map value_in c.poll_until_failed.new.branches.items = c.collect_values.ensures ∙ (rw (none, some) refl) in
    let given = values_given g.T.TaskFuture c.poll_until_failed.new.branches.items c.poll_until_failed.ensures.again (sym c.poll_until_failed.ensures.failed ∙ c.if-poll_until_failed.false) (sym waits ∙ c.if-any_waiting.false) in
    narrows_each (MaybeGives g.T.TaskFuture.gives) (GivesValue g.T.TaskFuture.gives) (λ n m x to. to (Ok x)) _ _ c.collect_values.new.values.items c.poll_until_failed.ensures.narrows (rw values given)
