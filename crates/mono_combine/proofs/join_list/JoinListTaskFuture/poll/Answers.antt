use Rattle.std.proofs.Common.{◌≡◌, false, refl, sym, ap, ◌∙◌, arith, length}
use Rattle.std.specs.Prelude.{vec_len}
use Rattle.mono_model.specs.declared.poll.Poll.TheVariants.{Ready}
use Rattle.mono_combine.proofs.ListLemmas.{neither, may_from, can_from, unspent_from, joins_waiting, joins_all}
use Rattle.std.specs.List.{filter_map}
use Rattle.mono_combine.specs.Branches.{MaybeGives, output_of}
use Rattle.mono_combine.proofs.GivesLemmas.{narrows_each, all_given}
use Rattle.mono_combine.proofs.join_list.JoinListTaskFuture.poll.Goals as goal

pub poll_each-requires : goal.poll_each-requires
poll_each-requires g c = may_from g.T.TaskFuture _ (neither _ _ c.requires.unspent).1 c.requires.callable

pub invariant_of-self : goal.invariant_of-self
invariant_of-self g c = record { no_outputs = c.args.self.now.no_outputs; room = rw c.poll_each.ensures.length c.args.self.now.room }

pub returns-then-poll_each-clause-polled : goal.returns-then-poll_each-clause-polled
returns-then-poll_each-clause-polled g c = record {
  polled = c.poll_each.new.branches.items;
  turns = c.poll_each.ensures.polled;
  answer = joins_waiting g.T.TaskFuture _ c.poll_each.ensures.again (sym c.poll_each.ensures.waits ∙ c.if-poll_each.true);
  waits = (refl, (neither _ _ c.requires.unspent).0);
  ends = tt;
}

pub returns-then-poll_each-clause-again : goal.returns-then-poll_each-clause-again
returns-then-poll_each-clause-again g c =
    let fresh : c.args.self.now.has_answered ≡ false = (neither _ _ c.requires.unspent).0 in
    rw fresh (unspent_from g.T.TaskFuture _ c.poll_each.ensures.again)

pub returns-then-poll_each-clause-callable : goal.returns-then-poll_each-clause-callable
returns-then-poll_each-clause-callable g c = can_from g.T.TaskFuture _ c.poll_each.ensures.again

pub collect-requires : goal.collect-requires
collect-requires g c =
    let outputs = c.replace-outputs.ensures.value in
    let branches = c.replace-branches.ensures.value in
    let none : vec_len c.replace-outputs.result ≡ 0 = ap (λ v. vec_len v) outputs ∙ c.args.self.now.outputs.ok.0 ∙ ap length c.args.self.now.no_outputs in
    let some = c.into_iter.ensures.len ∙ ap (λ v. vec_len v) branches ∙ c.poll_each.ensures.length in
    let room = rw (sym outputs) at c.args.self.now.room in
    omega (arith, none, some, room)

pub returns-clause-polled : goal.returns-clause-polled
returns-clause-polled g c =
    let none = ap (λ v. v.items) c.replace-outputs.ensures.value ∙ c.args.self.now.no_outputs in
    let some = c.into_iter.ensures.rest ∙ ap (λ v. v.items) c.replace-branches.ensures.value in
    record {
      polled = c.poll_each.new.branches.items;
      turns = c.poll_each.ensures.polled;
      answer = ap (λ xs. Ready xs) (c.collect.ensures ∙ (rw (none, some) refl)) ∙ joins_all g.T.TaskFuture _ c.poll_each.ensures.again (sym c.poll_each.ensures.waits ∙ c.if-poll_each.false);
      waits = tt;
      ends = (refl, rw (ap (λ v. v.items) c.replace-branches.ensures.after ∙ c.new.ensures.items) tt);
    }

pub returns-then-poll_each-clause-reached : goal.returns-then-poll_each-clause-reached
returns-then-poll_each-clause-reached g c = c.poll_each.ensures.reached

pub returns-clause-reached : goal.returns-clause-reached
returns-clause-reached g c = c.poll_each.ensures.reached

pub returns-then-poll_each-clause-same : goal.returns-then-poll_each-clause-same
returns-then-poll_each-clause-same g c = λ v h. narrows_each (MaybeGives g.T.TaskFuture.gives) (MaybeGives g.T.TaskFuture.gives) (λ n m x to. to x) _ _ v.items c.poll_each.ensures.narrows h

pub returns-clause-given : goal.returns-clause-given
returns-clause-given g c =
    let none = ap (λ v. v.items) c.replace-outputs.ensures.value ∙ c.args.self.now.no_outputs in
    let some = c.into_iter.ensures.rest ∙ ap (λ v. v.items) c.replace-branches.ensures.value in
    let outputs : c.collect.new.outputs.items ≡ filter_map output_of c.poll_each.new.branches.items = c.collect.ensures ∙ (rw (none, some) refl) in
    let given = all_given g.T.TaskFuture c.poll_each.new.branches.items c.poll_each.ensures.again (sym c.poll_each.ensures.waits ∙ c.if-poll_each.false) in
    narrows_each (MaybeGives g.T.TaskFuture.gives) (MaybeGives g.T.TaskFuture.gives) (λ n m x to. to x) _ _ c.collect.new.outputs.items c.poll_each.ensures.narrows (rw outputs given)
