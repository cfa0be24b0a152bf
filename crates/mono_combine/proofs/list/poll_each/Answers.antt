use Rattle.std.proofs.Common.{◌≡◌, ◌<◌, ◌∙◌, refl, sym, length, get_or, rules}
use Rattle.std.proofs.lemmas.List.{length-set}
use Rattle.mono_combine.specs.Branches.{Advances, is_waiting, MaybeGives}
use Rattle.mono_combine.proofs.ListLemmas.{turn_more, may_later, may_more, any_after, or_true, or_false, all_turns, polled_again, if_pending}
use Rattle.mono_combine.proofs.GivesLemmas.{narrows_itself, narrows_set}
use Rattle.mono_combine.proofs.list.poll_each.Goals as goal
use Rattle.mono_combine.proofs.list.poll_each.Goals.{then-is_pending, else-is_pending}

pub loop-i-preserved : goal.loop-i-preserved
loop-i-preserved g c =
    let xs = c.loop-i.branches.items in
    let less : c.loop-i.i < length c.loop-i.branches.items = search rules in
    let is : c.index_mut.result.now ≡ get_or c.loop-i.branches.items c.loop-i.i c.index_mut.result.now = search rules in
    record {
      same_length = length-set xs _ _ ∙ c.loop-i.invariant.same_length;
      to_come = may_later g.T.TaskFuture xs _ _ _ less is c.loop-i.invariant.to_come;
      taken = may_more g.T.TaskFuture xs _ _ less c.loop-i.invariant.taken (polled_again g.T.TaskFuture _ _ _ _ _ c.poll.ensures.polled.0 c.poll.ensures.polled.1 (if_pending _ _ c.poll.ensures.again), c.poll.ensures.callable);
      polled = turn_more (Advances g.T.TaskFuture) xs _ _ _ less is _ _ _ _ c.loop-i.invariant.polled c.poll.ensures.polled.0;
      narrows = narrows_set (MaybeGives g.T.TaskFuture.gives) xs _ _ _ _ less is c.poll.ensures.narrows c.loop-i.invariant.narrows;
      waits = elim c.if-is_pending.branch [
        | then-is_pending w ↦ w.waits-is ∙ sym (or_true c.loop-i.waits) ∙ any_after is_waiting xs _ _ less _ c.loop-i.invariant.waits _ (sym c.poll.ensures.polled.1 ∙ sym c.is_pending.ensures ∙ w.if-is_pending.true)
        | else-is_pending w ↦ w.waits-is ∙ sym (or_false c.loop-i.waits) ∙ any_after is_waiting xs _ _ less _ c.loop-i.invariant.waits _ (sym c.poll.ensures.polled.1 ∙ sym c.is_pending.ensures ∙ w.if-is_pending.false)
      ];
      reached = g.met.C.Context.reaches_on _ _ _ c.loop-i.invariant.reached c.poll.ensures.reached;
    }

pub returns-clause-polled : goal.returns-clause-polled
returns-clause-polled g c = all_turns (Advances g.T.TaskFuture) _ _ _ _ c.loop-i.i (search rules) c.loop-i.invariant.polled

pub returns-clause-reached : goal.returns-clause-reached
returns-clause-reached g c = c.loop-i.invariant.reached

pub returns-clause-narrows : goal.returns-clause-narrows
returns-clause-narrows g c = c.loop-i.invariant.narrows

pub loop-i-init : goal.loop-i-init
loop-i-init g c = record {
  same_length = refl;
  to_come = c.requires;
  taken = tt;
  polled = λ rest d h. h;
  narrows = narrows_itself (MaybeGives g.T.TaskFuture.gives) _;
  waits = refl;
  reached = g.met.C.Context.reaches_itself _;
}
