use Rattle.std.proofs.Common.{◌≡◌, ◌<◌, ◌∙◌, false, refl, sym, length, get_or, rules}
use Rattle.std.proofs.lemmas.List.{length-set}
use Rattle.mono_combine.specs.Branches.{MaybeGives}
use Rattle.mono_combine.specs.TryLists.{TriesOnce, has_failed}
use Rattle.mono_combine.proofs.ListLemmas.{turn_more, may_later, may_more, all_turns, polled_again, if_pending}
use Rattle.mono_combine.proofs.TryListLemmas.{tested, none_more, ends_here, all_may, one_now}
use Rattle.mono_combine.proofs.GivesLemmas.{narrows_itself, narrows_set}
use Rattle.mono_combine.proofs.try_list.poll_until_failed.Goals as goal

pub returns-then-has_failed-clause-polled : goal.returns-then-has_failed-clause-polled
returns-then-has_failed-clause-polled g c =
    let xs = c.loop-i.branches.items in
    let less : c.loop-i.i < length c.loop-i.branches.items = search rules in
    let is : c.index_mut.result.now ≡ get_or c.loop-i.branches.items c.loop-i.i c.index_mut.result.now = search rules in
    ends_here g.T.TaskFuture xs _ _ _ less is _ _ _ _ c.loop-i.invariant.polled c.poll.ensures.polled.0
    (tested xs _ _ _ less c.index.ensures _ _ c.has_failed.ensures c.if-has_failed.true)

pub returns-then-has_failed-clause-failed : goal.returns-then-has_failed-clause-failed
returns-then-has_failed-clause-failed g c =
    let less : c.loop-i.i < length c.loop-i.branches.items = search rules in
    one_now c.loop-i.branches.items _ _ less (tested c.loop-i.branches.items _ _ _ less c.index.ensures _ _ c.has_failed.ensures c.if-has_failed.true)

pub returns-then-has_failed-clause-again : goal.returns-then-has_failed-clause-again
returns-then-has_failed-clause-again g c =
    let xs = c.loop-i.branches.items in
    let less : c.loop-i.i < length c.loop-i.branches.items = search rules in
    let is : c.index_mut.result.now ≡ get_or c.loop-i.branches.items c.loop-i.i c.index_mut.result.now = search rules in
    all_may g.T.TaskFuture xs _ _ _ less is
    (may_more g.T.TaskFuture xs _ _ less c.loop-i.invariant.taken (polled_again g.T.TaskFuture _ _ _ _ _ c.poll.ensures.polled.0 c.poll.ensures.polled.1 (if_pending _ _ c.poll.ensures.again), c.poll.ensures.callable))
    (may_later g.T.TaskFuture xs _ _ _ less is c.loop-i.invariant.to_come)

pub loop-i-preserved : goal.loop-i-preserved
loop-i-preserved g c =
    let xs = c.loop-i.branches.items in
    let less : c.loop-i.i < length c.loop-i.branches.items = search rules in
    let is : c.index_mut.result.now ≡ get_or c.loop-i.branches.items c.loop-i.i c.index_mut.result.now = search rules in
    let well : has_failed c.poll.new.self ≡ false = tested xs _ _ _ less c.index.ensures _ _ c.has_failed.ensures c.if-has_failed.false in
    record {
      same_length = length-set xs _ _ ∙ c.loop-i.invariant.same_length;
      to_come = may_later g.T.TaskFuture xs _ _ _ less is c.loop-i.invariant.to_come;
      taken = may_more g.T.TaskFuture xs _ _ less c.loop-i.invariant.taken (polled_again g.T.TaskFuture _ _ _ _ _ c.poll.ensures.polled.0 c.poll.ensures.polled.1 (if_pending _ _ c.poll.ensures.again), c.poll.ensures.callable);
      polled = turn_more (TriesOnce g.T.TaskFuture) xs _ _ _ less is _ _ _ _ c.loop-i.invariant.polled (record { advanced = c.poll.ensures.polled.0; failed = sym well });
      narrows = narrows_set (MaybeGives g.T.TaskFuture.gives) xs _ _ _ _ less is c.poll.ensures.narrows c.loop-i.invariant.narrows;
      none_failed = none_more xs _ _ less c.loop-i.invariant.none_failed well;
      reached = g.met.C.Context.reaches_on _ _ _ c.loop-i.invariant.reached c.poll.ensures.reached;
    }

pub returns-clause-polled : goal.returns-clause-polled
returns-clause-polled g c = all_turns (TriesOnce g.T.TaskFuture) _ _ _ _ c.loop-i.i (search rules) c.loop-i.invariant.polled

pub returns-then-has_failed-clause-reached : goal.returns-then-has_failed-clause-reached
returns-then-has_failed-clause-reached g c = g.met.C.Context.reaches_on _ _ _ c.loop-i.invariant.reached c.poll.ensures.reached

pub returns-clause-reached : goal.returns-clause-reached
returns-clause-reached g c = c.loop-i.invariant.reached

pub returns-then-has_failed-clause-narrows : goal.returns-then-has_failed-clause-narrows
returns-then-has_failed-clause-narrows g c =
    let xs = c.loop-i.branches.items in
    let less : c.loop-i.i < length c.loop-i.branches.items = search rules in
    let is : c.index_mut.result.now ≡ get_or c.loop-i.branches.items c.loop-i.i c.index_mut.result.now = search rules in
    narrows_set (MaybeGives g.T.TaskFuture.gives) xs _ _ _ _ less is c.poll.ensures.narrows c.loop-i.invariant.narrows

pub returns-clause-narrows : goal.returns-clause-narrows
returns-clause-narrows g c = c.loop-i.invariant.narrows

pub loop-i-init : goal.loop-i-init
loop-i-init g c = record {
  same_length = refl;
  to_come = c.requires;
  taken = tt;
  polled = λ rest d h. h;
  narrows = narrows_itself (MaybeGives g.T.TaskFuture.gives) _;
  none_failed = refl;
  reached = g.met.C.Context.reaches_itself _;
}
