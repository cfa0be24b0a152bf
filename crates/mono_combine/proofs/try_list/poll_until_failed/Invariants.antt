use Rattle.std.proofs.Common.{◌≡◌, ◌++◌, false, List, length, take, drop}
use Rattle.std.specs.List.{list_any, AllZip}
use Rattle.mono_combine.specs.Branches.{MaybeNarrows}
use Rattle.mono_combine.specs.BranchLists.{AllMayPoll, EachInTurn}
use Rattle.mono_combine.specs.TryLists.{TriesOnce, has_failed}
use Rattle.mono_combine.proofs.try_list.poll_until_failed.Given as goal

-- The turns to come continue those that were taken, none of which has failed.
abbrev pub invariant-loop-i : goal.invariant-loop-i
invariant-loop-i g l = record {
  same_length : length l.branches.items ≡ length l.initial.branches.items;
  to_come : AllMayPoll g.T.TaskFuture (drop l.i l.branches.items);
  taken : AllMayPoll g.T.TaskFuture (take l.i l.branches.items);
  polled : (rest : List _) (t : _) → EachInTurn (TriesOnce g.T.TaskFuture) (drop l.i l.branches.items) (record { one_failed = false; cx = l.cx }) rest t → EachInTurn (TriesOnce g.T.TaskFuture) l.initial.branches.items (record { one_failed = false; cx = l.initial.cx }) (take l.i l.branches.items ++ rest) t;
  narrows : AllZip (MaybeNarrows g.T.TaskFuture.gives) l.branches.items l.initial.branches.items;
  none_failed : list_any has_failed (take l.i l.branches.items) ≡ false;
  reached : g.C.Context.reaches l.initial.cx l.cx;
}
