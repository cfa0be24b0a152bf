use Rattle.std.proofs.Common.{◌≡◌, ◌++◌, List, length, take, drop}
use Rattle.std.specs.List.{list_any, AllZip}
use Rattle.mono_combine.specs.Branches.{Advances, is_waiting, MaybeNarrows}
use Rattle.mono_combine.specs.BranchLists.{AllMayPoll, EachInTurn}
use Rattle.mono_combine.proofs.list.poll_each.Given as goal

-- the turns that are still to come go on from those that were taken
abbrev pub invariant-loop-i : goal.invariant-loop-i
invariant-loop-i g l = record {
  same_length : length l.branches.items ≡ length l.initial.branches.items;
  to_come : AllMayPoll g.T.TaskFuture (drop l.i l.branches.items);
  taken : AllMayPoll g.T.TaskFuture (take l.i l.branches.items);
  polled : (rest : List _) (d : _) → EachInTurn (Advances g.T.TaskFuture) (drop l.i l.branches.items) l.cx rest d → EachInTurn (Advances g.T.TaskFuture) l.initial.branches.items l.initial.cx (take l.i l.branches.items ++ rest) d;
  narrows : AllZip (MaybeNarrows g.T.TaskFuture.gives) l.branches.items l.initial.branches.items;
  waits : l.waits ≡ list_any is_waiting (take l.i l.branches.items);
  reached : g.C.Context.reaches l.initial.cx l.cx;
}
