use Rattle.std.proofs.Common.{◌≡◌, ◌++◌, List, length, take, drop}
use Rattle.mono_combine.specs.BranchLists.{EachInTurn, GivesUp}
use Rattle.mono_combine.specs.TryLists.{earlier, first_failure}
use Rattle.mono_combine.proofs.try_list.give_up_failing.Given as goal

-- the turns that are still to come go on from those that were taken
abbrev pub invariant-loop-i : goal.invariant-loop-i
invariant-loop-i g l = record {
  same_length : length l.branches.items ≡ length l.initial.branches.items;
  given_up : (rest : List _) (d : _) → EachInTurn (GivesUp g.T.TaskFuture) (drop l.i l.branches.items) l.cx rest d → EachInTurn (GivesUp g.T.TaskFuture) l.initial.branches.items l.initial.cx (take l.i l.branches.items ++ rest) d;
  error : earlier l.first (first_failure (drop l.i l.branches.items)) ≡ first_failure l.initial.branches.items;
  reached : g.C.Context.reaches l.initial.cx l.cx;
}
