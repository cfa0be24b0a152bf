use Rattle.std.proofs.Common.{◌≡◌, ◌++◌, List, length, take, drop}
use Rattle.mono_combine.specs.BranchLists.{EachInTurn}
use Rattle.mono_combine.specs.ListSelects.{BranchEnds}
use Rattle.mono_combine.proofs.row.end_each.Given as goal

-- the turns that are still to come go on from those that were taken
abbrev pub invariant-loop-i : goal.invariant-loop-i
invariant-loop-i g l = record {
  same_length : length l.branches.items ≡ length l.initial.branches.items;
  ended : (rest : List _) (d : _) → EachInTurn (BranchEnds g.T.TaskFuture) (drop l.i l.branches.items) l.cx rest d → EachInTurn (BranchEnds g.T.TaskFuture) l.initial.branches.items l.initial.cx (take l.i l.branches.items ++ rest) d;
  reached : g.C.Context.reaches l.initial.cx l.cx;
}
