use Rattle.std.proofs.Common.{◌≡◌, false, take}
use Rattle.std.specs.List.{list_any}
use Rattle.mono_combine.specs.Looks.{branch_spent}
use Rattle.mono_combine.proofs.row.any_branch_spent.Given as goal

abbrev pub invariant-loop-branch : goal.invariant-loop-branch
invariant-loop-branch g l = list_any (branch_spent g.T.TaskFuture) (take l.branch-index l.branches.items) ≡ false
