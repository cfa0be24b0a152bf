use Rattle.std.proofs.Common.{◌≡◌, false, take}
use Rattle.std.specs.List.{list_any}
use Rattle.mono_combine.specs.Branches.{maybe_spent}
use Rattle.mono_combine.proofs.list.any_spent.Given as goal

abbrev pub invariant-loop-branch : goal.invariant-loop-branch
invariant-loop-branch g l = list_any (maybe_spent g.T.TaskFuture) (take l.branch-index l.branches.items) ≡ false
