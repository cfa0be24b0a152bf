use Rattle.std.proofs.Common.{◌≡◌, false, take}
use Rattle.std.specs.List.{list_any}
use Rattle.mono_combine.specs.Branches.{is_waiting}
use Rattle.mono_combine.proofs.try_list.any_waiting.Given as goal

abbrev pub invariant-loop-branch : goal.invariant-loop-branch
invariant-loop-branch g l = list_any is_waiting (take l.branch-index l.branches) ≡ false
