-- Any poll may poll a join, a try or a select in each state, if it may poll each of their futures in each state.
use Rattle.std.proofs.Common.{List, [], ◌∷◌}
use Rattle.std.specs.List.{All}
use Rattle.std.proofs.lemmas.List.Elements.{All-nil, All-cons}
use Rattle.mono_task.specs.Members.{FutureOf}
use Rattle.mono_combine.specs.declared.branch.Branch.{Branch}
use Rattle.mono_combine.specs.declared.branch.Branch.TheVariants as branch
use Rattle.mono_combine.specs.declared.maybe.MaybeDone.{MaybeDone}
use Rattle.mono_combine.specs.declared.maybe.MaybeDone.TheVariants as maybe
use Rattle.mono_combine.specs.Branches.{MaybeCanPoll}
use Rattle.mono_combine.specs.BranchLists.{AllCanPoll}
use Rattle.mono_combine.specs.Looks.{BranchCanPoll}

module _ {C T O : Type 0} (future : FutureOf T C O) (can : (f : T) → future.can_poll f) where
  pub maybe_can : (m : MaybeDone T O) → MaybeCanPoll future m
  maybe_can (maybe.Future f) = can f
  maybe_can (maybe.Done x) = tt
  maybe_can maybe.Gone = tt

  pub maybe_list_can : (ms : List (MaybeDone T O)) → AllCanPoll future ms
  maybe_list_can [] = tt
  maybe_list_can (m ∷ ms) = (maybe_can m, maybe_list_can ms)

  pub branch_can : (b : Branch T) → BranchCanPoll future b
  branch_can (branch.Live f) = can f
  branch_can (branch.Out f) = tt
  branch_can branch.Gone = tt

  pub branch_list_can : (bs : List (Branch T)) → All (BranchCanPoll future) bs
  branch_list_can [] = All-nil (BranchCanPoll future)
  branch_list_can (b ∷ bs) = All-cons (BranchCanPoll future) b bs (branch_can b) (branch_list_can bs)
