-- Whether the branches of a select of a list may have their turns, and the list after all were given up.
use Rattle.std.proofs.Common.{◌≡◌, ℕ, zero, suc, ◌<◌, Bool, false, List, [], ◌∷◌, length, get_or, arith}
use Rattle.std.specs.List.{list_any, All}
use Rattle.std.proofs.lemmas.List.Elements.{All-nil, All-cons}
use Rattle.std.proofs.lemmas.List.Folds.{list_any_none}
use Rattle.mono_task.specs.Members.{FutureOf}
use Rattle.mono_combine.specs.declared.branch.Branch.{Branch}
use Rattle.mono_combine.specs.Looks.{branch_spent, BranchCanPoll, BranchGives}
use Rattle.mono_combine.specs.BranchLists.{EachInTurn}
use Rattle.mono_combine.specs.ListSelects.{MayLook, BranchEnds, branch_at}
use Rattle.mono_combine.proofs.ListLemmas.{neither}

none_in : {X : Type 0} (p : X → Bool) (xs : List X) (k : ℕ) (d : X) → list_any p xs ≡ false → k < length xs → p (get_or xs k d) ≡ false
none_in p [] k d none less = absurd (omega arith)
none_in p (x ∷ xs) zero d none less = (neither (p x) (list_any p xs) none).0
none_in p (x ∷ xs) (suc k) d none less = none_in p xs k d (neither (p x) (list_any p xs) none).1 (omega arith)

module _ {T C O : Type 0} (future : FutureOf T C O) where
  pub may_look : (bs : List (Branch T)) → list_any (branch_spent future) bs ≡ false → All (BranchCanPoll future) bs → All (MayLook future) bs
  may_look bs unspent can = λ k d less. (none_in (branch_spent future) bs k d unspent less, can k d less)

  pub unspent_of : (bs : List (Branch T)) → All (MayLook future) bs → list_any (branch_spent future) bs ≡ false
  unspent_of bs may = list_any_none (branch_spent future) bs (λ k d less. (may k d less).0)

  pub can_of : (bs : List (Branch T)) → All (MayLook future) bs → All (BranchCanPoll future) bs
  can_of bs may = λ k d less. (may k d less).1

  -- Branches that were given up give nothing.
  pub ended_give_none : (bs left : List (Branch T)) (c d : C) (k : ℕ) (x : O) → EachInTurn (BranchEnds future) bs c left d → BranchGives future.gives (branch_at left k) x → ⊥
  ended_give_none [] [] c d k x ended h = h
  ended_give_none [] (y ∷ left) c d k x ended h = ended
  ended_give_none (b ∷ bs) [] c d k x ended h = ended
  ended_give_none (b ∷ bs) (y ∷ left) c d zero x ended h = rw ended.1.0 at h
  ended_give_none (b ∷ bs) (y ∷ left) c d (suc k) x ended h = ended_give_none bs left ended.0 d k x ended.2 h

  pub ended_can : (bs left : List (Branch T)) (c d : C) → EachInTurn (BranchEnds future) bs c left d → All (BranchCanPoll future) left
  ended_can [] [] c d ended = All-nil (BranchCanPoll future)
  ended_can [] (x ∷ left) c d ended = absurd ended
  ended_can (b ∷ bs) [] c d ended = absurd ended
  ended_can (b ∷ bs) (x ∷ left) c d ended = All-cons (BranchCanPoll future) x left (rw ended.1.0 tt) (ended_can bs left ended.0 d ended.2)
