-- A form over futures that are never spent, and that any poll may poll, may be polled.
use Rattle.std.proofs.Common.{◌≡◌, ℕ, Bool, true, false, ◌||◌, ◌==◌, ◌+◌, ◌/◌, ◌%◌, ◌^◌, List, [], ◌∷◌, map, refl, ◌∙◌, ap}
use Rattle.std.specs.Prelude.{⊤}
use Rattle.std.specs.List.{list_any, All}
use Rattle.std.proofs.lemmas.List.Elements.{All-nil, All-cons}
use Rattle.mono_task.specs.Members.{FutureOf}
use Rattle.mono_combine.specs.declared.maybe.MaybeDone.{MaybeDone}
use Rattle.mono_combine.specs.declared.maybe.MaybeDone.TheVariants.{Future}
use Rattle.mono_combine.specs.declared.branch.Branch.{Branch}
use Rattle.mono_combine.specs.declared.branch.Branch.TheVariants.{Live, Out}
use Rattle.mono_combine.specs.BranchLists.{AllCanPoll}
use Rattle.mono_combine.specs.Looks.{BranchCanPoll}
use Rattle.mono_combine.specs.Selects.{left_out_if}
use Rattle.mono_combine.specs.ListSelects.{masked_from}

pub none_in_map : {A B : Type 0} (p : B → Bool) (h : A → B) → ((a : A) → p (h a) ≡ false) → (xs : List A) → list_any p (map h xs) ≡ false
none_in_map p h none [] = refl
none_in_map p h none (x ∷ xs) = ap (λ b. b || list_any p (map h xs)) (none x) ∙ none_in_map p h none xs

-- the facts that these futures expose
abbrev pub never : {T C O : Type 0} → FutureOf T C O
never = record { is_spent = λ f. false; can_poll = λ f. ⊤; polls = λ f c r g d. ⊤; gives = λ f x. ⊤; cancels = λ f c d. ⊤ }

pub all_can : (C O : Type 0) {T : Type 0} (fs : List T) → AllCanPoll {C = C} {T = T} {O = O} never (map Future fs)
all_can C O [] = tt
all_can C O (f ∷ fs) = (tt, all_can C O fs)

none_of : {T : Type 0} (p : Branch T → Bool) → ((f : T) → p (Live f) ≡ false) → ((f : T) → p (Out f) ≡ false) → (is_out : Bool) (f : T) → p (left_out_if is_out f) ≡ false
none_of p live out true f = out f
none_of p live out false f = live f

pub none_in_masked : {T : Type 0} (p : Branch T → Bool) → ((f : T) → p (Live f) ≡ false) → ((f : T) → p (Out f) ≡ false) → (mask k : ℕ) (fs : List T) → list_any p (masked_from mask k fs) ≡ false
none_in_masked p live out mask k [] = refl
none_in_masked p live out mask k (f ∷ fs) = ap (λ b. b || list_any p (masked_from mask (k + 1) fs)) (none_of p live out (mask / 2 ^ k % 2 == 1) f) ∙ none_in_masked p live out mask (k + 1) fs

module _ {C T O : Type 0} (future : FutureOf T C O) where
  one_can : ((f : T) → future.can_poll f) → (is_out : Bool) (f : T) → BranchCanPoll future (left_out_if is_out f)
  one_can can true f = tt
  one_can can false f = can f

  pub all_masked_can : ((f : T) → future.can_poll f) → (mask k : ℕ) (fs : List T) → All (BranchCanPoll future) (masked_from mask k fs)
  all_masked_can can mask k [] = All-nil (BranchCanPoll future)
  all_masked_can can mask k (f ∷ fs) = All-cons (BranchCanPoll future) (left_out_if (mask / 2 ^ k % 2 == 1) f) (masked_from mask (k + 1) fs) (one_can can (mask / 2 ^ k % 2 == 1) f) (all_masked_can can mask (k + 1) fs)
