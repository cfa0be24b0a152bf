-- Two shared values as one: each keeps its tasks while the other changes.
use Rattle.std.specs.Prelude.{Bool, ◌≡◌, ℕ, List, [], ◌++◌}
use Rattle.std.proofs.Common.{refl}
use Rattle.mono_task.specs.Owed.{Keeps}
use Rattle.mono_sync.specs.declared.boths.Both.{Both}
use Rattle.mono_sync.specs.Parts.{lists_parts, first_keeps, second_keeps, nil_first, nil_second}

module _ {A B : Type 0} where
  abbrev pub first_of : Both A B → A
  first_of w = w.first

  abbrev pub second_of : Both A B → B
  second_of w = w.second

  abbrev pub with_first : Both A B → A → Both A B
  with_first w x = record w { first = x }

  abbrev pub with_second : Both A B → B → Both A B
  with_second w y = record w { second = y }

  abbrev pub lists_both : (A → List ℕ → ℕ → Bool) → (B → List ℕ → ℕ → Bool) → Both A B → List ℕ → ℕ → Bool
  lists_both = lists_parts first_of second_of

  module _ (a_lists : A → List ℕ → ℕ → Bool) (b_lists : B → List ℕ → ℕ → Bool) where
    -- the first changes alone
    pub keeps_first : (me : ℕ) (w : Both A B) (x : A) → Keeps a_lists me w.first x → Keeps (lists_parts first_of second_of a_lists b_lists) me w (record w { first = x })
    keeps_first me w x kept = first_keeps first_of second_of a_lists b_lists me w (record w { first = x }) kept refl

    -- the second changes alone
    pub keeps_second : (me : ℕ) (w : Both A B) (y : B) → Keeps b_lists me w.second y → Keeps (lists_parts first_of second_of a_lists b_lists) me w (record w { second = y })
    keeps_second me w y kept = second_keeps first_of second_of a_lists b_lists me w (record w { second = y }) refl kept

  module _ (a_owes : A → List ℕ) (b_owes : B → List ℕ) where
    abbrev pub owes_two : Both A B → List ℕ
    owes_two w = a_owes w.first ++ b_owes w.second

    -- two values owe nobody only if neither does
    pub none_first : (w : Both A B) → owes_two w ≡ [] → a_owes w.first ≡ []
    none_first w none = nil_first (a_owes w.first) (b_owes w.second) none

    pub none_second : (w : Both A B) → owes_two w ≡ [] → b_owes w.second ≡ []
    none_second w none = nil_second (a_owes w.first) (b_owes w.second) none
