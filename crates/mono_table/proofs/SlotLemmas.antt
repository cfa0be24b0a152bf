-- The content of a place, and the part that the view shows.
use Rattle.std.proofs.Common.{◌≡◌, ◌<◌, ℕ, true, false, Some, None, Option, inl, inr, refl, ap, sym, ◌∙◌, length}
use Rattle.std.specs.Prelude.{IfSome, slice_set, is_some}
use Rattle.std.proofs.Math.ListN.{get_or-map}
use Rattle.std.proofs.lemmas.Bool.{cases_lt}
use Rattle.std.proofs.lemmas.List.{map-set, set-get_or, get_or-set_same, get_or_past}
use Rattle.mono_model.specs.Table.{Table, value_at, with_value, without}
use Rattle.mono_table.specs.Slots.{value_in, note_in, lent_in, items_of, notes_of}
use Rattle.mono_table.specs.declared.slots.Slot.{Slot}
use Rattle.mono_table.specs.declared.slots.Slot.TheVariants.{Kept, Lent}

true-false : true ≡ false → ⊥
true-false e = cc

none-true : {V : Type 0} (v : Option V) → v ≡ None → is_some v ≡ true → ⊥
none-true v is some = cc

-- whatever the value is
pub for_any : {A : Type 0} (x : Option A) (Q : Type 0) → Q → IfSome x (λ v. Q)
for_any None Q q = tt
for_any (Some v) Q q = q

module _ {V W : Type 0} where
  none_is : (x : Option (Slot V W)) → is_some x ≡ false → x ≡ None
  none_is None e = refl
  none_is (Some slot) e = absurd (true-false e)

  lent_is : (x : Option (Slot V W)) → lent_in x ≡ true → x ≡ Some Lent
  lent_is None e = absurd (true-false (sym e))
  lent_is (Some (Kept value beside)) e = absurd (true-false (sym e))
  lent_is (Some Lent) e = refl

  module _ (table : Table (Slot V W)) (n : ℕ) where
    inside : is_some (value_at table n) ≡ true → n < length table
    inside some = elim (cases_lt n (length table)) [
      | inl below ↦ below
      | inr past ↦ absurd (none-true (value_at table n) (get_or_past table n None past) some)
    ]

    -- Writing the old value changes nothing.
    same_items : (x : Option V) → value_in (value_at table n) ≡ x → slice_set (items_of table) n x ≡ items_of table
    same_items x is = ap (slice_set (items_of table) n) (sym (get_or-map value_in table n None ∙ is)) ∙ set-get_or (items_of table) n None

    same_notes : (x : Option W) → note_in (value_at table n) ≡ x → slice_set (notes_of table) n x ≡ notes_of table
    same_notes x is = ap (slice_set (notes_of table) n) (sym (get_or-map note_in table n None ∙ is)) ∙ set-get_or (notes_of table) n None

    -- a number without a place
    pub bare_items : is_some (value_at table n) ≡ false → slice_set (items_of table) n None ≡ items_of table
    bare_items bare = same_items None (ap value_in (none_is (value_at table n) bare))

    pub bare_notes : is_some (value_at table n) ≡ false → slice_set (notes_of table) n None ≡ notes_of table
    bare_notes bare = same_notes None (ap note_in (none_is (value_at table n) bare))

    -- a number with a place, from which the value was taken
    pub now_lent : is_some (value_at table n) ≡ true → lent_in (value_at (with_value table n Lent) n) ≡ true
    now_lent some = ap lent_in (get_or-set_same table n (Some Lent) None (inside some))

    -- A number that is taken out.
    pub gone_items : lent_in (value_at table n) ≡ true → items_of (without table n) ≡ items_of table
    gone_items lent = map-set value_in table n None ∙ same_items None (ap value_in (lent_is (value_at table n) lent))

    pub gone_notes : lent_in (value_at table n) ≡ true → notes_of (without table n) ≡ notes_of table
    gone_notes lent = map-set note_in table n None ∙ same_notes None (ap note_in (lent_is (value_at table n) lent))
