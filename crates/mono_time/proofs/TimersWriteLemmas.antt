-- The timers after one sleep is in another state.
use Rattle.std.proofs.Common.{◌≡◌, ◌<◌, ◌^◌, inl, inr, ℕ, List, length, set, Some, None, refl, ap, sym, subst, ◌∙◌, arith}
use Rattle.std.specs.Prelude.{Option, is_some, slice_get}
use Rattle.std.proofs.lemmas.Option.{slice_get_within}
use Rattle.mono_model.specs.Table.{Table, value_at, with_value, table_of}
use Rattle.std.proofs.lemmas.Bool.{cases_lt}
use Rattle.std.proofs.lemmas.List.{get_or_past}
use Rattle.mono_model.proofs.TableOfLemmas.{value_at-table_of, length-table_of}
use Rattle.mono_wheel.specs.Model.{Wheel, timed_at}
use Rattle.mono_time.specs.Sleeps.{Kept}
use Rattle.mono_time.specs.Entries.{is_armed_state, fresh_tick, kept_in, owner_of, is_armed_entry, fresh_tick_of, kept_of}
use Rattle.mono_time.specs.Representation.{Holds, AllAhead, kept_at, kept_under}
use Rattle.mono_time.specs.declared.entry.Entry.{Entry}
use Rattle.mono_time.proofs.SleepChangeLemmas.{none-some, given_inside, holds-written, table-written}
use Rattle.mono_time.proofs.KeyCallLemmas.{Turned}

-- the table of sleeps that is kept
abbrev pub table_kept : Wheel → Table ℕ → List Entry → Table Kept
table_kept wheel keys entries = table_of (kept_at wheel keys entries) (length keys)

pub entry_there : (wheel : Wheel) (keys : Table ℕ) (entries : List Entry) (greatest live : ℕ) → Holds wheel keys entries greatest live → (s k : ℕ) → value_at keys s ≡ Some k → (e : Entry) × (slice_get entries k ≡ Some e)
entry_there wheel keys entries greatest live holds s k at = there (slice_get entries k) (holds.owners s k at) refl
  where
    there : (v : Option Entry) → owner_of v ≡ Some s → slice_get entries k ≡ v → (e : Entry) × (slice_get entries k ≡ Some e)
    there None owner is = absurd (none-some s owner)
    there (Some e) owner is = (e, is)

pub key_inside : (wheel : Wheel) (keys : Table ℕ) (entries : List Entry) (greatest live : ℕ) → Holds wheel keys entries greatest live → (s k : ℕ) → value_at keys s ≡ Some k → k < length entries
key_inside wheel keys entries greatest live holds s k at =
    let there = entry_there wheel keys entries greatest live holds s k at in
    slice_get_within entries k there.0 there.1

module _ (wheel : Wheel) (keys : Table ℕ) (entries : List Entry) (greatest live : ℕ) (holds : Holds wheel keys entries greatest live)
    (s k : ℕ) (e : Entry) (at : value_at keys s ≡ Some k) (was : slice_get entries k ≡ Some e) where
  pub is_in-entry : is_some (timed_at wheel k) ≡ is_armed_state e.state
  is_in-entry = holds.is_in s k at ∙ ap is_armed_entry was

  pub fresh_below-entry : fresh_tick e.state < 2 ^ 63
  fresh_below-entry = subst (λ v. fresh_tick_of v < 2 ^ 63) was (holds.fresh_below s k at)

  -- The sleep that is kept.
  pub kept-there : kept_at wheel keys entries s ≡ Some (kept_in (timed_at wheel k) e.state)
  kept-there = rw at (ap (kept_of (timed_at wheel k)) was)

  pub table-there : value_at (table_kept wheel keys entries) s ≡ Some (kept_in (timed_at wheel k) e.state)
  table-there = value_at-table_of (kept_at wheel keys entries) (length keys) s (given_inside keys s k at) ∙ kept-there

  module _ (left : Wheel) (f : Entry) (same : f.sleep ≡ e.sleep) (kept : Kept) (turned : Turned wheel left k e.state f.state kept) where
    pub holds-turned : AllAhead left → Holds left keys (set entries k f) greatest live
    holds-turned ahead = holds-written wheel left keys entries greatest live holds s k e f at was same turned.keeps ahead greatest (omega (arith, holds.elapsed, turned.same_elapsed)) holds.greatest_below turned.is_in turned.fresh_below

    pub table-turned : table_kept left keys (set entries k f) ≡ with_value (table_kept wheel keys entries) s kept
    table-turned = table-written wheel left keys entries greatest live holds s k e f at was same turned.keeps ∙ ap (λ v. set (table_kept wheel keys entries) s (Some v)) turned.now_kept

-- The case that no sleep has the number.
pub none-there : (wheel : Wheel) (keys : Table ℕ) (entries : List Entry) (s : ℕ) → value_at keys s ≡ None → value_at (table_kept wheel keys entries) s ≡ None
none-there wheel keys entries s at = elim (cases_lt s (length keys)) [
  | inl inside ↦ value_at-table_of (kept_at wheel keys entries) (length keys) s inside ∙ ap (kept_under wheel entries) at
  | inr past ↦ get_or_past (table_kept wheel keys entries) s None (omega (arith, past, length-table_of (kept_at wheel keys entries) (length keys)))
]

-- The table has at each number the sleep that is kept there.
pub value-table : (wheel : Wheel) (keys : Table ℕ) (entries : List Entry) (s : ℕ) → value_at (table_kept wheel keys entries) s ≡ kept_at wheel keys entries s
value-table wheel keys entries s = elim (cases_lt s (length keys)) [
  | inl inside ↦ value_at-table_of (kept_at wheel keys entries) (length keys) s inside
  | inr past ↦ get_or_past (table_kept wheel keys entries) s None (omega (arith, past, length-table_of (kept_at wheel keys entries) (length keys))) ∙ sym (ap (kept_under wheel entries) (get_or_past keys s None past))
]
