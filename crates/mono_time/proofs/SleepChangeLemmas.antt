-- One sleep is in another state.
use Rattle.std.proofs.Common.{◌≡◌, ◌≢◌, ◌<◌, ◌≤◌, ◌^◌, inl, inr, ℕ, List, length, set, Some, None, refl, ap, sym, subst, ◌∙◌}
use Rattle.std.specs.Prelude.{Option, is_some, slice_get}
use Rattle.std.proofs.lemmas.Bool.{cases_eq, cases_lt}
use Rattle.std.proofs.lemmas.List.{get_or_past}
use Rattle.mono_model.specs.Table.{Table, value_at, with_value, table_of}
use Rattle.mono_model.proofs.TableOfLemmas.{table_of-set}
use Rattle.mono_wheel.specs.Model.{Wheel, Timed, timed_at}
use Rattle.mono_time.specs.Entries.{is_armed_state, fresh_tick, tick_in, kept_in, kept_of, owner_of, is_armed_entry, fresh_tick_of}
use Rattle.mono_time.specs.Representation.{Holds, AllAhead, KeepsBut, kept_at, kept_under}
use Rattle.mono_time.specs.declared.entry.Entry.{Entry}
use Rattle.mono_time.specs.declared.entry.State.{State}
use Rattle.mono_time.specs.declared.entry.State.TheVariants.{Fresh, Unwatched, Armed, Elapsed}
use Rattle.mono_time.proofs.SliceLemmas.{slice_get-set_same, slice_get-set_other}

pub some-same : {X : Type 0} (x y : X) → Some x ≡ Some y → x ≡ y
some-same x y e = cc

pub none-some : {X : Type 0} (x : X) → None ≡ Some x → ⊥
none-some x e = cc

pub given_inside : {V : Type 0} (table : Table V) (s : ℕ) (v : V) → value_at table s ≡ Some v → s < length table
given_inside table s v at = elim (cases_lt s (length table)) [
  | inl inside ↦ inside
  | inr past ↦ absurd (none-some v (sym (get_or_past table s None past) ∙ at))
]

kept_in-ticks : (t u : Option Timed) (state : State) → tick_in t ≡ tick_in u → kept_in t state ≡ kept_in u state
kept_in-ticks t u (Fresh tick) e = refl
kept_in-ticks t u Unwatched e = rw e refl
kept_in-ticks t u (Armed task) e = rw e refl
kept_in-ticks t u Elapsed e = refl

pub kept_of-ticks : (t u : Option Timed) (v : Option Entry) → tick_in t ≡ tick_in u → kept_of t v ≡ kept_of u v
kept_of-ticks t u None e = refl
kept_of-ticks t u (Some entry) e = ap Some (kept_in-ticks t u entry.state e)

module _ (wheel left : Wheel) (keys : Table ℕ) (entries : List Entry) (greatest live : ℕ) (holds : Holds wheel keys entries greatest live)
    (s k : ℕ) (e f : Entry) (at : value_at keys s ≡ Some k) (was : slice_get entries k ≡ Some e) (same : f.sleep ≡ e.sleep) (keeps : KeepsBut wheel left k) where
  pub owner : e.sleep ≡ s
  owner = some-same _ _ (ap owner_of (sym was) ∙ holds.owners s k at)

  pub key_apart : (q j : ℕ) → q ≢ s → value_at keys q ≡ Some j → j ≢ k
  key_apart q j apart at_q is = apart (some-same _ _ (sym (holds.owners q j at_q) ∙ ap (λ x. owner_of (slice_get entries x)) is ∙ holds.owners s k at))

  kept_here : kept_at left keys (set entries k f) s ≡ Some (kept_in (timed_at left k) f.state)
  kept_here = rw at (ap (kept_of (timed_at left k)) (slice_get-set_same entries k e f was))

  kept_case : (q : ℕ) → q ≢ s → (v : Option ℕ) → value_at keys q ≡ v → kept_under left (set entries k f) v ≡ kept_under wheel entries v
  kept_case q apart None at_q = refl
  kept_case q apart (Some j) at_q =
      let other = key_apart q j apart at_q in
      ap (kept_of (timed_at left j)) (slice_get-set_other entries k j f other) ∙ kept_of-ticks (timed_at left j) (timed_at wheel j) (slice_get entries j) (keeps.ticks j other)

  pub kept_apart : (q : ℕ) → q ≢ s → kept_at left keys (set entries k f) q ≡ kept_at wheel keys entries q
  kept_apart q apart = kept_case q apart (value_at keys q) refl

  pub table-written : table_of (kept_at left keys (set entries k f)) (length keys) ≡ with_value (table_of (kept_at wheel keys entries) (length keys)) s (kept_in (timed_at left k) f.state)
  table-written = table_of-set (kept_at wheel keys entries) (kept_at left keys (set entries k f)) (length keys) s (given_inside keys s k at) kept_apart
      ∙ ap (λ v. set (table_of (kept_at wheel keys entries) (length keys)) s v) kept_here

  owner_after : (j : ℕ) → owner_of (slice_get (set entries k f) j) ≡ owner_of (slice_get entries j)
  owner_after j = elim (cases_eq j k) [
    | inl here ↦ rw here (ap owner_of (slice_get-set_same entries k e f was) ∙ ap Some same ∙ sym (ap owner_of was))
    | inr apart ↦ ap owner_of (slice_get-set_other entries k j f apart)
  ]

  pub holds-written : AllAhead left → (after : ℕ) → left.elapsed ≤ after → after < 2 ^ 63 → is_some (timed_at left k) ≡ is_armed_state f.state → fresh_tick f.state < 2 ^ 63 → Holds left keys (set entries k f) after live
  holds-written ahead after gone below is_in fresh = record {
    owners = λ q j at_q. owner_after j ∙ holds.owners q j at_q;
    reserved = λ q j at_q. keeps.reserved j ∙ holds.reserved q j at_q;
    is_in = λ q j at_q. elim (cases_eq j k) [
      | inl here ↦ rw here (is_in ∙ sym (ap is_armed_entry (slice_get-set_same entries k e f was)))
      | inr apart ↦ keeps.in_or_out j apart ∙ holds.is_in q j at_q ∙ sym (ap is_armed_entry (slice_get-set_other entries k j f apart))
    ];
    fresh_below = λ q j at_q. elim (cases_eq j k) [
      | inl here ↦ rw here (subst (λ v. fresh_tick_of v < 2 ^ 63) (sym (slice_get-set_same entries k e f was)) fresh)
      | inr apart ↦ subst (λ v. fresh_tick_of v < 2 ^ 63) (sym (slice_get-set_other entries k j f apart)) (holds.fresh_below q j at_q)
    ];
    owned = λ j in_wheel. elim (cases_eq j k) [
      | inl here ↦ rw here (ap (λ v. is_some (owner_of v)) (slice_get-set_same entries k e f was))
      | inr apart ↦ ap is_some (owner_after j) ∙ holds.owned j (sym (keeps.in_or_out j apart) ∙ in_wheel)
    ];
    back = λ j q in_wheel owned. elim (cases_eq j k) [
      | inl here ↦
          let this : Some s ≡ Some q = sym (holds.owners s k at) ∙ sym (owner_after k) ∙ ap (λ x. owner_of (slice_get (set entries k f) x)) (sym here) ∙ owned in
          ap (value_at keys) (sym (some-same _ _ this)) ∙ at ∙ ap Some (sym here)
      | inr apart ↦ holds.back j q (sym (keeps.in_or_out j apart) ∙ in_wheel) (sym (owner_after j) ∙ owned)
    ];
    used = λ j is_used. holds.used j (sym (keeps.reserved j) ∙ is_used);
    elapsed = gone;
    greatest_below = below;
    live_count = holds.live_count;
    ahead = ahead;
  }
