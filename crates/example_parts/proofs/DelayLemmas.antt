-- The other sleeps after polls and removals.
use Rattle.std.proofs.Common.{◌≡◌, ◌≢◌, ◌⊎◌, inl, inr, ℕ, true, false, Bool, cond, List, [], ◌∷◌, ◌++◌, set, Some, None, Ok, refl, ap, sym, ◌∙◌}
use Rattle.std.specs.Prelude.{Option, ⊤, Result}
use Rattle.std.proofs.lemmas.Bool.{cases_eq}
use Rattle.std.proofs.lemmas.List.{get_or-set_other, get_or-set_same}
use Rattle.mono_model.specs.declared.poll.Poll.{Poll}
use Rattle.mono_model.specs.declared.poll.Poll.TheVariants.{Pending}
use Rattle.mono_model.specs.declared.error.Error.{Error}
use Rattle.mono_model.specs.Table.{value_at}
use Rattle.mono_time.specs.Sleeps.{Kept, SleepTable, fresh, armed, elapsed, polled_kept, is_kept_ready, of_live_sleep, sleep_poll_answer, changed_value, with_polled_sleep, with_removed_sleep, removed_value}
use Rattle.mono_model.specs.SleepAnswers.{poll_of}
use Rattle.mono_time.proofs.SleepChangeLemmas.{given_inside, none-some}
use Rattle.example_parts.specs.Nests.{all_removed, all_polled, AddsNone, AddsOnly, AddsTwo}

-- the answer of a live sleep
abbrev fine : Poll ⊤ → Result (Poll ⊤) Error
fine answer = Ok answer

kept_waits : (greatest by : ℕ) (kept : Kept) → fine (poll_of (is_kept_ready greatest kept)) ≡ Ok Pending → poll_of (is_kept_ready greatest (polled_kept greatest by kept)) ≡ Pending
kept_waits greatest by (fresh tick) waits = at _ waits
  where
    at : (b : Bool) → fine (poll_of b) ≡ Ok Pending → poll_of (is_kept_ready greatest (cond b elapsed (armed tick (Some by)))) ≡ Pending
    at true e = absurd (cc)
    at false e = refl
kept_waits greatest by (armed tick waker) waits = refl
kept_waits greatest by elapsed waits = absurd (cc)

-- A delay that is not due stays so after a poll of one.
pub still_waits : (sleeps : SleepTable) (s q by : ℕ) → sleep_poll_answer sleeps q ≡ Ok Pending → sleep_poll_answer (with_polled_sleep sleeps s by) q ≡ Ok Pending
still_waits sleeps s q by waits = at (value_at sleeps.table s) refl
  where
    at : (v : Option Kept) → value_at sleeps.table s ≡ v → sleep_poll_answer (changed_value v sleeps s (polled_kept sleeps.greatest by)) q ≡ Ok Pending
    at None is = waits
    at (Some kept) is = elim (cases_eq q s) [
      | inl here ↦
          let was : of_live_sleep (Some kept) (λ k. poll_of (is_kept_ready sleeps.greatest k)) ≡ Ok Pending = ap (λ v. of_live_sleep v (λ k. poll_of (is_kept_ready sleeps.greatest k))) (sym (ap (value_at sleeps.table) here ∙ is)) ∙ waits in
          ap (λ v. of_live_sleep v (λ k. poll_of (is_kept_ready sleeps.greatest k)))
          (ap (value_at (set sleeps.table s (Some (polled_kept sleeps.greatest by kept)))) here ∙ get_or-set_same sleeps.table s (Some (polled_kept sleeps.greatest by kept)) None (given_inside sleeps.table s kept is))
          ∙ ap Ok (kept_waits sleeps.greatest by kept was)
      | inr apart ↦ ap (λ v. of_live_sleep v (λ k. poll_of (is_kept_ready sleeps.greatest k))) (get_or-set_other sleeps.table s q (Some (polled_kept sleeps.greatest by kept)) None apart) ∙ waits
    ]

-- The answer for a delay stays after another is polled or removed.
pub apart-polled : (sleeps : SleepTable) (s q by : ℕ) → q ≢ s → sleep_poll_answer (with_polled_sleep sleeps s by) q ≡ sleep_poll_answer sleeps q
apart-polled sleeps s q by apart = at (value_at sleeps.table s)
  where
    at : (v : Option Kept) → sleep_poll_answer (changed_value v sleeps s (polled_kept sleeps.greatest by)) q ≡ sleep_poll_answer sleeps q
    at None = refl
    at (Some kept) = ap (λ v. of_live_sleep v (λ k. poll_of (is_kept_ready sleeps.greatest k))) (get_or-set_other sleeps.table s q (Some (polled_kept sleeps.greatest by kept)) None apart)

pub apart-removed : (sleeps : SleepTable) (s q : ℕ) → q ≢ s → sleep_poll_answer (with_removed_sleep sleeps s) q ≡ sleep_poll_answer sleeps q
apart-removed sleeps s q apart = at (value_at sleeps.table s)
  where
    at : (v : Option Kept) → sleep_poll_answer (removed_value v sleeps s) q ≡ sleep_poll_answer sleeps q
    at None = refl
    at (Some kept) = ap (λ v. of_live_sleep v (λ k. poll_of (is_kept_ready sleeps.greatest k))) (get_or-set_other sleeps.table s q None None apart)

-- A removed sleep has no value, and stays so.
pub gone-removed : (sleeps : SleepTable) (s : ℕ) → value_at (with_removed_sleep sleeps s).table s ≡ None
gone-removed sleeps s = at (value_at sleeps.table s) refl
  where
    at : (v : Option Kept) → value_at sleeps.table s ≡ v → value_at (removed_value v sleeps s).table s ≡ None
    at None is = is
    at (Some kept) is = get_or-set_same sleeps.table s None None (given_inside sleeps.table s kept is)

pub stays_gone-removed : (sleeps : SleepTable) (s q : ℕ) → value_at sleeps.table q ≡ None → value_at (with_removed_sleep sleeps s).table q ≡ None
stays_gone-removed sleeps s q gone = at (value_at sleeps.table s) refl
  where
    at : (v : Option Kept) → value_at sleeps.table s ≡ v → value_at (removed_value v sleeps s).table q ≡ None
    at None is = gone
    at (Some kept) is = elim (cases_eq q s) [
      | inl here ↦ ap (value_at (set sleeps.table s None)) here ∙ get_or-set_same sleeps.table s None None (given_inside sleeps.table s kept is)
      | inr apart ↦ get_or-set_other sleeps.table s q None None apart ∙ gone
    ]

pub stays_gone-polled : (sleeps : SleepTable) (s q by : ℕ) → value_at sleeps.table q ≡ None → value_at (with_polled_sleep sleeps s by).table q ≡ None
stays_gone-polled sleeps s q by gone = at (value_at sleeps.table s) refl
  where
    at : (v : Option Kept) → value_at sleeps.table s ≡ v → value_at (changed_value v sleeps s (polled_kept sleeps.greatest by)).table q ≡ None
    at None is = gone
    at (Some kept) is = elim (cases_eq q s) [
      | inl here ↦ absurd (none-some kept (sym gone ∙ ap (value_at sleeps.table) here ∙ is))
      | inr apart ↦ get_or-set_other sleeps.table s q (Some (polled_kept sleeps.greatest by kept)) None apart ∙ gone
    ]

-- one after the other
pub removed-append : (sleeps : SleepTable) (first later : List ℕ) → all_removed sleeps (first ++ later) ≡ all_removed (all_removed sleeps first) later
removed-append sleeps [] later = refl
removed-append sleeps (s ∷ first) later = removed-append (with_removed_sleep sleeps s) first later

pub stays_gone-all_polled : (sleeps : SleepTable) (delays : List ℕ) (q by : ℕ) → value_at sleeps.table q ≡ None → value_at (all_polled sleeps delays by).table q ≡ None
stays_gone-all_polled sleeps [] q by gone = gone
stays_gone-all_polled sleeps (s ∷ later) q by gone = stays_gone-all_polled (with_polled_sleep sleeps s by) later q by (stays_gone-polled sleeps s q by gone)

-- the number is none of these
abbrev IsNone : ℕ → List ℕ → Type 0
IsNone q [] = ⊤
IsNone q (s ∷ later) = (q ≢ s) × IsNone q later

-- Removed sleeps have no value, and those without a value stay so.
gone-all_removed : (sleeps : SleepTable) (delays : List ℕ) (q : ℕ) → (IsNone q delays → value_at sleeps.table q ≡ None) → value_at (all_removed sleeps delays).table q ≡ None
gone-all_removed sleeps [] q unless = unless tt
gone-all_removed sleeps (s ∷ later) q unless = gone-all_removed (with_removed_sleep sleeps s) later q (λ none. at (cases_eq q s) none)
  where
    at : (q ≡ s) ⊎ (q ≢ s) → IsNone q later → value_at (with_removed_sleep sleeps s).table q ≡ None
    at (inl here) none = ap (value_at (with_removed_sleep sleeps s).table) here ∙ gone-removed sleeps s
    at (inr apart) none = stays_gone-removed sleeps s q (unless (apart, none))

-- a sleep was made, and given up after another was refused
pub adds-none-one : (old one two new : SleepTable) (a : ℕ) → AddsOnly old one a → AddsNone one two → new ≡ with_removed_sleep two a → AddsNone old new
adds-none-one old one two new a only none is s gone = ap (λ sleeps. value_at sleeps.table s) is ∙ gone-all_removed two (a ∷ []) s (λ not. none s (only s not.0 gone))

-- the same of two
pub adds-none-two : (old one two new : SleepTable) (a b : ℕ) → AddsTwo old one a b → AddsNone one two → new ≡ all_removed two (a ∷ b ∷ []) → AddsNone old new
adds-none-two old one two new a b only none is s gone = ap (λ sleeps. value_at sleeps.table s) is ∙ gone-all_removed two (a ∷ b ∷ []) s (λ not. none s (only s not.0 not.1.0 gone))

-- four were made, polled and given up
pub adds-none-four : (old one two new : SleepTable) (a b e f by : ℕ) → AddsTwo old one a b → AddsTwo one two e f
    → new ≡ all_removed (all_polled two (a ∷ b ∷ e ∷ f ∷ []) by) (a ∷ b ∷ e ∷ f ∷ []) → AddsNone old new
adds-none-four old one two new a b e f by first second is s gone =
    ap (λ sleeps. value_at sleeps.table s) is
    ∙ gone-all_removed (all_polled two (a ∷ b ∷ e ∷ f ∷ []) by) (a ∷ b ∷ e ∷ f ∷ []) s
    (λ not. stays_gone-all_polled two (a ∷ b ∷ e ∷ f ∷ []) s by (second s not.1.1.0 not.1.1.1.0 (first s not.0 not.1.0 gone)))
