-- A countdown with a deadline that was made waits, and so does each that was there.
use Rattle.std.proofs.Common.{◌≡◌, ◌≢◌, ◌<◌, ◌==◌, arith, ◌∷◌, [], ◌++◌, ℕ, zero, suc, false, Some, None, Ok, Err, refl, ap, sym, ◌∙◌}
use Rattle.std.specs.Prelude.{Option, Result}
use Rattle.std.proofs.Math.Seq.{get_or-append_seam}
use Rattle.std.proofs.lemmas.Bool.{lt-leb, ne_eqb}
use Rattle.std.proofs.lemmas.List.{get_or_append_left}
use Rattle.mono_model.specs.Ticks.{up}
use Rattle.mono_model.specs.Table.{Table, value_at, next_number, with_next}
use Rattle.mono_model.specs.declared.poll.Poll.TheVariants.{Pending}
use Rattle.mono_time.specs.Sleeps.{Kept, SleepTable, Added, fresh, is_kept_ready, of_live_sleep, sleep_poll_answer, with_added_sleep}
use Rattle.mono_model.specs.SleepAnswers.{poll_of}
use Rattle.mono_time.specs.Futures.{SleepMade}
use Rattle.mono_time.specs.declared.sleeps.Sleep.{Sleep}
use Rattle.mono_model.specs.declared.error.SleepError.{SleepError}
use Rattle.mono_model.specs.declared.error.SleepError.TheVariants.{Timer, Memory}
use Rattle.mono_model.specs.declared.error.Error.TheVariants.{Shutdown, AtCapacity, Invalid}
use Rattle.mono_time.proofs.SleepChangeLemmas.{given_inside}
use Rattle.example_parts.specs.Countdowns.{is_over}
use Rattle.example_parts.specs.Nests.{Limited, Waits, MayBegin, AddsNone, AddsOnly}
use Rattle.example_parts.specs.declared.nests.by_hand.Countdown.{Countdown}

kept-waits : (old new : SleepTable) → new ≡ old → (t : Limited) → Waits old t → Waits new t
kept-waits old new same t waits = record { counts = waits.counts; not_due = ap (λ s. sleep_poll_answer s t.delay.number) same ∙ waits.not_due }

added-waits : (sleeps : SleepTable) (nanos number : ℕ) → number ≡ next_number sleeps.table → sleeps.greatest < up nanos → sleep_poll_answer (with_added_sleep sleeps (up nanos)) number ≡ Ok Pending
added-waits sleeps nanos number is later =
    ap (λ v. of_live_sleep v (λ k. poll_of (is_kept_ready sleeps.greatest k)))
    (ap (value_at (sleeps.table ++ Some (fresh (up nanos)) ∷ [])) is ∙ get_or-append_seam sleeps.table (Some (fresh (up nanos))) [] None)
    ∙ ap (λ b. Ok (poll_of b)) (lt-leb (up nanos) sleeps.greatest later)

pub stays-added : (sleeps : SleepTable) (tick q : ℕ) → sleep_poll_answer sleeps q ≡ Ok Pending → sleep_poll_answer (with_added_sleep sleeps tick) q ≡ Ok Pending
stays-added sleeps tick q waits = at (value_at sleeps.table q) refl
  where
    at : (v : Option Kept) → value_at sleeps.table q ≡ v → sleep_poll_answer (with_added_sleep sleeps tick) q ≡ Ok Pending
    at None is = absurd (cc (ap (λ v. of_live_sleep v (λ k. poll_of (is_kept_ready sleeps.greatest k))) is, waits))
    at (Some kept) is = ap (λ v. of_live_sleep v (λ k. poll_of (is_kept_ready sleeps.greatest k))) (get_or_append_left sleeps.table (Some (fresh tick) ∷ []) None q (given_inside sleeps.table q kept is)) ∙ waits

-- The other sleeps after an addition.
pub others-added : (old new : SleepTable) (nanos : ℕ) (result : Result ℕ SleepError) → Added old nanos result new → (t : Limited) → Waits old t → Waits new t
others-added old new nanos (Ok number) made t waits = record {
  counts = waits.counts;
  not_due = ap (λ s. sleep_poll_answer s t.delay.number) made.3 ∙ stays-added old (up nanos) t.delay.number waits.not_due;
}
others-added old new nanos (Err (Timer Shutdown)) made t waits = kept-waits old new made.1 t waits
others-added old new nanos (Err (Timer AtCapacity)) made t waits = kept-waits old new made.2 t waits
others-added old new nanos (Err (Timer Invalid)) made t waits = absurd made
others-added old new nanos (Err Memory) made t waits = kept-waits old new made.2 t waits

pub greatest-added : (old new : SleepTable) (nanos : ℕ) (result : Result ℕ SleepError) → Added old nanos result new → new.greatest ≡ old.greatest
greatest-added old new nanos (Ok number) made = ap (λ s. s.greatest) made.3
greatest-added old new nanos (Err (Timer Shutdown)) made = ap (λ s. s.greatest) made.1
greatest-added old new nanos (Err (Timer AtCapacity)) made = ap (λ s. s.greatest) made.2
greatest-added old new nanos (Err (Timer Invalid)) made = absurd made
greatest-added old new nanos (Err Memory) made = ap (λ s. s.greatest) made.2

-- the same of a sleep that was made or refused
pub others-made : (old new : SleepTable) (nanos : ℕ) (result : Result Sleep SleepError) → SleepMade old nanos result new → (t : Limited) → Waits old t → Waits new t
others-made old new nanos (Ok sleep) made = others-added old new nanos (Ok sleep.number) made.1
others-made old new nanos (Err error) made = others-added old new nanos (Err error) made

pub greatest-made : (old new : SleepTable) (nanos : ℕ) (result : Result Sleep SleepError) → SleepMade old nanos result new → new.greatest ≡ old.greatest
greatest-made old new nanos (Ok sleep) made = greatest-added old new nanos (Ok sleep.number) made.1
greatest-made old new nanos (Err error) made = greatest-added old new nanos (Err error) made

-- a sleep that was made is not due
pub waits-made : (old new : SleepTable) (nanos : ℕ) (sleep : Sleep) → SleepMade old nanos (Ok sleep) new → old.greatest < up nanos → sleep_poll_answer new sleep.number ≡ Ok Pending
waits-made old new nanos sleep made later = ap (λ s. sleep_poll_answer s sleep.number) made.1.3 ∙ added-waits old nanos sleep.number made.1.2 later

-- a countdown with polls left and a deadline that is not due, as it is made
pub begins-made : (old new : SleepTable) (nanos left : ℕ) (t : Limited) (f : Countdown) → t.value ≡ f → f.left ≡ left → f.has_answered ≡ false → 0 < left → SleepMade old nanos (Ok t.delay) new → old.greatest < up nanos → MayBegin new t
begins-made old new nanos left t f is left_is unanswered counts made later = (
  ap (λ v. v.has_answered) is ∙ unanswered,
  record {
    counts = ap is_over is ∙ ap (λ n. n == 0) left_is ∙ ne_eqb left 0 (λ e. omega (arith, e, counts));
    not_due = waits-made old new nanos t.delay made later;
  },
)

stays_gone-next : (table : Table Kept) (kept : Kept) (q : ℕ) → q ≢ next_number table → value_at table q ≡ None → value_at (with_next table kept) q ≡ None
stays_gone-next [] kept zero apart gone = absurd (apart refl)
stays_gone-next [] kept (suc q) apart gone = refl
stays_gone-next (x ∷ xs) kept zero apart gone = gone
stays_gone-next (x ∷ xs) kept (suc q) apart gone = stays_gone-next xs kept q (λ e. apart (ap suc e)) gone

-- A sleep that was made is the only new one.
pub only-made : (old new : SleepTable) (nanos : ℕ) (sleep : Sleep) → SleepMade old nanos (Ok sleep) new → AddsOnly old new sleep.number
only-made old new nanos sleep made s apart gone =
    ap (λ sleeps. value_at sleeps.table s) made.1.3
    ∙ stays_gone-next old.table (fresh (up nanos)) s (λ here. apart (here ∙ sym made.1.2)) gone

pub none-made : (old new : SleepTable) (nanos : ℕ) (error : SleepError) → SleepMade old nanos (Err error) new → AddsNone old new
none-made old new nanos (Timer Shutdown) made s gone = ap (λ sleeps. value_at sleeps.table s) made.1 ∙ gone
none-made old new nanos (Timer AtCapacity) made s gone = ap (λ sleeps. value_at sleeps.table s) made.2 ∙ gone
none-made old new nanos (Timer Invalid) made s gone = absurd made
none-made old new nanos Memory made s gone = ap (λ sleeps. value_at sleeps.table s) made.2 ∙ gone
