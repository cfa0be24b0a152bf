-- A poll of a sleep of the machine.
use Rattle.std.proofs.Common.{◌≡◌, inl, inr, ℕ, true, false, Bool, List, set, Some, Ok, refl, ap, sym, subst, arith}
use Rattle.std.specs.Prelude.{Option, slice_get, nat_le, Result, ⊤}
use Rattle.std.proofs.lemmas.Bool.{le-leb, lt-leb}
use Rattle.mono_model.specs.Ticks.{up}
use Rattle.mono_model.specs.Table.{Table, value_at}
use Rattle.mono_model.specs.Sleeps as model
use Rattle.mono_model.specs.Sleeps.{Sleeps, Arming}
use Rattle.mono_model.specs.declared.poll.Poll.{Poll}
use Rattle.mono_wheel.specs.Model.{Wheel, Timed, timed_at}
use Rattle.mono_time.specs.Sleeps.{fresh, armed, elapsed, polled_kept, at_tick}
use Rattle.mono_model.specs.SleepAnswers.{poll_of}
use Rattle.mono_model.specs.SleepActs as machine
use Rattle.mono_time.specs.Entries.{kept_in}
use Rattle.mono_time.specs.Representation.{Holds, ArmedAnew}
use Rattle.mono_time.specs.Refinement.{Standing, seen}
use Rattle.mono_time.specs.KeyCalls.{PolledEntry, entry_raise}
use Rattle.mono_time.specs.Timers.{poll_raise}
use Rattle.mono_time.specs.declared.entry.Entry.{Entry}
use Rattle.mono_time.specs.declared.entry.State.{State}
use Rattle.mono_time.specs.declared.entry.State.TheVariants.{Fresh, Unwatched, Armed, Elapsed}
use Rattle.mono_model.specs.declared.error.Error.{Error}
use Rattle.mono_time.proofs.RefinementLemmas.{sleep_there}
use Rattle.mono_time.proofs.KeyCallLemmas.{Turned, turned-polled}
use Rattle.mono_time.proofs.MachineSleepLemmas.{stands-unarmed, stands-anew, stands-same, with_same}
use Rattle.mono_time.proofs.TimersWriteLemmas.{is_in-entry, kept-there}

-- a poll may raise the credit by as much as its state says
pub poll-raise : (reached : ℕ) (timed : Option Timed) (state : State) → poll_raise reached (Some (kept_in timed state)) ≡ entry_raise reached state
poll-raise reached timed (Fresh tick) = refl
poll-raise reached timed Unwatched = refl
poll-raise reached timed (Armed task) = refl
poll-raise reached timed Elapsed = refl

abbrev pub answered : Poll ⊤ → Result (Poll ⊤) Error
answered p = Ok p

fresh-same : (a b : ℕ) → fresh a ≡ fresh b → a ≡ b
fresh-same a b e = cc

armed-ticks : (t u : ℕ) (v w : Option ℕ) → armed t v ≡ armed u w → t ≡ u
armed-ticks t u v w e = cc

elapsed-armed : (a : Arming) → model.elapsed ≡ model.armed a → ⊥
elapsed-armed a e = cc

module _ (wheel left : Wheel) (keys : Table ℕ) (entries : List Entry) (greatest live limit : ℕ) (holds : Holds wheel keys entries greatest live)
    (s k : ℕ) (e f : Entry) (at : value_at keys s ≡ Some k) (was : slice_get entries k ≡ Some e) (same : f.sleep ≡ e.sleep) (by : ℕ) (ready : Bool)
    (m : Sleeps) (st : Standing wheel keys entries greatest limit m) where
  abbrev Left : Sleeps → Type 0
  Left after = Standing left keys (set entries k f) greatest limit after

  abbrev Polled : model.Sleep → Type 0
  Polled sleep = (ready ≡ machine.is_ready_at m.greatest sleep) × Left (machine.after_poll sleep m s by)

  by_state : (before : State) → before ≡ e.state → PolledEntry wheel left k greatest by before f.state ready
      → Turned wheel left k e.state f.state (polled_kept greatest by (kept_in (timed_at wheel k) before)) → (sleep : model.Sleep) → value_at m.table s ≡ Some sleep → seen sleep ≡ kept_in (timed_at wheel k) before → Polled sleep
  by_state (Fresh tick) from polled turned (model.armed a) at_m sees = absurd (cc)
  by_state (Fresh tick) from polled turned model.elapsed at_m sees = absurd (cc)
  by_state (Fresh tick) from (inl (due, still, is, says)) turned (model.fresh n) at_m sees =
      let ticks : up n ≡ tick = fresh-same _ _ sees in
      let test : nat_le (up n) m.greatest ≡ true = le-leb (up n) m.greatest (omega (arith, due, ticks, st.same_greatest)) in
      let kept : elapsed ≡ at_tick greatest tick (Some by) = rw (le-leb tick greatest due) refl in
      rw test (says, stands-unarmed wheel left keys entries greatest live limit holds s k e f at was same _ turned m st model.elapsed kept elapsed-armed)
  by_state (Fresh tick) from (inr (early, anew, is, says)) turned (model.fresh n) at_m sees =
      let ticks : up n ≡ tick = fresh-same _ _ sees in
      let test : nat_le (up n) m.greatest ≡ false = lt-leb (up n) m.greatest (omega (arith, early, ticks, st.same_greatest)) in
      let kept : armed (up n) (Some by) ≡ at_tick greatest tick (Some by) = rw (lt-leb tick greatest early) (ap (λ t. armed t (Some by)) ticks) in
      rw test (says, stands-anew wheel left keys entries greatest live limit holds s k e f at was same _ turned m st (up n) (Some by) (subst (ArmedAnew wheel left k) (sym ticks) anew) kept)
  by_state Unwatched from polled turned (model.fresh n) at_m sees = absurd (cc)
  by_state (Armed task) from polled turned (model.fresh n) at_m sees = absurd (cc)
  by_state Unwatched from polled turned model.elapsed at_m sees = absurd (cc)
  by_state (Armed task) from polled turned model.elapsed at_m sees = absurd (cc)
  by_state Unwatched from (still, is, says) turned (model.armed a) at_m sees = (
    says,
    stands-same wheel left keys entries greatest live limit holds s k e f at was same _ turned m st a (record { tick = a.tick; arm = a.arm; is_moved = a.is_moved; waker = Some by }) at_m refl refl refl still
        (ap (λ t. armed t (Some by)) (armed-ticks _ _ _ _ sees)),
  )
  by_state (Armed task) from (still, is, says) turned (model.armed a) at_m sees = (
    says,
    stands-same wheel left keys entries greatest live limit holds s k e f at was same _ turned m st a (record { tick = a.tick; arm = a.arm; is_moved = a.is_moved; waker = Some by }) at_m refl refl refl still
        (ap (λ t. armed t (Some by)) (armed-ticks _ _ _ _ sees)),
  )
  by_state Elapsed from polled turned (model.fresh n) at_m sees = absurd (cc)
  by_state Elapsed from polled turned (model.armed a) at_m sees = absurd (cc)
  by_state Elapsed from (still, is, says) turned model.elapsed at_m sees = (
    says,
    subst Left (with_same m s model.elapsed at_m) (stands-unarmed wheel left keys entries greatest live limit holds s k e f at was same _ turned m st model.elapsed refl elapsed-armed),
  )

  pub machine-polled : PolledEntry wheel left k greatest by e.state f.state ready
      → (answered (poll_of ready) ≡ machine.poll_answer m s) × Left (machine.polled m s by)
  machine-polled polled =
      let there = sleep_there wheel keys entries greatest limit m st s (kept_in (timed_at wheel k) e.state) (kept-there wheel keys entries greatest live holds s k e at was) in
      let turned = turned-polled wheel k greatest left by e.state f.state ready polled (is_in-entry wheel keys entries greatest live holds s k e at was) in
      let done : Polled there.0 = by_state e.state refl polled turned.0 there.0 there.1 there.2 in
      rw there.1 (ap (λ b. answered (poll_of b)) done.0, done.1)
