-- Whether a sleep has elapsed.
use Rattle.std.proofs.Common.{◌≡◌, ℕ, Bool, List, Some, Ok, refl, ap, sym, ◌∙◌}
use Rattle.std.specs.Prelude.{Option, slice_get, Result}
use Rattle.mono_model.specs.Table.{Table, value_at}
use Rattle.mono_model.specs.Sleeps as model
use Rattle.mono_model.specs.Sleeps.{Sleeps}
use Rattle.mono_wheel.specs.Model.{Wheel, Timed, timed_at}
use Rattle.mono_time.specs.Sleeps.{is_kept_elapsed}
use Rattle.mono_model.specs.SleepActs as machine
use Rattle.mono_time.specs.Entries.{kept_in, is_elapsed_state}
use Rattle.mono_time.specs.Representation.{Holds}
use Rattle.mono_time.specs.Refinement.{Standing, seen}
use Rattle.mono_time.specs.declared.entry.Entry.{Entry}
use Rattle.mono_time.specs.declared.entry.State.{State}
use Rattle.mono_time.specs.declared.entry.State.TheVariants.{Fresh, Unwatched, Armed, Elapsed}
use Rattle.mono_model.specs.declared.error.Error.{Error}
use Rattle.mono_time.proofs.RefinementLemmas.{sleep_there}
use Rattle.mono_time.proofs.TimersWriteLemmas.{kept-there}

abbrev pub answered : Bool → Result Bool Error
answered b = Ok b

pub elapsed-kept : (timed : Option Timed) (state : State) → is_elapsed_state state ≡ is_kept_elapsed (kept_in timed state)
elapsed-kept timed (Fresh tick) = refl
elapsed-kept timed Unwatched = refl
elapsed-kept timed (Armed task) = refl
elapsed-kept timed Elapsed = refl

elapsed-seen : (sleep : model.Sleep) → machine.is_elapsed sleep ≡ is_kept_elapsed (seen sleep)
elapsed-seen (model.fresh n) = refl
elapsed-seen (model.armed a) = refl
elapsed-seen model.elapsed = refl

pub machine-elapsed : (wheel : Wheel) (keys : Table ℕ) (entries : List Entry) (greatest live limit : ℕ) → Holds wheel keys entries greatest live → (s k : ℕ) (e : Entry) → value_at keys s ≡ Some k → slice_get entries k ≡ Some e
    → (m : Sleeps) → Standing wheel keys entries greatest limit m → answered (is_elapsed_state e.state) ≡ machine.elapsed_answer m s
machine-elapsed wheel keys entries greatest live limit holds s k e at was m st =
    let there = sleep_there wheel keys entries greatest limit m st s (kept_in (timed_at wheel k) e.state) (kept-there wheel keys entries greatest live holds s k e at was) in
    rw there.1 (ap answered (elapsed-kept (timed_at wheel k) e.state ∙ ap is_kept_elapsed (sym there.2) ∙ sym (elapsed-seen there.0)))
