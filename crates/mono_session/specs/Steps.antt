-- The steps of the sessions: from old they may answer the call like this and become new.
use Rattle.std.specs.Prelude.{◌≡◌, ◌<◌, ◌≤◌, ℕ, max, List, [], ◌∷◌, Option, Some, None}
use Rattle.mono_model.specs.Ticks.{max_nanos, down}
use Rattle.mono_model.specs.Due.{ListsDue}
use Rattle.mono_session.specs.Keeper.{Session, Keeper, closing_tick, with_greatest, without_session, open_answer, opened, beat_answer, beaten, close_answer, closed, acquire_answer, acquired, release_answer, released, owner_answer}
use Rattle.mono_session.specs.Calls.{Call}
use Rattle.mono_session.specs.Calls as call
use Rattle.mono_session.specs.Answers.{Answer, of_number, of_done, of_first, of_owner}
use Rattle.mono_session.specs.Answers as answer
use Rattle.mono_session.specs.declared.error.SessionError.TheVariants as error

-- The tick at which the clock closes an open session.
abbrev pub closing_value : Option Session → Option ℕ
closing_value None = None
closing_value (Some session) = Some (closing_tick session)

-- The greatest tick once the clock shows n.
abbrev pub greatest_at : Keeper → ℕ → ℕ
greatest_at keeper n = max keeper.greatest (down n)

abbrev pub without_all : Keeper → List ℕ → Keeper
without_all keeper [] = keeper
without_all keeper (s ∷ sessions) = without_all (without_session keeper s) sessions

-- A clock step closes exactly the open sessions whose closing tick has come, in ascending closing ticks.
abbrev pub ClockStep : Keeper → ℕ → Answer → Keeper → Type 0
ClockStep old n (answer.Closed sessions) new =
    (n ≤ max_nanos) × ListsDue closing_value old.sessions (greatest_at old n) sessions × (new ≡ without_all (with_greatest old (greatest_at old n)) sessions)
ClockStep old n (answer.Refused refusal) new = (max_nanos < n) × (refusal ≡ error.Invalid) × (new ≡ old)
ClockStep old n (answer.Session s) new = ⊥
ClockStep old n answer.Done new = ⊥
ClockStep old n answer.Held new = ⊥
ClockStep old n answer.Waits new = ⊥
ClockStep old n (answer.Owner s) new = ⊥
ClockStep old n answer.Free new = ⊥

abbrev pub Step : Keeper → Call → Answer → Keeper → Type 0
Step old (call.Open limit) a new = (a ≡ of_number (open_answer old limit)) × (new ≡ opened old limit)
Step old (call.Beat s) a new = (a ≡ of_done (beat_answer old s)) × (new ≡ beaten old s)
Step old (call.Close s) a new = (a ≡ of_done (close_answer old s)) × (new ≡ closed old s)
Step old (call.Acquire s key) a new = (a ≡ of_first (acquire_answer old s key)) × (new ≡ acquired old s key)
Step old (call.Release s key) a new = (a ≡ of_done (release_answer old s key)) × (new ≡ released old s key)
Step old (call.Owner key) a new = (a ≡ of_owner (owner_answer old key)) × (new ≡ old)
Step old (call.Clock n) a new = ClockStep old n a new

-- One step after another, with one answer for each call.
abbrev pub Run : Keeper → List Call → List Answer → Keeper → Type 0
Run old [] [] new = new ≡ old
Run old (c ∷ calls) (a ∷ answers) new = (mid : Keeper) × Step old c a mid × Run mid calls answers new
Run old [] (a ∷ answers) new = ⊥
Run old (c ∷ calls) [] new = ⊥
