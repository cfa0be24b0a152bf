-- The answers of the calls on the sessions.
use Rattle.std.specs.Prelude.{ℕ, ⊤, Bool, true, false, List, Option, Some, None, Result, Ok, Err}
use Rattle.mono_session.specs.declared.error.SessionError.{SessionError}

pub data Answer : Type 0 where
  Session : (s : ℕ) → Answer
  Done : Answer
  -- It is the first in the queue, or waits after others.
  Held : Answer
  Waits : Answer
  Owner : (s : ℕ) → Answer
  Free : Answer
  -- The clock closed these sessions.
  Closed : (closed : List ℕ) → Answer
  Refused : (error : SessionError) → Answer

abbrev pub of_number : Result ℕ SessionError → Answer
of_number (Ok s) = Session s
of_number (Err error) = Refused error

abbrev pub of_done : Result ⊤ SessionError → Answer
of_done (Ok x) = Done
of_done (Err error) = Refused error

abbrev pub of_first : Result Bool SessionError → Answer
of_first (Ok true) = Held
of_first (Ok false) = Waits
of_first (Err error) = Refused error

abbrev pub of_owner : Option ℕ → Answer
of_owner None = Free
of_owner (Some s) = Owner s
