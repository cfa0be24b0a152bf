-- The answers of the calls on the actors.
use Rattle.std.specs.Prelude.{ℕ, ⊤, List, Result, Ok, Err}
use Rattle.mono_actor.specs.declared.answers.ActorError.{ActorError}
use Rattle.mono_actor.specs.declared.answers.Sent.{Sent}
use Rattle.mono_actor.specs.declared.answers.Got.{Got}
use Rattle.mono_actor.specs.declared.answers.After.{After}

pub data Answer (M : Type 0) : Type 0 where
  Actor : (a : ℕ) → Answer M
  Posted : (what : Sent) → Answer M
  Done : Answer M
  -- The actor has its turn.
  Turn : (a : ℕ) → (got : Got M) → Answer M
  Ended : (how : After) → Answer M
  -- These actors were queued, since their timeouts have come.
  Due : (due : List ℕ) → Answer M
  Refused : (error : ActorError) → Answer M
  -- The clock may not show this reading.
  Invalid : Answer M

module _ {M : Type 0} where
  abbrev pub of_number : Result ℕ ActorError → Answer M
  of_number (Ok a) = Actor a
  of_number (Err error) = Refused error

  abbrev pub of_send : Result Sent ActorError → Answer M
  of_send (Ok what) = Posted what
  of_send (Err error) = Refused error

  abbrev pub of_done : Result ⊤ ActorError → Answer M
  of_done (Ok x) = Done
  of_done (Err error) = Refused error

  abbrev pub of_begin : Result (ℕ × Got M) ActorError → Answer M
  of_begin (Ok (a, got)) = Turn a got
  of_begin (Err error) = Refused error
