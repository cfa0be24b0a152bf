-- The actors as their callers see them, and the answers of the calls.
use Rattle.std.specs.Prelude.{◌≡◌, ◌⊎◌, ◌++◌, ℕ, List, Result, Ok, Err, IsOk}
use Rattle.mono_wheel.specs.Credit.{credit}
use Rattle.mono_actor.specs.Actors as model
use Rattle.mono_actor.specs.Answers as answer
use Rattle.mono_actor.specs.Steps.{ClockStep}
use Rattle.mono_actor.specs.Places.{table_of}
use Rattle.mono_actor.specs.Store.{places_of}
use Rattle.mono_actor.specs.declared.answers.ActorError.{ActorError}
use Rattle.mono_actor.specs.declared.answers.ActorError.TheVariants.{Memory}
use Rattle.mono_actor.specs.declared.answers.Sent.{Sent}
use Rattle.mono_actor.specs.declared.answers.SendRefused.{SendRefused}
use Rattle.mono_actor.specs.declared.table.Actors.{Actors}

-- The answer is the specified one or, if that is no refusal, out of memory.
abbrev pub OrLacksMemory : {A : Type 0} → Result A ActorError → Result A ActorError → Type 0
OrLacksMemory told result = (result ≡ told) ⊎ ((result ≡ Err Memory) × IsOk told)

module _ {M : Type 0} where
  abbrev pub actors_of : Actors M → model.Actors M
  actors_of actors = record {
    table = table_of (places_of actors.places);
    queue = actors.queue.items;
    turn = actors.turn;
    greatest = actors.greatest;
    most_actors = actors.most_actors;
    most_messages = actors.most_messages;
  }

  -- The number of steps that the wheel has still to take for the waiting actors.
  abbrev pub credit_left : Actors M → ℕ
  credit_left actors = credit actors.timers.wheel

  -- A send's answer without the message that was refused.
  abbrev pub without_message : Result Sent (SendRefused M) → Result Sent ActorError
  without_message (Ok sent) = Ok sent
  without_message (Err refused) = Err refused.cause

  -- A clock step to n nanoseconds, with its list of actors appended.
  pub record ListsAndQueues (old : model.Actors M) (n : ℕ) (items with_due : List ℕ) (new : model.Actors M) : Type 0 where
    pub due : List ℕ
    pub appended : with_due ≡ items ++ due
    pub step : ClockStep old n (answer.Due due) new
