-- A turn of a given actor, which leaves the queue from wherever it is.
use Rattle.std.specs.Prelude.{ℕ, Bool, false, ◌==◌, not, if◌then◌else◌, List, filter, Option, Some, None, Result, Ok, Err}
use Rattle.mono_model.specs.Table.{value_at}
use Rattle.mono_actor.specs.Actors.{Actor, Actors, got_in, begun_table}
use Rattle.mono_actor.specs.QueueInvariants.{is_queued, of_actor}
use Rattle.mono_actor.specs.declared.answers.ActorError.{ActorError}
use Rattle.mono_actor.specs.declared.answers.ActorError.TheVariants.{NoActor}
use Rattle.mono_actor.specs.declared.answers.Got.{Got}

-- A list without a number.
abbrev pub left_by : ℕ → List ℕ → List ℕ
left_by a queue = filter (λ b. not (b == a)) queue

module _ {M : Type 0} where
  -- A queued actor gets its first message, or a timeout if there is none. No other actor gets anything.
  abbrev pub begin_of_value : Option (Actor M) → Result (Option (Got M)) ActorError
  begin_of_value None = Err NoActor
  begin_of_value (Some actor) = if is_queued actor.mode then Ok (Some (got_in actor.mailbox)) else Ok None

  abbrev pub begin_of_answer : Actors M → ℕ → Result (Option (Got M)) ActorError
  begin_of_answer actors a = begin_of_value (value_at actors.table a)

  abbrev pub begun_one : Actors M → ℕ → Actors M
  begun_one actors a = record {
    table = begun_table (value_at actors.table a) actors.table a;
    queue = left_by a actors.queue;
    turn = Some a;
    greatest = actors.greatest;
    most_actors = actors.most_actors;
    most_messages = actors.most_messages;
  }

  -- The actors after the turn of this actor began, if it was queued.
  abbrev pub begun_of : Actors M → ℕ → Actors M
  begun_of actors a = if of_actor is_queued (value_at actors.table a) then begun_one actors a else actors

  -- Whether the actor is live and not queued: its turn would get nothing.
  abbrev pub waits_value : Option (Actor M) → Bool
  waits_value None = false
  waits_value (Some actor) = not (is_queued actor.mode)

  abbrev pub waits_at : Actors M → ℕ → Bool
  waits_at actors a = waits_value (value_at actors.table a)
