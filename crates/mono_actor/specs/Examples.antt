-- Examples: a list of calls, and a list of answers that may be given.
use Rattle.std.specs.Prelude.{ℕ, true, false, List, [], ◌∷◌}
use Rattle.mono_actor.specs.Actors.{Actors, no_actors}
use Rattle.mono_actor.specs.Calls.{Call}
use Rattle.mono_actor.specs.Calls as call
use Rattle.mono_actor.specs.Answers.{Answer}
use Rattle.mono_actor.specs.Answers as answer
use Rattle.mono_actor.specs.Steps.{Run}
use Rattle.mono_actor.specs.declared.answers.ActorError.TheVariants as error
use Rattle.mono_actor.specs.declared.answers.Sent.TheVariants.{Queued, Waits}
use Rattle.mono_actor.specs.declared.answers.Got.TheVariants.{Message, Timeout}
use Rattle.mono_actor.specs.declared.answers.After.TheVariants.{Idle, Again, Stopped}

abbrev pub MayAnswer : Actors ℕ → List (Call ℕ) → List (Answer ℕ) → Type 0
MayAnswer old calls answers = (new : Actors ℕ) × Run old calls answers new

-- Two actors that send to each other, until one of them stops.
abbrev pub PassedOn : Type 0
PassedOn = MayAnswer (no_actors 4 16)
    (call.Spawn ∷ call.Spawn ∷ call.Send 0 1 7 ∷ call.Send 0 1 8 ∷ call.Begin ∷ call.Send 1 0 5 ∷ call.End false ∷ call.Begin ∷ call.End false ∷ call.Begin ∷ call.Send 1 3 1 ∷ call.End true ∷ call.Send 0 1 9 ∷ [])
    (answer.Actor 0 ∷ answer.Actor 1 ∷ answer.Posted Queued ∷ answer.Posted Waits ∷ answer.Turn 1 (Message 0 7) ∷ answer.Posted Queued ∷ answer.Ended Again ∷ answer.Turn 0 (Message 1 5) ∷ answer.Ended Idle
    ∷ answer.Turn 1 (Message 0 8) ∷ answer.Refused error.NoActor ∷ answer.Ended Stopped ∷ answer.Refused error.NoActor ∷ [])

-- A timeout that comes together with a message, and a timeout that comes alone.
abbrev pub TimedOut : Type 0
TimedOut = MayAnswer (no_actors 1 1)
    (call.Spawn ∷ call.Spawn ∷ call.Timeout 0 20 ∷ call.Clock 19999999 ∷ call.Clock 20000000 ∷ call.Send 0 0 3 ∷ call.Begin ∷ call.End false ∷ call.Clock 40000000 ∷ call.Begin ∷ call.End false ∷ call.Begin ∷ [])
    (answer.Actor 0 ∷ answer.Refused error.AtCapacity ∷ answer.Done ∷ answer.Due [] ∷ answer.Due (0 ∷ []) ∷ answer.Posted Waits ∷ answer.Turn 0 (Message 0 3) ∷ answer.Ended Idle
    ∷ answer.Due (0 ∷ []) ∷ answer.Turn 0 Timeout ∷ answer.Ended Idle ∷ answer.Refused error.Idle ∷ [])

-- No turn begins with a timeout while a message waits.
abbrev pub MessageFirst : Type 0
MessageFirst = MayAnswer (no_actors 1 1)
    (call.Spawn ∷ call.Send 0 0 3 ∷ call.Begin ∷ [])
    (answer.Actor 0 ∷ answer.Posted Queued ∷ answer.Turn 0 Timeout ∷ []) → ⊥
