-- Actors with their mailboxes, and the queue of those that run next.
use Rattle.std.specs.Prelude.{⊤, ℕ, ◌+◌, ◌-◌, ◌^◌, Bool, true, false, ◌==◌, if◌then◌else◌, List, [], ◌∷◌, ◌++◌, length, sum_by, Option, Some, None, Result, Ok, Err, is_some, nat_lt, nat_le}
use Rattle.mono_model.specs.Table.{Table, value_at, next_number, with_next, with_value, without, is_full}
use Rattle.mono_actor.specs.declared.mailboxes.Letter.{Letter}
use Rattle.mono_actor.specs.declared.answers.ActorError.{ActorError}
use Rattle.mono_actor.specs.declared.answers.ActorError.TheVariants.{AtCapacity, NoActor}
use Rattle.mono_actor.specs.declared.answers.ActorError.TheVariants as error
use Rattle.mono_actor.specs.declared.answers.Sent.{Sent}
use Rattle.mono_actor.specs.declared.answers.Sent.TheVariants.{Queued, Waits}
use Rattle.mono_actor.specs.declared.answers.Got.{Got}
use Rattle.mono_actor.specs.declared.answers.Got.TheVariants.{Message, Timeout}
use Rattle.mono_actor.specs.declared.answers.After.{After}
use Rattle.mono_actor.specs.declared.answers.After.TheVariants as after

-- The mode of an actor: an idle one may wait for a tick.
pub data Mode : Type 0 where
  idle : (waits_for : Option ℕ) → Mode
  queued : Mode
  running : Mode

-- An actor has its mailbox, the oldest message first, and its receive timeout in ticks, or 0 for none.
pub record Actor (M : Type 0) : Type 0 where
  pub mode : Mode
  pub mailbox : List (Letter M)
  pub timeout : ℕ

-- The live actors, the queue of those that run next, the actor that has its turn, the greatest tick of the clock so
-- far, and the greatest numbers of actors and messages.
pub record Actors (M : Type 0) : Type 0 where
  pub table : Table (Actor M)
  pub queue : List ℕ
  pub turn : Option ℕ
  pub greatest : ℕ
  pub most_actors : ℕ
  pub most_messages : ℕ

-- The greatest tick for which an actor waits.
abbrev pub last_tick : ℕ
last_tick = 2 ^ 63 - 1

-- The tick for which an actor waits from now on: none if it has no timeout, or if that tick is too late.
abbrev pub wait_from : ℕ → ℕ → Option ℕ
wait_from now timeout = if timeout == 0 then None else if nat_lt last_tick (now + timeout) then None else Some (now + timeout)

abbrev pub is_idle : Mode → Bool
is_idle (idle waits_for) = true
is_idle queued = false
is_idle running = false

-- The effect of a message on its receiver.
abbrev pub sent_in : Mode → Sent
sent_in (idle waits_for) = Queued
sent_in queued = Waits
sent_in running = Waits

-- The mode after a new timeout: an idle actor waits anew from now.
abbrev pub mode_with : ℕ → ℕ → Mode → Mode
mode_with now timeout (idle waits_for) = idle (wait_from now timeout)
mode_with now timeout queued = queued
mode_with now timeout running = running

module _ {M : Type 0} where
  abbrev pub no_actors : ℕ → ℕ → Actors M
  no_actors most_actors most_messages = record { table = []; queue = []; turn = None; greatest = 0; most_actors = most_actors; most_messages = most_messages }

  abbrev pub with_table : Actors M → Table (Actor M) → Actors M
  with_table actors table = record { table = table; queue = actors.queue; turn = actors.turn; greatest = actors.greatest; most_actors = actors.most_actors; most_messages = actors.most_messages }

  abbrev pub with_actor : Actors M → ℕ → Actor M → Actors M
  with_actor actors a actor = with_table actors (with_value actors.table a actor)

  abbrev pub in_mode : Actor M → Mode → Actor M
  in_mode actor mode = record { mode = mode; mailbox = actor.mailbox; timeout = actor.timeout }

  -- The actors after this one was queued last.
  abbrev pub queued_last : Actors M → ℕ → Actor M → Actors M
  queued_last actors a actor = record {
    table = with_value actors.table a (in_mode actor queued);
    queue = actors.queue ++ a ∷ [];
    turn = actors.turn;
    greatest = actors.greatest;
    most_actors = actors.most_actors;
    most_messages = actors.most_messages;
  }

  -- The number of messages in all mailboxes.
  abbrev pub letters_of : Option (Actor M) → ℕ
  letters_of None = 0
  letters_of (Some actor) = length actor.mailbox

  abbrev pub letter_count : Actors M → ℕ
  letter_count actors = sum_by letters_of actors.table

  -- A refused call changes nothing.
  abbrev pub if_granted : {A : Type 0} → Result A ActorError → Actors M → Actors M → Actors M
  if_granted (Ok x) before then_after = then_after
  if_granted (Err error) before then_after = before

  -- A new actor is idle, with an empty mailbox and no timeout.
  abbrev pub spawn_answer : Actors M → Result ℕ ActorError
  spawn_answer actors = if is_full actors.table actors.most_actors then Err AtCapacity else Ok (next_number actors.table)

  abbrev pub spawned : Actors M → Actors M
  spawned actors = if_granted (spawn_answer actors) actors (with_table actors (with_next actors.table (record { mode = idle None; mailbox = []; timeout = 0 })))

  -- A message is appended to the mailbox of its receiver. A receiver that is idle is queued, and waits no longer.
  abbrev pub sent_value : Option (Actor M) → Option (Actor M) → Result Sent ActorError
  sent_value None receiver = Err NoActor
  sent_value (Some sender) None = Err NoActor
  sent_value (Some sender) (Some receiver) = Ok (sent_in receiver.mode)

  abbrev pub send_answer : Actors M → ℕ → ℕ → Result Sent ActorError
  send_answer actors from to =
      if nat_le actors.most_messages (letter_count actors) then Err AtCapacity
      else sent_value (value_at actors.table from) (value_at actors.table to)

  abbrev pub with_letter : Actor M → ℕ → M → Actor M
  with_letter actor from message = record { mode = actor.mode; mailbox = actor.mailbox ++ record { sender = from; message = message } ∷ []; timeout = actor.timeout }

  abbrev pub received_value : Option (Actor M) → Actors M → ℕ → ℕ → M → Actors M
  received_value None actors from to message = actors
  received_value (Some actor) actors from to message =
      if is_idle actor.mode then queued_last actors to (with_letter actor from message) else with_actor actors to (with_letter actor from message)

  abbrev pub sent : Actors M → ℕ → ℕ → M → Actors M
  sent actors from to message = if_granted (send_answer actors from to) actors (received_value (value_at actors.table to) actors from to message)

  -- A call sets the receive timeout. An idle actor waits anew from now.
  abbrev pub timeout_answer : Actors M → ℕ → Result ⊤ ActorError
  timeout_answer actors a = if is_some (value_at actors.table a) then Ok tt else Err NoActor

  abbrev pub timed_value : Option (Actor M) → Actors M → ℕ → ℕ → Actors M
  timed_value None actors a ms = actors
  timed_value (Some actor) actors a ms = with_actor actors a (record { mode = mode_with actors.greatest ms actor.mode; mailbox = actor.mailbox; timeout = ms })

  abbrev pub timed : Actors M → ℕ → ℕ → Actors M
  timed actors a ms = timed_value (value_at actors.table a) actors a ms

  -- A turn begins: the front of the queue runs. It gets the first message of its mailbox, or a timeout if there is
  -- none.
  abbrev pub got_in : List (Letter M) → Got M
  got_in [] = Timeout
  got_in (letter ∷ mailbox) = Message letter.sender letter.message

  abbrev pub rest_of : List (Letter M) → List (Letter M)
  rest_of [] = []
  rest_of (letter ∷ mailbox) = mailbox

  abbrev pub got_value : Option (Actor M) → Got M
  got_value None = Timeout
  got_value (Some actor) = got_in actor.mailbox

  abbrev pub begin_for : List ℕ → Actors M → Result (ℕ × Got M) ActorError
  begin_for [] actors = Err error.Idle
  begin_for (front ∷ rest) actors = Ok (front, got_value (value_at actors.table front))

  abbrev pub begin_answer : Actors M → Result (ℕ × Got M) ActorError
  begin_answer actors = begin_for actors.queue actors

  abbrev pub begun_table : Option (Actor M) → Table (Actor M) → ℕ → Table (Actor M)
  begun_table None table front = table
  begun_table (Some actor) table front = with_value table front (record { mode = running; mailbox = rest_of actor.mailbox; timeout = actor.timeout })

  abbrev pub begun_for : List ℕ → Actors M → Actors M
  begun_for [] actors = actors
  begun_for (front ∷ rest) actors = record {
    table = begun_table (value_at actors.table front) actors.table front;
    queue = rest;
    turn = Some front;
    greatest = actors.greatest;
    most_actors = actors.most_actors;
    most_messages = actors.most_messages;
  }

  abbrev pub begun : Actors M → Actors M
  begun actors = begun_for actors.queue actors

  -- A turn ends: the actor is removed, or is queued again if it has messages, or is idle and waits from now.
  abbrev pub end_answer : Bool → Option (Actor M) → After
  end_answer true actor = after.Stopped
  end_answer false None = after.Stopped
  end_answer false (Some actor) = if length actor.mailbox == 0 then after.Idle else after.Again

  abbrev pub no_turn : Actors M → Actors M
  no_turn actors = record { table = actors.table; queue = actors.queue; turn = None; greatest = actors.greatest; most_actors = actors.most_actors; most_messages = actors.most_messages }

  abbrev pub ended_value : Bool → Option (Actor M) → Actors M → ℕ → Actors M
  ended_value true actor actors a = with_table actors (without actors.table a)
  ended_value false None actors a = actors
  ended_value false (Some actor) actors a =
      if length actor.mailbox == 0 then with_actor actors a (in_mode actor (idle (wait_from actors.greatest actor.timeout))) else queued_last actors a actor

  abbrev pub ended : Bool → Actors M → ℕ → Actors M
  ended stop actors a = ended_value stop (value_at actors.table a) (no_turn actors) a
