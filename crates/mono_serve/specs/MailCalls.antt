-- The calls of mailboxes for whose messages tasks wait, and the effect of each.
use Rattle.std.specs.Prelude.{⊤, ◌≡◌, ◌==◌, ◌&&◌, ◌||◌, ◌+◌, ℕ, Bool, true, false, not, if◌then◌else◌, MatchBool, List, [], ◌∷◌, ◌++◌, Option, Some, None, Result, Ok, Err, IfErr, slice_index_or}
use Rattle.std.specs.List.{list_any, position, remove}
use Rattle.mono_model.specs.Table.{value_at}
use Rattle.mono_actor.specs.Actors.{if_granted, spawn_answer, spawned, send_answer, sent, ended}
use Rattle.mono_actor.specs.Actors as model
use Rattle.mono_actor.specs.Callers.{OrLacksMemory, actors_of, without_message}
use Rattle.mono_actor.specs.QueueInvariants.{is_queued, of_actor}
use Rattle.mono_actor.specs.Receives.{begin_of_answer, begun_one, waits_at}
use Rattle.mono_actor.specs.declared.answers.ActorError.{ActorError}
use Rattle.mono_actor.specs.declared.answers.ActorError.TheVariants.{Memory, Idle}
use Rattle.mono_actor.specs.declared.answers.Got.{Got}
use Rattle.mono_actor.specs.declared.answers.Got.TheVariants as got
use Rattle.mono_actor.specs.declared.answers.Sent.{Sent}
use Rattle.mono_actor.specs.declared.answers.SendRefused.{SendRefused}
use Rattle.mono_task.specs.Owed.{Hands}
use Rattle.mono_serve.specs.Stands.{stands, tasks_in, stands_some}
use Rattle.mono_serve.specs.declared.mailboxes.Receiver.{Receiver}
use Rattle.mono_serve.specs.declared.mailboxes.Received.{Received}
use Rattle.mono_serve.specs.declared.mailboxes.Received.TheVariants as receive
use Rattle.mono_serve.specs.declared.mailboxes.Mailboxes.{Mailboxes}

-- The place of the future with this ticket.
abbrev pub place_of : List Receiver → ℕ → Option ℕ
place_of ws ticket = position (λ w. w.ticket == ticket) ws

-- The place of the first that waits for the actor.
abbrev pub first_place : List Receiver → ℕ → Option ℕ
first_place ws actor = position (λ w. w.actor == actor) ws

-- Whether this task waits for the actor with the ticket.
abbrev pub is_there : List Receiver → ℕ → ℕ → ℕ → Bool
is_there ws ticket actor task = list_any (λ w. ((w.ticket == ticket) && (w.actor == actor)) && (w.task == task)) ws

-- Whether a task waits for the actor.
abbrev pub has_actor : List Receiver → ℕ → Bool
has_actor ws actor = list_any (λ w. w.actor == actor) ws

-- Whether a task waits for a message.
abbrev pub has_task : List Receiver → ℕ → Bool
has_task ws task = list_any (λ w. w.task == task) ws

-- The task, and the place at which it waits: the actor, and then the ticket.
abbrev pub task_of : Receiver → ℕ
task_of w = w.task

abbrev pub is_at : List ℕ → Receiver → Bool
is_at [] w = false
is_at (actor ∷ []) w = false
is_at (actor ∷ ticket ∷ []) w = (w.actor == actor) && (w.ticket == ticket)
is_at (actor ∷ ticket ∷ n ∷ p) w = false

-- The one that left, unless it is the running task's.
abbrev pub others : Receiver → ℕ → List Receiver
others w me = if w.task == me then [] else w ∷ []

module _ {M : Type 0} where
  -- The message of a turn, with its sender. A timeout is none.
  abbrev pub message_of : Result (Option (Got M)) ActorError → Result (Option (ℕ × M)) ActorError
  message_of (Ok (Some (got.Message from message))) = Ok (Some (from, message))
  message_of (Ok (Some got.Timeout)) = Ok None
  message_of (Ok None) = Ok None
  message_of (Err error) = Err error

  -- The first message of an actor is taken, as a whole turn of it.
  abbrev pub take_answer : model.Actors M → ℕ → Result (Option (ℕ × M)) ActorError
  take_answer u a = message_of (begin_of_answer u a)

  abbrev pub taken : model.Actors M → ℕ → model.Actors M
  taken u a = if of_actor is_queued (value_at u.table a) then ended false (begun_one u a) a else u

  -- An actor is removed as the end of its turn, if it has one.
  abbrev pub stop_of : Result (Option (Got M)) ActorError → Result ⊤ ActorError
  stop_of (Ok (Some what)) = Ok tt
  stop_of (Ok None) = Err Idle
  stop_of (Err error) = Err error

  abbrev pub stopped : model.Actors M → ℕ → model.Actors M
  stopped u a = if of_actor is_queued (value_at u.table a) then ended true (begun_one u a) a else u

  -- The tasks in the line, after them those that were called, and then those that are owed a wake.
  abbrev pub standing : Mailboxes M → List Receiver
  standing a = a.waiters.items ++ (a.called.items ++ a.due.items)

  abbrev pub listed_in : Mailboxes M → List ℕ → ℕ → Bool
  listed_in a p t = stands task_of is_at (standing a) p t

  abbrev pub waiting_in : Mailboxes M → List ℕ
  waiting_in a = tasks_in task_of (standing a)

  abbrev pub owed_by : Mailboxes M → List ℕ
  owed_by a = tasks_in task_of a.due.items

  pub some_waits : (a : Mailboxes M) (p : List ℕ) (t : ℕ) → listed_in a p t ≡ true → list_any (λ u. u == t) (waiting_in a) ≡ true
  some_waits a p t is = stands_some task_of is_at (standing a) p t is

  -- The tasks wait as before.
  abbrev pub SameLine : Mailboxes M → Mailboxes M → Type 0
  SameLine a b = (b.waiters.items ≡ a.waiters.items) × (b.called.items ≡ a.called.items) × (b.next ≡ a.next) × (b.due.items ≡ a.due.items)

  -- All stays the same but what is owed.
  abbrev pub SameBut : Mailboxes M → Mailboxes M → Type 0
  SameBut a b = (b.waiters.items ≡ a.waiters.items) × (b.called.items ≡ a.called.items) × (b.next ≡ a.next) × (b.actors ≡ a.actors)

  -- An actor is added, a message sent, an actor removed. No task enters or leaves the line.
  abbrev pub Spawns : Mailboxes M → Result ℕ ActorError → Mailboxes M → Type 0
  Spawns a r b = OrLacksMemory (spawn_answer (actors_of a.actors)) r × (actors_of b.actors ≡ if_granted r (actors_of a.actors) (spawned (actors_of a.actors))) × SameLine a b

  abbrev pub Sends : Mailboxes M → ℕ → ℕ → M → Result Sent (SendRefused M) → Mailboxes M → Type 0
  Sends a from to message r b =
      OrLacksMemory (send_answer (actors_of a.actors) from to) (without_message r) × (actors_of b.actors ≡ if_granted (without_message r) (actors_of a.actors) (sent (actors_of a.actors) from to message))
      × IfErr r (λ refused. refused.message ≡ message) × SameLine a b

  abbrev pub Stops : Mailboxes M → ℕ → Result ⊤ ActorError → Mailboxes M → Type 0
  Stops a actor r b = (r ≡ stop_of (begin_of_answer (actors_of a.actors) actor)) × (actors_of b.actors ≡ stopped (actors_of a.actors) actor) × SameLine a b

  -- The first message of an actor is taken, as a whole turn of it.
  abbrev pub Takes : Mailboxes M → ℕ → Result (Option (ℕ × M)) ActorError → Mailboxes M → Type 0
  Takes a actor r b = (r ≡ take_answer (actors_of a.actors) actor) × (actors_of b.actors ≡ taken (actors_of a.actors) actor) × SameLine a b

  -- The task is at the end of the line with the next ticket, or there was no memory for it.
  abbrev pub Joins : Mailboxes M → ℕ → ℕ → Received M → Mailboxes M → Type 0
  Joins a actor task (receive.Got from message) b = ⊥
  Joins a actor task (receive.Waits ticket) b =
      (ticket ≡ a.next) × (b.waiters.items ≡ a.waiters.items ++ record { ticket = a.next; actor = actor; task = task } ∷ []) × (b.called.items ≡ a.called.items) × (b.next ≡ a.next + 1) × (b.due.items ≡ a.due.items) × (b.actors ≡ a.actors)
  Joins a actor task (receive.Refused error) b = (error ≡ Memory) × SameLine a b × (b.actors ≡ a.actors)

  -- Whether the first that waits for the actor is to be called: the actor has a message or was removed, and none was
  -- called.
  abbrev pub is_ready : Mailboxes M → ℕ → Bool
  is_ready a actor = not (waits_at (actors_of a.actors) actor) && not (has_actor a.called.items actor)

  -- The future at this place of the line is called, and its task is owed a wake.
  abbrev pub CallsAt : ℕ → Mailboxes M → Mailboxes M → Type 0
  CallsAt i a b =
      (w : Receiver) × (w ≡ slice_index_or a.waiters.items i w) × (b.waiters.items ≡ remove a.waiters.items i) × (b.called.items ≡ a.called.items ++ w ∷ []) × (b.due.items ≡ a.due.items ++ w ∷ []) × (b.next ≡ a.next) × (b.actors ≡ a.actors)

  abbrev pub CallsPlace : Option ℕ → Mailboxes M → Mailboxes M → Type 0
  CallsPlace None a b = b ≡ a
  CallsPlace (Some i) a b = CallsAt i a b

  abbrev pub CallsNext : Mailboxes M → ℕ → Mailboxes M → Type 0
  CallsNext a actor b = MatchBool (is_ready a actor) (CallsPlace (first_place a.waiters.items actor) a b) (b ≡ a)

  -- After the effect of a call, the first that waits for the actor is called if it is to be.
  abbrev pub Then : (Mailboxes M → Type 0) → ℕ → Mailboxes M → Type 0
  Then Effect actor b = (m : Mailboxes M) × Effect m × CallsNext m actor b

  -- The future at this place leaves, in a turn of the task `me`. Another task that waits there is owed a wake.
  abbrev pub LeavesLine : ℕ → Mailboxes M → ℕ → Mailboxes M → Type 0
  LeavesLine i a me b =
      (w : Receiver) × (w ≡ slice_index_or a.waiters.items i w) × (b.waiters.items ≡ remove a.waiters.items i) × (b.called.items ≡ a.called.items) × (b.due.items ≡ a.due.items ++ others w me) × (b.next ≡ a.next) × (b.actors ≡ a.actors)

  -- The next one of its actor is called if it was called itself.
  abbrev pub OutOfCalled : ℕ → Mailboxes M → ℕ → Receiver → Mailboxes M → Type 0
  OutOfCalled i a me w m =
      (w ≡ slice_index_or a.called.items i w) × (m.waiters.items ≡ a.waiters.items) × (m.called.items ≡ remove a.called.items i) × (m.due.items ≡ a.due.items ++ others w me) × (m.next ≡ a.next) × (m.actors ≡ a.actors)

  abbrev pub LeavesCalled : ℕ → Mailboxes M → ℕ → Mailboxes M → Type 0
  LeavesCalled i a me b = (w : Receiver) × (m : Mailboxes M) × OutOfCalled i a me w m × CallsNext m w.actor b

  abbrev pub GivesUpLine : Option ℕ → Mailboxes M → ℕ → Mailboxes M → Type 0
  GivesUpLine None a me b = b ≡ a
  GivesUpLine (Some i) a me b = LeavesLine i a me b

  abbrev pub GivesUpAt : Option ℕ → Mailboxes M → ℕ → ℕ → Mailboxes M → Type 0
  GivesUpAt None a ticket me b = GivesUpLine (place_of a.waiters.items ticket) a me b
  GivesUpAt (Some i) a ticket me b = LeavesCalled i a me b

  -- A future leaves those that were called, or the line.
  abbrev pub GivesUp : Mailboxes M → ℕ → ℕ → Mailboxes M → Type 0
  GivesUp a ticket me b = GivesUpAt (place_of a.called.items ticket) a ticket me b

  -- The answer after the first message of the actor was taken, or none was there.
  abbrev pub AfterTake : Result (Option (ℕ × M)) ActorError → Mailboxes M → ℕ → ℕ → Received M → Mailboxes M → Type 0
  AfterTake (Ok (Some (from, message))) a actor task r b = (r ≡ receive.Got from message) × (b ≡ a)
  AfterTake (Ok None) a actor task r b = Joins a actor task r b
  AfterTake (Err error) a actor task r b = (r ≡ receive.Refused error) × (b ≡ a)

  -- A future takes the first message. If none is there, it joins the line.
  abbrev pub Asks : Mailboxes M → ℕ → ℕ → Received M → Mailboxes M → Type 0
  Asks a actor task r b = (t : Result (Option (ℕ × M)) ActorError) × (m : Mailboxes M) × Takes a actor t m × AfterTake t m actor task r b

  -- A future that was called takes the first message, and leaves those that were called.
  abbrev pub Collects : Mailboxes M → ℕ → ℕ → ℕ → Received M → Mailboxes M → Type 0
  Collects a ticket actor task r b =
      (t : Result (Option (ℕ × M)) ActorError) × (m : Mailboxes M) × (n : Mailboxes M) × Takes a actor t m × GivesUp m ticket task n × AfterTake t n actor task r b

  -- A future that is not in the line joins it if a task waits for the actor.
  abbrev pub Fresh : Mailboxes M → ℕ → ℕ → Received M → Mailboxes M → Type 0
  Fresh a actor task r b = MatchBool (has_actor a.waiters.items actor || has_actor a.called.items actor) (Joins a actor task r b) (Asks a actor task r b)

  -- A future asks for the first message of an actor.
  abbrev pub Returns : Mailboxes M → ℕ → ℕ → ℕ → Received M → Mailboxes M → Type 0
  Returns a ticket actor task r b = MatchBool (is_there a.called.items ticket actor task) (Collects a ticket actor task r b) ((m : Mailboxes M) × GivesUp a ticket task m × Fresh m actor task r b)

  abbrev pub Receives : Mailboxes M → Option ℕ → ℕ → ℕ → Received M → Mailboxes M → Type 0
  Receives a None actor task r b = Fresh a actor task r b
  Receives a (Some ticket) actor task r b = MatchBool (is_there a.waiters.items ticket actor task) ((r ≡ receive.Waits ticket) × (b ≡ a)) (Returns a ticket actor task r b)

  -- The first task that is owed a wake is handed out.
  abbrev pub HandsOut : Mailboxes M → Option ℕ → Mailboxes M → Type 0
  HandsOut a task b = Hands listed_in owed_by a task b × (b.waiters.items ≡ a.waiters.items) × (b.called.items ≡ a.called.items) × (b.next ≡ a.next) × (b.actors ≡ a.actors)

-- Whether this task waits for a message.
abbrev pub lists_task : {M : Type 0} → Mailboxes M → ℕ → Bool
lists_task a task = has_task a.waiters.items task || has_task a.called.items task

-- A call with its answer, or one step of what follows a call.
pub data Event (M : Type 0) : Type 0 where
  spawned_one : (answer : Result ℕ ActorError) → Event M
  sent_one : (from : ℕ) → (to : ℕ) → (message : M) → (answer : Result Sent (SendRefused M)) → Event M
  stopped_one : (actor : ℕ) → (answer : Result ⊤ ActorError) → Event M
  received : (ticket : Option ℕ) → (actor : ℕ) → (task : ℕ) → (answer : Received M) → Event M
  called_next : (actor : ℕ) → Event M
  gave_up : (ticket : ℕ) → (me : ℕ) → Event M
  handed : (task : Option ℕ) → Event M

module _ {M : Type 0} where
  abbrev pub Step : Mailboxes M → Event M → Mailboxes M → Type 0
  Step a (spawned_one r) b = Spawns a r b
  Step a (sent_one from to message r) b = Sends a from to message r b
  Step a (stopped_one actor r) b = Stops a actor r b
  Step a (received ticket actor task r) b = Receives a ticket actor task r b
  Step a (called_next actor) b = CallsNext a actor b
  Step a (gave_up ticket me) b = GivesUp a ticket me b
  Step a (handed task) b = HandsOut a task b
