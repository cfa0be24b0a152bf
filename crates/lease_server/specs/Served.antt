-- What a core performs, and the answers that it appends.
use Rattle.std.specs.Prelude.{◌≡◌, ℕ, List, [], ◌∷◌, ◌++◌, map}
use Rattle.std.specs.Global.{Vec}
use Rattle.mono_channel.specs.Ends.{Ends, received_by}
use Rattle.mono_channel.specs.Polls.{HasReceived, FindsNone}
use Rattle.lease_core.specs.declared.requests.Request.{Request}
use Rattle.lease_core.specs.declared.requests.Reply.{Reply}
use Rattle.lease_core.specs.Steps.{Event, Advance, Handle, Finish}
use Rattle.lease_server.specs.declared.answers.Answer.{Answer}
use Rattle.lease_server.specs.Answers.{by_core}
use Rattle.lease_server.specs.Lanes.{joined}
use Rattle.lease_server.specs.EndToEnd.{requests_in}
use Rattle.lease_server.specs.Desks.{Did}
use Rattle.lease_server.specs.declared.desks.Desk.{Desk}
use Rattle.lease_server.specs.declared.batches.Came.{Came}
use Rattle.lease_server.specs.declared.batches.Came.TheVariants as came

-- The core did a run of these events, and its replies, by the core of this number, were appended.
abbrev pub Serves : Desk → ℕ → List Event → List Answer → Desk → List Answer → Type 0
Serves old number events before new after = (replies : List Reply) × Did old events replies new × (after ≡ before ++ by_core number replies)

-- The first list is a beginning of the second.
abbrev pub Begins : {A : Type 0} → List A → List A → Type 0
Begins {A} xs ys = (rest : List A) × (ys ≡ xs ++ rest)

-- The core did a run, whose requests are these.
abbrev pub Performs : Desk → List Request → Desk → Type 0
Performs old requests new = (events : List Event) × (replies : List Reply) × Did old events replies new × (requests_in events ≡ requests)

-- The core did a run, whose requests are a beginning of these.
abbrev pub PerformsSome : Desk → List Request → Desk → Type 0
PerformsSome old requests new = (done : List Request) × Begins done requests × Performs old done new

-- These requests were received, and a beginning of them was performed.
pub record Takes (old : Desk) (from : Ends (Vec Request)) (new : Desk) (to : Ends (Vec Request)) : Type 0 where
  pub more : List Request
  pub received : joined (received_by to) ≡ joined (received_by from) ++ more
  pub performed : PerformsSome old more new

-- The events of these requests, in order.
abbrev pub handled : List Request → List Event
handled requests = map Handle requests

-- What came over the channel: nothing yet, a batch of requests, or the end of the input.
abbrev pub Comes : Came → Ends (Vec Request) → List Event → Ends (Vec Request) → Type 0
Comes came.Nothing old events new = (events ≡ []) × FindsNone old new
Comes came.Requests old events new = (batch : Vec Request) × (events ≡ handled batch.items) × HasReceived old batch new
Comes came.End old events new = (events ≡ Finish ∷ []) × FindsNone old new

-- The core served what came.
abbrev pub ServesNext : Came → Desk → ℕ → Ends (Vec Request) → List Answer → Desk → Ends (Vec Request) → List Answer → Type 0
ServesNext came old number from before new to after = (events : List Event) × Comes came from events to × Serves old number events before new after

-- The core's clock showed n nanoseconds, and then the core served what came. The text has all replies.
abbrev pub ServesAt : Came → Desk → ℕ → Ends (Vec Request) → Desk → Ends (Vec Request) → List Answer → Type 0
ServesAt came old n from new to text = (events : List Event) × Comes came from events to × Serves old old.number (Advance n ∷ events) [] new text
