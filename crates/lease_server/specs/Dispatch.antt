-- What a dispatcher did with the lines that it was given.
use Rattle.std.specs.Prelude.{◌≡◌, ◌<◌, ℕ, List, map, length, Option, slice_index_or, vec_len, vec_capacity}
use Rattle.mono_text.specs.Lines.{lines}
use Rattle.lease_core.specs.declared.requests.Request.{Request}
use Rattle.lease_server.specs.Lanes.{given, sent_over, answers_given, answers_sent}
use Rattle.lease_server.specs.Outlets.{Stays}
use Rattle.lease_server.specs.Routing.{Ask, all_routed, refused}
use Rattle.lease_server.specs.Answers.{refusals_of}
use Rattle.lease_server.specs.declared.lanes.Lane.{Lane}
use Rattle.lease_server.specs.declared.dispatchers.Dispatcher.{Dispatcher}

-- Each of these lanes, from core 0 on, was given the requests of its core.
abbrev pub AreRouted : List (Option Request) → List Lane → Type 0
AreRouted asked lanes = map given lanes ≡ all_routed (length lanes) asked

-- Each lane has the channel that it had, and its shares.
pub record HaveSameWays (old new : List Lane) : Type 0 where
  pub count : length new ≡ length old
  pub each : (k : ℕ) (lane : Lane) → k < length old → Stays (slice_index_or old k lane).outlet.sender (slice_index_or new k lane).outlet.sender

-- Each lane, and the refusals, have the channel that they had, and their shares.
pub record KeepsWays (old new : Dispatcher) : Type 0 where
  pub lanes : HaveSameWays old.lanes.items new.lanes.items
  pub refusals : Stays old.refusals.outlet.sender new.refusals.outlet.sender

-- One more lane has room.
abbrev pub HasRoom : Dispatcher → Type 0
HasRoom dispatcher = vec_len dispatcher.lanes < vec_capacity dispatcher.lanes

-- The lines that ask this were numbered. Each lane was given the requests of its core, and the others were refused.
pub record Holds (asked : List (Option Request)) (dispatcher : Dispatcher) : Type 0 where
  pub number : dispatcher.last ≡ length asked
  pub lanes : AreRouted asked dispatcher.lanes.items
  pub refusals : answers_given dispatcher.refusals ≡ refusals_of (refused 1 asked)

-- All that it was given was sent.
pub record HasSentAll (dispatcher : Dispatcher) : Type 0 where
  pub lanes : map sent_over dispatcher.lanes.items ≡ map given dispatcher.lanes.items
  pub refusals : answers_sent dispatcher.refusals ≡ answers_given dispatcher.refusals

-- Each line of the text was answered: its request was given to the lane of its core, or it was refused.
pub record Answers (text : List ℕ) (dispatcher : Dispatcher) : Type 0 where
  pub asked : List (Option Request)
  pub asks : Ask 1 (lines text) asked
  pub holds : Holds asked dispatcher

-- Each line of the text was sent: its request to its core, or its refusal.
pub record Sends (text : List ℕ) (dispatcher : Dispatcher) : Type 0 where
  pub asked : List (Option Request)
  pub asks : Ask 1 (lines text) asked
  pub lanes : map sent_over dispatcher.lanes.items ≡ all_routed (length dispatcher.lanes.items) asked
  pub refusals : answers_sent dispatcher.refusals ≡ refusals_of (refused 1 asked)
