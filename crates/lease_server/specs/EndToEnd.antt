-- What the server does from the bytes that it reads to the bytes that it writes.
use Rattle.std.specs.Prelude.{◌≡◌, ◌⊎◌, ◌+◌, ◌<◌, ◌≤◌, ℕ, List, [], ◌∷◌, ◌++◌, map, length, Option, Some, None}
use Rattle.mono_model.specs.Valid.{times}
use Rattle.mono_text.specs.Lines.{lines}
use Rattle.mono_text.specs.Environment.{HasRead, HasReadAll, HasRisen, HasWritten, HasWrittenPrefix}
use Rattle.mono_channel.specs.Delivery.{Interleaves}
use Rattle.mono_session.specs.Keeper.{owner_answer}
use Rattle.lease_core.specs.declared.requests.Request.{Request}
use Rattle.lease_core.specs.declared.requests.Reply.{Reply}
use Rattle.lease_core.specs.declared.sizes.Sizes.{Sizes}
use Rattle.lease_core.specs.Cores.{CoreState, new_core}
use Rattle.lease_core.specs.Steps.{Event, Advance, Handle, Finish, Run}
use Rattle.lease_server.specs.Routing.{Ask, EndsLines, HasNoFeed, routed, refused}
use Rattle.lease_server.specs.Answers.{number_of, answer_lines, by_core, refusals_of}
use Rattle.lease_server.specs.declared.answers.Answer.{Answer}

-- The requests among a core's events, in order.
abbrev pub requests_in : List Event → List Request
requests_in [] = []
requests_in (Advance n ∷ events) = requests_in events
requests_in (Handle request ∷ events) = request ∷ requests_in events
requests_in (Finish ∷ events) = requests_in events

-- One run of the model from a new core answers these requests, in order, with these replies. Its last event is the end of the
-- input.
pub record RunsThrough (sizes : Sizes) (requests : List Request) (replies : List Reply) : Type 0 where
  pub before : List Event
  pub last : CoreState
  pub run : Run (new_core sizes) (before ++ Finish ∷ []) replies last
  pub asked : requests_in before ≡ requests

-- The core of this number did one run of the model from a new core. Its requests are a beginning of these, and these answers
-- are a beginning of its replies.
pub record RunsPart (number : ℕ) (sizes : Sizes) (requests : List Request) (said : List Answer) : Type 0 where
  pub events : List Event
  pub replies : List Reply
  pub last : CoreState
  pub run : Run (new_core sizes) events replies last
  pub unasked : List Request
  pub asked : requests ≡ requests_in events ++ unasked
  pub unsaid : List Answer
  pub answered : by_core number replies ≡ said ++ unsaid

-- The answers of each core, from core k on, are the replies of one run. The requests of the run are those of the core's keys.
abbrev pub EachRuns : ℕ → ℕ → Sizes → List (Option Request) → List (List Answer) → Type 0
EachRuns k cores sizes asked [] = k ≡ cores
EachRuns k cores sizes asked (answers ∷ others) =
    ((replies : List Reply) × RunsThrough sizes (routed k cores asked) replies × (answers ≡ by_core k replies)) × EachRuns (k + 1) cores sizes asked others

-- The output has one line for each answer. The answers interleave the refusals of the lines that ask nothing and the replies of
-- the cores. Each core's replies are those of one run of its model from a new core. The requests of that run are exactly those
-- of the lines whose key has that core, in order, each with its line's number.
pub record ServesAll (cores : ℕ) (sizes : Sizes) (input output : List ℕ) : Type 0 where
  pub asked : List (Option Request)
  pub asks : Ask 1 (lines input) asked
  pub each : List (List Answer)
  pub runs : EachRuns 0 cores sizes asked each
  pub answers : List Answer
  pub interleave : Interleaves (refusals_of (refused 1 asked) ∷ each) answers
  pub written : output ≡ answer_lines answers

-- The input is all that the source had left, and was read. The output that serves it was written to the sink.
abbrev pub HasServed : ℕ → Sizes → Option (List ℕ) → Option (List ℕ) → Option (List ℕ) → Option (List ℕ) → Type 0
HasServed cores sizes left rest before after = (input : List ℕ) × (output : List ℕ) × HasReadAll left input rest × HasWritten before after output × ServesAll cores sizes input output

-- A read failed. All lines that were read whole were answered, and the output that serves them was written.
abbrev pub HasServedLines : ℕ → Sizes → Option (List ℕ) → Option (List ℕ) → Option (List ℕ) → Option (List ℕ) → Type 0
HasServedLines cores sizes left rest before after =
    (input : List ℕ) × (begun : List ℕ) × (output : List ℕ) × HasRead left (input ++ begun) rest × EndsLines input × HasNoFeed begun × HasWritten before after output × ServesAll cores sizes input output

-- The answers of each core, from core k on, are a beginning of the replies of one run. The requests of the run are a beginning
-- of those of the core's keys. A core that was not started answered nothing.
abbrev pub EachRunsPart : ℕ → ℕ → Sizes → List (Option Request) → List (List Answer) → Type 0
EachRunsPart k cores sizes asked [] = k ≤ cores
EachRunsPart k cores sizes asked (answers ∷ others) = RunsPart k sizes (routed k cores asked) answers × EachRunsPart (k + 1) cores sizes asked others

-- These bytes of the input were taken: all of it, or whole lines at its beginning, after which more bytes may have been read.
abbrev pub HasTakenLines : Option (List ℕ) → List ℕ → Option (List ℕ) → Type 0
HasTakenLines left input rest = HasReadAll left input rest ⊎ ((begun : List ℕ) × HasRead left (input ++ begun) rest × EndsLines input)

-- The answers interleave a beginning of the refusals of the lines that ask nothing and beginnings of the replies of the cores.
-- Each core's replies are those of one run of its model from a new core. The requests of that run are a beginning of those of
-- the lines whose key has that core, in order, each with its line's number.
pub record ServesPart (cores : ℕ) (sizes : Sizes) (input : List ℕ) (answers : List Answer) : Type 0 where
  pub asked : List (Option Request)
  pub asks : Ask 1 (lines input) asked
  pub refusals : List Answer
  pub unsaid : List Answer
  pub refuses : refusals_of (refused 1 asked) ≡ refusals ++ unsaid
  pub each : List (List Answer)
  pub runs : EachRunsPart 0 cores sizes asked each
  pub interleave : Interleaves (refusals ∷ each) answers

-- Lines were taken, and of the lines of answers that serve them in part a beginning was written: all lines but the last are
-- whole.
abbrev pub HasServedPart : ℕ → Sizes → Option (List ℕ) → Option (List ℕ) → Option (List ℕ) → Option (List ℕ) → Type 0
HasServedPart cores sizes left rest before after =
    (input : List ℕ) × (answers : List Answer) × HasTakenLines left input rest × HasWrittenPrefix before after (answer_lines answers) × ServesPart cores sizes input answers

-- The input is all that the source had left, if the source exposes it.
abbrev pub IsInput : Option (List ℕ) → List ℕ → Type 0
IsInput None input = Unit {0}
IsInput (Some left) input = input ≡ left

-- What was written is a beginning of an output that serves all of the input, whether or not all of it was read.
abbrev pub HasBegunOutput : ℕ → Sizes → Option (List ℕ) → Option (List ℕ) → Option (List ℕ) → Type 0
HasBegunOutput cores sizes left before after = (input : List ℕ) × (output : List ℕ) × IsInput left input × HasWrittenPrefix before after output × ServesAll cores sizes input output

-- What the status of a server says of the faults of its source and of its sink, before and now. With 0 no read and no write
-- failed. With 4 a read failed, and with 5 a write. With 6 memory ran out. With 7 a thread could not be made, and nothing was
-- read. If it is not 5, no write failed.
abbrev pub SaysWhich : ℕ → ℕ → ℕ → ℕ → ℕ → Type 0
SaysWhich status reads reads_now writes writes_now =
    ((status ≡ 0) × (reads_now ≡ reads) × (writes_now ≡ writes))
    ⊎ ((status ≡ 4) × HasRisen reads reads_now × (writes_now ≡ writes))
    ⊎ ((status ≡ 5) × HasRisen writes writes_now)
    ⊎ ((status ≡ 6) × (writes_now ≡ writes))
    ⊎ ((status ≡ 7) × (reads_now ≡ reads) × (writes_now ≡ writes))

-- Each line of the input is answered exactly once, by its number, and nothing else is answered.
abbrev pub AnswersEachLineOnce : Type 0
AnswersEachLineOnce = (cores : ℕ) (sizes : Sizes) (input output : List ℕ) → 0 < cores → (s : ServesAll cores sizes input output) → (i : ℕ)
    → (0 < i → i ≤ length (lines input) → times (map number_of s.answers) i ≡ 1) × (i ≡ 0 → times (map number_of s.answers) i ≡ 0) × (length (lines input) < i → times (map number_of s.answers) i ≡ 0)

-- At any moments of the runs of two cores, sessions of one core alone hold the lock of a key.
abbrev pub OneCoreHolds : Type 0
OneCoreHolds = (cores i j : ℕ) (sizes : Sizes) (asked : List (Option Request)) (events more others further : List Event) (replies other_replies : List Reply) (one other : CoreState) (key s t : ℕ)
    → requests_in (events ++ more) ≡ routed i cores asked → requests_in (others ++ further) ≡ routed j cores asked → Run (new_core sizes) events replies one → Run (new_core sizes) others other_replies other
    → owner_answer one.keeper key ≡ Some s → owner_answer other.keeper key ≡ Some t → i ≡ j
