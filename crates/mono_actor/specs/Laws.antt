-- The messages and timeouts that an actor got, and the messages that were sent to it.
use Rattle.std.specs.Prelude.{◌≡◌, ◌<◌, ◌≤◌, ℕ, Bool, true, false, ◌==◌, if◌then◌else◌, List, [], ◌∷◌, ◌++◌, filter, Some, IfSome, Contains}
use Rattle.mono_model.specs.Inbox.{is_waiting}
use Rattle.mono_actor.specs.Actors.{Actors, no_actors}
use Rattle.mono_actor.specs.declared.mailboxes.Letter.{Letter}
use Rattle.mono_actor.specs.Calls.{Call}
use Rattle.mono_actor.specs.Calls as call
use Rattle.mono_actor.specs.Answers.{Answer}
use Rattle.mono_actor.specs.Answers as answer
use Rattle.mono_actor.specs.Steps.{waiting_at, Step, Run}
use Rattle.mono_actor.specs.declared.answers.Got.{Got}
use Rattle.mono_actor.specs.declared.answers.Got.TheVariants as got

module _ {M : Type 0} where
  -- The messages sent to an actor, in order: by one call, and by several.
  abbrev pub sent_by : ℕ → Call M → Answer M → List (Letter M)
  sent_by a (call.Send from to message) (answer.Posted what) = if to == a then record { sender = from; message = message } ∷ [] else []
  sent_by a c told = []

  abbrev pub sent_to : ℕ → List (Call M) → List (Answer M) → List (Letter M)
  sent_to a [] answers = []
  sent_to a (c ∷ calls) [] = []
  sent_to a (c ∷ calls) (told ∷ answers) = sent_by a c told ++ sent_to a calls answers

  -- The messages that an actor got, in order.
  abbrev pub letters_in : Got M → List (Letter M)
  letters_in (got.Message from message) = record { sender = from; message = message } ∷ []
  letters_in got.Timeout = []

  abbrev pub got_by_one : ℕ → Answer M → List (Letter M)
  got_by_one a (answer.Turn me what) = if me == a then letters_in what else []
  got_by_one a told = []

  abbrev pub got_by : ℕ → List (Answer M) → List (Letter M)
  got_by a [] = []
  got_by a (told ∷ answers) = got_by_one a told ++ got_by a answers

  abbrev pub IsPrefix : List (Letter M) → List (Letter M) → Type 0
  IsPrefix front whole = (rest : List (Letter M)) × (whole ≡ front ++ rest)

  -- The messages of one sender alone.
  abbrev pub of_sender : ℕ → List (Letter M) → List (Letter M)
  of_sender from letters = filter (λ letter. letter.sender == from) letters

  -- Whether a clock step listed the actor since its last turn.
  abbrev pub due_after : ℕ → Bool → Answer M → Bool
  due_after a was (answer.Turn me what) = if me == a then false else was
  due_after a was (answer.Due due) = if is_waiting due a then true else was
  due_after a was told = was

  abbrev pub was_due : ℕ → Bool → List (Answer M) → Bool
  was_due a was [] = was
  was_due a was (told ∷ answers) = was_due a (due_after a was told) answers

  -- The actor had no turn.
  abbrev pub has_no_turn_in : ℕ → Bool → Answer M → Bool
  has_no_turn_in a rest (answer.Turn me what) = if me == a then false else rest
  has_no_turn_in a rest told = rest

  abbrev pub has_no_turn : ℕ → List (Answer M) → Bool
  has_no_turn a [] = true
  has_no_turn a (told ∷ answers) = has_no_turn_in a (has_no_turn a answers) told

  -- A clock step reached a tick for which the actor waited, and listed it, and the actor had no turn since.
  pub record HasRung (old : Actors M) (calls : List (Call M)) (answers : List (Answer M)) (new : Actors M) (a : ℕ) : Type 0 where
    pub calls_before : List (Call M)
    pub answers_before : List (Answer M)
    pub nanos : ℕ
    pub due : List ℕ
    pub calls_after : List (Call M)
    pub answers_after : List (Answer M)
    pub before : Actors M
    pub after : Actors M
    pub tick : ℕ
    pub calls_are : calls ≡ calls_before ++ call.Clock nanos ∷ calls_after
    pub answers_are : answers ≡ answers_before ++ answer.Due due ∷ answers_after
    pub run_before : Run old calls_before answers_before before
    pub step : Step before (call.Clock nanos) (answer.Due due) after
    pub run_after : Run after calls_after answers_after new
    pub waited : waiting_at before a ≡ Some tick
    pub come : tick ≤ after.greatest
    pub listed : Contains due a
    pub no_turn : has_no_turn a answers_after ≡ true

  -- No message waits for an actor, by the calls and answers: it got all that was sent to it.
  abbrev pub IsEmptyFor : ℕ → List (Call M) → List (Answer M) → Type 0
  IsEmptyFor a calls answers = sent_to a calls answers ≡ got_by a answers

-- The messages that an actor got are a prefix of those that were sent to it, and so for each sender alone.
abbrev pub GotInOrder : Type 0 → Type 0
GotInOrder M = (calls : List (Call M)) (answers : List (Answer M)) (most_actors most_messages : ℕ) (new : Actors M) (a : ℕ) →
    Run (no_actors most_actors most_messages) calls answers new → IsPrefix (got_by a answers) (sent_to a calls answers)

abbrev pub GotInOrderOfEach : Type 0 → Type 0
GotInOrderOfEach M = (calls : List (Call M)) (answers : List (Answer M)) (most_actors most_messages : ℕ) (new : Actors M) (a from : ℕ) →
    Run (no_actors most_actors most_messages) calls answers new → IsPrefix (of_sender from (got_by a answers)) (of_sender from (sent_to a calls answers))

-- A timeout comes only if the actor got all messages that were sent to it, and a clock step has listed the actor since
-- its last turn. A clock step lists actors that wait for a tick that has come.
abbrev pub TimeoutsAreDue : Type 0 → Type 0
TimeoutsAreDue M = (calls : List (Call M)) (answers : List (Answer M)) (most_actors most_messages : ℕ) (old new : Actors M) (a : ℕ) →
    Run (no_actors most_actors most_messages) calls answers old → Step old call.Begin (answer.Turn a got.Timeout) new → IsEmptyFor a calls answers × (was_due a false answers ≡ true)

-- A timeout comes only if a clock step reached a tick for which the actor waited, and the actor had no turn since that
-- step.
abbrev pub TimeoutsHaveCome : Type 0 → Type 0
TimeoutsHaveCome M = (calls : List (Call M)) (answers : List (Answer M)) (most_actors most_messages : ℕ) (old new : Actors M) (a : ℕ) →
    Run (no_actors most_actors most_messages) calls answers old → Step old call.Begin (answer.Turn a got.Timeout) new → HasRung (no_actors most_actors most_messages) calls answers old a

-- Between any two calls no actor waits for a tick that has come. So it is listed in the first clock step that reaches
-- it.
abbrev pub NoneIsEverLate : Type 0 → Type 0
NoneIsEverLate M = (calls : List (Call M)) (answers : List (Answer M)) (most_actors most_messages : ℕ) (new : Actors M) (a : ℕ) →
    Run (no_actors most_actors most_messages) calls answers new → IfSome (waiting_at new a) (λ tick. new.greatest < tick)
