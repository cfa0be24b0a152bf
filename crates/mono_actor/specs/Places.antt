-- The view of an actor given by its place, and the effect of each call on it.
use Rattle.std.specs.Prelude.{◌≡◌, ℕ, Bool, ◌==◌, if◌then◌else◌, List, [], ◌∷◌, length, map, Option, Some, None, slice_set}
use Rattle.std.specs.Option.{option_map}
use Rattle.mono_model.specs.Table.{Table, value_at}
use Rattle.mono_actor.specs.Actors.{Mode, idle, queued, running, Actor, in_mode, is_idle, mode_with, wait_from, with_letter, rest_of}
use Rattle.mono_actor.specs.declared.answers.Got.{Got}
use Rattle.mono_actor.specs.declared.answers.Got.TheVariants as got
use Rattle.mono_actor.specs.declared.mailboxes.Letter.{Letter}
use Rattle.mono_actor.specs.declared.places.Mode as declared
use Rattle.mono_actor.specs.declared.places.Mode.TheVariants as place
use Rattle.mono_actor.specs.declared.places.Receipt.{Receipt}
use Rattle.mono_actor.specs.declared.places.Receipt.TheVariants as receipt
use Rattle.mono_actor.specs.declared.places.Timing.{Timing}
use Rattle.mono_actor.specs.declared.places.Timing.TheVariants as timing
use Rattle.mono_actor.specs.declared.places.Rest.{Rest}
use Rattle.mono_actor.specs.declared.places.Rest.TheVariants as rest

abbrev pub mode_of : declared.Mode → Mode
mode_of (place.Idle waits_for) = idle waits_for
mode_of place.Queued = queued
mode_of place.Running = running

-- The work after a message, by the receiver's mode and key.
abbrev pub receipt_in : ℕ → declared.Mode → Receipt
receipt_in timer (place.Idle waits_for) = receipt.Queues timer waits_for
receipt_in timer place.Queued = receipt.Waits
receipt_in timer place.Running = receipt.Waits

-- The work after a new timeout.
abbrev pub timing_in : ℕ → ℕ → ℕ → declared.Mode → Timing
timing_in now timeout timer (place.Idle waits_for) = timing.Rearms timer waits_for (wait_from now timeout)
timing_in now timeout timer place.Queued = timing.Keeps
timing_in now timeout timer place.Running = timing.Keeps

-- The work after a turn, if the mailbox is empty, and if it is not.
abbrev pub rest_in : ℕ → ℕ → ℕ → Bool → Rest
rest_in now timer timeout empty = if empty then rest.Waits timer (wait_from now timeout) else rest.Again

-- An actor has its mailbox, the oldest message first, and the key of its receive timeout.
pub record Place (M : Type 0) : Type 0 where
  pub mode : declared.Mode
  pub mailbox : List (Letter M)
  pub timeout : ℕ
  pub timer : ℕ

module _ {M : Type 0} where
  abbrev pub actor_of : Place M → Actor M
  actor_of place = record { mode = mode_of place.mode; mailbox = place.mailbox; timeout = place.timeout }

  abbrev pub table_of : List (Option (Place M)) → Table (Actor M)
  table_of places = map (option_map actor_of) places

  -- The actor at a number is changed, and still has its key.
  pub record Becomes (change : Actor M → Actor M) (old new : Option (Place M)) : Type 0 where
    pub before : Place M
    pub after : Place M
    pub was : old ≡ Some before
    pub is : new ≡ Some after
    pub timer : after.timer ≡ before.timer
    pub actor : actor_of after ≡ change (actor_of before)

  -- The actor a is changed, still has its key, and all others stay.
  pub record Changes (change : Actor M → Actor M) (a : ℕ) (old new : List (Option (Place M))) : Type 0 where
    pub place : Option (Place M)
    pub becomes : Becomes change (value_at old a) place
    pub is : new ≡ slice_set old a place

  abbrev pub receipt_of : Place M → Receipt
  receipt_of place = receipt_in place.timer place.mode

  abbrev pub timing_of : ℕ → ℕ → Place M → Timing
  timing_of now timeout place = timing_in now timeout place.timer place.mode

  -- The work after a turn.
  abbrev pub rest_of_turn : ℕ → Place M → Rest
  rest_of_turn now place = rest_in now place.timer place.timeout (length place.mailbox == 0)

  -- The oldest message, and an actor without it.
  abbrev pub first_of : List (Letter M) → Option (Letter M)
  first_of [] = None
  first_of (letter ∷ mailbox) = Some letter

  abbrev pub unread : Actor M → Actor M
  unread actor = record { mode = actor.mode; mailbox = rest_of actor.mailbox; timeout = actor.timeout }

  -- The number of messages that a turn takes at its start.
  abbrev pub taken_by : Got M → ℕ
  taken_by (got.Message sender message) = 1
  taken_by got.Timeout = 0

  -- An actor after one more message: an idle one is queued.
  abbrev pub delivered : Letter M → Actor M → Actor M
  delivered letter actor = if is_idle actor.mode then in_mode (with_letter actor letter.sender letter.message) queued else with_letter actor letter.sender letter.message

  abbrev pub timed_actor : ℕ → ℕ → Actor M → Actor M
  timed_actor now timeout actor = record { mode = mode_with now timeout actor.mode; mailbox = actor.mailbox; timeout = timeout }

  abbrev pub begun_actor : Actor M → Actor M
  begun_actor actor = record { mode = running; mailbox = rest_of actor.mailbox; timeout = actor.timeout }

  -- An actor after its turn: it is queued again if it has messages, and otherwise idle.
  abbrev pub rested : ℕ → Actor M → Actor M
  rested now actor = if length actor.mailbox == 0 then in_mode actor (idle (wait_from now actor.timeout)) else in_mode actor queued
