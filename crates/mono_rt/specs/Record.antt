-- The acts of the turn that runs, with their replies, and whether memory keeps all of them.
use Rattle.std.specs.Prelude.{◌≡◌, ◌≤◌, ℕ, Bool, true, false, ◌||◌, nat_le, List, [], ◌∷◌, ◌++◌, length}
use Rattle.mono_machine.specs.declared.events.TurnStep.{TurnStep}
use Rattle.mono_machine.specs.declared.events.Reply.{Reply}

-- All acts of the turn. If the record is full, memory does not keep them.
pub record Record : Type 0 where
  pub steps : List TurnStep
  pub replies : List Reply
  pub is_full : Bool

-- The record without acts. If the record is not read, it is full from the start.
abbrev pub no_acts : Bool → Record
no_acts is_unread = record { steps = []; replies = []; is_full = is_unread }

-- how many acts of a turn memory keeps
abbrev pub room : ℕ
room = 512

-- The record with one more act. If there is no room for it, the record is full from then on.
abbrev pub noted : Record → TurnStep → Reply → Record
noted acts step reply = record { steps = acts.steps ++ step ∷ []; replies = acts.replies ++ reply ∷ []; is_full = acts.is_full || nat_le room (length acts.steps) }

-- While the record is not full, memory keeps all acts and their replies.
abbrev pub KeepsActs : Bool → List TurnStep → List Reply → List TurnStep → List Reply → Type 0
KeepsActs is_full steps replies done replied = is_full ≡ false → (steps ≡ done) × (replies ≡ replied)

-- There is room for this number of acts, unless the record is full.
abbrev pub HasRoom : Bool → List TurnStep → List Reply → ℕ → ℕ → Type 0
HasRoom true steps replies a b = Unit {0}
HasRoom false steps replies a b = (length replies ≡ length steps) × (room ≤ a) × (room ≤ b)
