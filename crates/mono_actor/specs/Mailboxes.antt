-- The view of linked messages in one store as the mailboxes of all actors.
use Rattle.std.specs.Prelude.{◌≡◌, ◌≢◌, zero, suc, ℕ, ◌+◌, ◌-◌, ◌<◌, true, ◌==◌, if◌then◌else◌, List, [], ◌∷◌, ◌++◌, map, sum_by, Option, Some, None, is_some, slice_index_or}
use Rattle.std.specs.Option.{option_map}
use Rattle.mono_model.specs.Table.{value_at}
use Rattle.mono_wheel.specs.Lists.{IsIn}
use Rattle.mono_wheel.specs.Rings.{Distinct}
use Rattle.mono_actor.specs.Places.{Place}
use Rattle.mono_actor.specs.declared.mailboxes.Letter.{Letter}
use Rattle.mono_actor.specs.declared.mailboxes.Link.{Link}
use Rattle.mono_actor.specs.declared.mailboxes.Mailbox.{Mailbox}
use Rattle.mono_actor.specs.declared.places.Entry.{Entry}

-- The given number of keys, each the one after the key before.
abbrev pub keys_from : (ℕ → ℕ) → ℕ → ℕ → List ℕ
keys_from next zero first = []
keys_from next (suc count) first = first ∷ keys_from next count (next first)

-- It is the last of them, if there are any.
abbrev pub EndsAt : ℕ → List ℕ → Type 0
EndsAt last [] = Unit {0}
EndsAt last (key ∷ []) = last ≡ key
EndsAt last (key ∷ other ∷ rest) = EndsAt last (other ∷ rest)

-- The number of messages in the mailbox of an actor.
abbrev pub count_in : Option Entry → ℕ
count_in None = 0
count_in (Some entry) = entry.mailbox.count

module _ {M : Type 0} where
  abbrev pub slot_at : List (Option (Link M)) → ℕ → Option (Link M)
  slot_at slots key = slice_index_or slots key None

  abbrev pub next_of : Option (Link M) → ℕ
  next_of None = 0
  next_of (Some link) = link.next

  abbrev pub next_in : List (Option (Link M)) → ℕ → ℕ
  next_in slots key = next_of (slot_at slots key)

  abbrev pub letter_of : Option (Link M) → List (Letter M)
  letter_of None = []
  letter_of (Some link) = link.letter ∷ []

  -- The messages at these keys.
  abbrev pub letters_at : List (Option (Link M)) → List ℕ → List (Letter M)
  letters_at slots [] = []
  letters_at slots (key ∷ keys) = letter_of (slot_at slots key) ++ letters_at slots keys

  -- The keys of the messages of a mailbox, the oldest first.
  abbrev pub keys_of : List (Option (Link M)) → Mailbox → List ℕ
  keys_of slots mailbox = keys_from (next_in slots) mailbox.count mailbox.first

  abbrev pub keys_in : List (Option (Link M)) → Option Entry → List ℕ
  keys_in slots None = []
  keys_in slots (Some entry) = keys_of slots entry.mailbox

  -- The place of an actor, given by its entry.
  abbrev pub place_of : List (Option (Link M)) → Entry → Place M
  place_of slots entry = record { mode = entry.mode; mailbox = letters_at slots (keys_of slots entry.mailbox); timeout = entry.timeout; timer = entry.timer }

  abbrev pub places_in : List (Option (Link M)) → List (Option Entry) → List (Option (Place M))
  places_in slots entries = map (option_map (place_of slots)) entries

  -- An actor's last key is the key that its entry names.
  abbrev pub EndsIn : List (Option (Link M)) → Option Entry → Type 0
  EndsIn slots None = Unit {0}
  EndsIn slots (Some entry) = EndsAt entry.mailbox.last (keys_of slots entry.mailbox)

  -- Each message of a mailbox is in the store, no two mailboxes share one, and the store has no other.
  pub record Sound (slots : List (Option (Link M))) (count : ℕ) (entries : List (Option Entry)) : Type 0 where
    pub known : (a key : ℕ) → IsIn key (keys_in slots (value_at entries a)) → is_some (slot_at slots key) ≡ true
    pub distinct : (a : ℕ) → Distinct (keys_in slots (value_at entries a))
    pub apart : (a b key : ℕ) → IsIn key (keys_in slots (value_at entries a)) → IsIn key (keys_in slots (value_at entries b)) → a ≡ b
    pub ends : (a : ℕ) → EndsIn slots (value_at entries a)
    pub counted : count ≡ sum_by count_in entries

  -- The message is in the store, at a key that was free, and follows the last of this mailbox.
  pub record IsPut (letter : Letter M) (old new : List (Option (Link M))) (before after : Mailbox) : Type 0 where
    pub key : ℕ
    pub fresh : slot_at old key ≡ None
    pub here : letter_of (slot_at new key) ≡ letter ∷ []
    pub letters : (other : ℕ) → other ≢ key → letter_of (slot_at new other) ≡ letter_of (slot_at old other)
    pub linked : 0 < before.count → next_in new before.last ≡ key
    pub nexts : (other : ℕ) → other ≢ key → (0 < before.count → other ≢ before.last) → next_in new other ≡ next_in old other
    pub is : after ≡ record { first = if before.count == 0 then key else before.first; last = key; count = before.count + 1 }

  -- The first message of this mailbox is no longer in the store.
  pub record IsTaken (letter : Letter M) (old new : List (Option (Link M))) (before after : Mailbox) : Type 0 where
    pub next : ℕ
    pub some : 0 < before.count
    pub was : slot_at old before.first ≡ Some (record { letter = letter; next = next })
    pub others : (other : ℕ) → other ≢ before.first → slot_at new other ≡ slot_at old other
    pub is : after ≡ record { first = next; last = before.last; count = before.count - 1 }
