-- The content of the store has at most one proof, so it may be a ghost field.
use mathlib.Core.HLevel.{Unit-prop, ×_prop}
use Rattle.std.specs.Prelude.{ℕ, List, [], ◌∷◌, Some, None, Option}
use Rattle.std.proofs.Props.{props}
use Rattle.mono_wheel.specs.Rings.{Distinct}
use Rattle.mono_actor.specs.Mailboxes.{EndsAt, EndsIn, keys_of}
use Rattle.mono_actor.specs.declared.mailboxes.Link.{Link}
use Rattle.mono_actor.specs.declared.places.Entry.{Entry}

pub Distinct-prop : (keys : List ℕ) → IsProp (Distinct keys)
Distinct-prop [] = Unit-prop
Distinct-prop (key ∷ keys) = ×_prop (Prim.hlevel props) (Distinct-prop keys)

pub EndsAt-prop : (last : ℕ) (keys : List ℕ) → IsProp (EndsAt last keys)
EndsAt-prop last [] = Unit-prop
EndsAt-prop last (key ∷ []) = Prim.hlevel props
EndsAt-prop last (key ∷ other ∷ keys) = EndsAt-prop last (other ∷ keys)

pub EndsIn-prop : {M : Type 0} (slots : List (Option (Link M))) (entry : Option Entry) → IsProp (EndsIn slots entry)
EndsIn-prop slots None = Unit-prop
EndsIn-prop slots (Some entry) = EndsAt-prop entry.mailbox.last (keys_of slots entry.mailbox)

pub ruleset found = (Distinct-prop, EndsIn-prop, props)
