-- Chains of queues: for each queue its ends, and for each member of a queue its neighbours.
use Rattle.std.specs.Prelude.{◌≡◌, ℕ, if◌then◌else◌, ◌==◌, List, [], ◌∷◌, ◌++◌, Option, None, nat_eq, cond}
use Rattle.mono_session.specs.Links.{IsOnce, ends_of, place_in, left_by, linked_after, linked_before, closed_ends}
use Rattle.mono_session.specs.declared.places.Ends.{Ends}
use Rattle.mono_session.specs.declared.places.Place.{Place}

pub record Chains : Type 0 where
  pub ends : ℕ → Option Ends
  pub places : ℕ → ℕ → Option Place

abbrev pub ends_at : Chains → ℕ → Option Ends
ends_at chains q = chains.ends q

abbrev pub place_at : Chains → ℕ → ℕ → Option Place
place_at chains q m = chains.places q m

-- The ends and the neighbours are those of these lists, in which each member occurs once.
pub record Keeps (chains : Chains) (lists : ℕ → List ℕ) : Type 0 where
  pub ends : (q : ℕ) → ends_at chains q ≡ ends_of (lists q)
  pub places : (q m : ℕ) → place_at chains q m ≡ place_in None (lists q) m
  pub once : (q : ℕ) → IsOnce (lists q)

-- A queue after a member was appended.
abbrev pub with_last : (ℕ → List ℕ) → ℕ → ℕ → ℕ → List ℕ
with_last lists queue member q = if queue == q then lists q ++ member ∷ [] else lists q

-- A queue after a member left it.
abbrev pub without_member : (ℕ → List ℕ) → ℕ → ℕ → ℕ → List ℕ
without_member lists queue member q = if queue == q then left_by member (lists q) else lists q

-- In one queue the neighbours at a place are joined to each other.
pub record Closed (old new : Chains) (queue : ℕ) (place : Place) : Type 0 where
  pub ends : (q : ℕ) → ends_at new q ≡ cond (nat_eq queue q) (closed_ends place.before place.after (ends_at old q)) (ends_at old q)
  pub places : (q m : ℕ) → place_at new q m ≡ cond (nat_eq queue q) (linked_before place.after m place.before (linked_after place.before m place.after (place_at old q m))) (place_at old q m)

-- All ends and neighbours are the same.
pub record Alike (old new : Chains) : Type 0 where
  pub ends : (q : ℕ) → ends_at new q ≡ ends_at old q
  pub places : (q m : ℕ) → place_at new q m ≡ place_at old q m
