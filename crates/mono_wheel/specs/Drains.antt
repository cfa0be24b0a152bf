-- The removal of the chosen nodes from a list, step by step and as a whole.
use Rattle.std.specs.Prelude.{◌≡◌, ◌<◌, ◌⊎◌, ℕ, Bool, true, false, ◌==◌, if◌then◌else◌, List, [], ◌∷◌, ◌++◌, length, Option, Some, None, MatchOption}
use Rattle.std.specs.Option.{ForSome}
use Rattle.std.specs.List.{FoldsTo}
use Rattle.std.specs.Iterator.{Yields, YieldsThen}
use base.Fml.{GName}
use Rattle.mono_wheel.specs.Lists.{Lists, list_at, with_list, IsIn}
use Rattle.mono_wheel.specs.Rings.{Distinct}
use Rattle.mono_wheel.specs.declared.drain_filter.DrainFilter.{DrainFilter}

-- The nodes of a list from this one on, and those before it.
abbrev pub from_node : ℕ → List ℕ → List ℕ
from_node node [] = []
from_node node (first ∷ rest) = if node == first then first ∷ rest else from_node node rest

abbrev pub until_node : ℕ → List ℕ → List ℕ
until_node node [] = []
until_node node (first ∷ rest) = if node == first then [] else first ∷ until_node node rest

-- The same, if no node is named at the end of the list.
abbrev pub from_place : Option ℕ → List ℕ → List ℕ
from_place None nodes = []
from_place (Some node) nodes = from_node node nodes

abbrev pub until_place : Option ℕ → List ℕ → List ℕ
until_place None nodes = nodes
until_place (Some node) nodes = until_node node nodes

module _ {F : Type 0} where
  -- The list under the iterator.
  abbrev pub whole_of : DrainFilter F → List ℕ
  whole_of s = list_at s.links.now s.list

  -- The nodes that are still to be asked, and those that were spared.
  abbrev pub left_of : DrainFilter F → List ℕ
  left_of s = from_place s.at (whole_of s)

  abbrev pub spared_of : DrainFilter F → List ℕ
  spared_of s = until_place s.at (whole_of s)

  -- The closure, the table of lists, and the ghost name of the reference to it.
  abbrev pub closure_of : DrainFilter F → F
  closure_of s = s.choose

  abbrev pub links_of : DrainFilter F → Lists
  links_of s = s.links.now

  abbrev pub lender_of : DrainFilter F → GName
  lender_of s = s.links.ghost_name

  -- The list exists, and the place is in it.
  pub record CanStep (s : DrainFilter F) : Type 0 where
    pub exists : s.list < length s.links.now.lists
    pub place : ForSome s.at (λ node. IsIn node (whole_of s))
    pub distinct : Distinct (whole_of s)

  -- The list and its table stay the same.
  pub record Stays (s t : DrainFilter F) : Type 0 where
    pub list : t.list ≡ s.list
    pub reference : t.links.ghost_name ≡ s.links.ghost_name

  module _ (asks : F → ℕ → Bool → F → Type 0) where
    -- One call asks the closure about the remaining nodes, in order, up to the first for which it answers true. That
    -- node is returned and leaves its list, and those before it are spared.
    abbrev pub DrainSteps : DrainFilter F → Option ℕ → DrainFilter F → Type 0
    DrainSteps s r t =
        (passed : List ℕ) × (last : F) × FoldsTo (λ f node g. asks f node false g) s.choose passed last
        × (spared_of t ≡ spared_of s ++ passed) × Stays s t
        × MatchOption r
        ((last ≡ t.choose) × (left_of s ≡ passed) × (left_of t ≡ []) × (t.links.now ≡ s.links.now))
        (λ node. asks last node true t.choose × (left_of s ≡ passed ++ node ∷ left_of t) × (t.links.now ≡ with_list s.links.now s.list (spared_of t ++ left_of t)))

    -- The closure was asked once about each of these nodes, in this order, and is then `g`. It answered true for the
    -- chosen nodes, and false for the spared ones.
    abbrev pub Sifts : F → List ℕ → List ℕ → List ℕ → F → Type 0
    Sifts f [] chosen spared g = (f ≡ g) × (chosen ≡ []) × (spared ≡ [])
    Sifts f (node ∷ rest) chosen spared g =
        ((h : F) × (more : List ℕ) × asks f node true h × (chosen ≡ node ∷ more) × Sifts h rest more spared g)
        ⊎ ((h : F) × (more : List ℕ) × asks f node false h × (spared ≡ node ∷ more) × Sifts h rest chosen more g)

    -- The state after calls that returned these nodes. The closure was asked about the first part of the list, and that
    -- part now has the spared nodes alone.
    pub record Drained (old : Lists) (list : ℕ) (choose : F) (given : List ℕ) (t : DrainFilter F) : Type 0 where
      pub asked : List ℕ
      pub spared : List ℕ
      pub whole : list_at old list ≡ asked ++ left_of t
      pub sifted : Sifts choose asked given spared t.choose
      pub links : t.links.now ≡ with_list old list (spared ++ left_of t)

    -- This holds wherever calls lead. Once a call returned None, no node is left to be asked about.
    pub record Drains (old : Lists) (list : ℕ) (choose : F) (s : DrainFilter F) : Type 0 where
      pub so_far : (given : List ℕ) (t : DrainFilter F) → Yields DrainSteps s given t → Drained old list choose given t × (lender_of t ≡ lender_of s)
      pub whole : (given : List ℕ) (t : DrainFilter F) → YieldsThen DrainSteps s given None t → Drained old list choose given t × (lender_of t ≡ lender_of s) × (left_of t ≡ [])
