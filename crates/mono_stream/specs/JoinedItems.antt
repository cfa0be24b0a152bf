-- The items of streams that are made of the items of two streams, over consecutive polls.
use Rattle.std.specs.Prelude.{◌≡◌, ◌⊎◌, ◌||◌, ℕ, Bool, true, false, List, [], ◌∷◌, ◌++◌, map, Option, Some, None}
use Rattle.std.specs.List.{cons_option}
use Rattle.mono_model.specs.declared.poll.Poll.{Poll}
use Rattle.mono_stream.specs.Items.{Gives}
use Rattle.mono_stream.specs.declared.zips.Zip.{Zip}
use Rattle.mono_stream.specs.declared.appends.Chain.{Chain}
use Rattle.mono_stream.specs.declared.merges.Merge.{Merge}

module _ {A B C X Y : Type 0} (polls : A → C → Poll (Option X) → A → C → Type 0) (second_polls : B → C → Poll (Option Y) → B → C → Type 0) where
  -- Each item of the two streams is in a pair, in order, or is the one that is held. It has ended if and only if one of
  -- them has.
  pub record ZipsItems (old : Zip A B X Y) (pairs : List (X × Y)) (has_ended : Bool) (new : Zip A B X Y) : Type 0 where
    pub count : ℕ
    pub xs : List X
    pub first_ended : Bool
    pub first : Gives polls count old.first xs first_ended new.first
    pub second_count : ℕ
    pub ys : List Y
    pub second_ended : Bool
    pub second : Gives second_polls second_count old.second ys second_ended new.second
    pub firsts : cons_option old.first_item xs ≡ map (λ p. p.0) pairs ++ cons_option new.first_item []
    pub seconds : cons_option old.second_item ys ≡ map (λ p. p.1) pairs ++ cons_option new.second_item []
    pub ends : has_ended ≡ (first_ended || second_ended)

module _ {A B C X : Type 0} (polls : A → C → Poll (Option X) → A → C → Type 0) (second_polls : B → C → Poll (Option X) → B → C → Type 0) where
  -- Only the second stream gives items.
  pub record SecondsItems (second : B) (zs : List X) (has_ended : Bool) (new : Chain A B) : Type 0 where
    pub count : ℕ
    pub given : Gives second_polls count second zs has_ended new.second
    pub none : new.first ≡ None

  -- If the first has ended, the second one's items follow those of the first. If not, the second was not polled.
  abbrev pub AfterFirsts : Bool → A → B → List X → List X → Bool → Chain A B → Type 0
  AfterFirsts true left second xs zs has_ended new = (ys : List X) × (zs ≡ xs ++ ys) × SecondsItems second ys has_ended new
  AfterFirsts false left second xs zs has_ended new = (zs ≡ xs) × (has_ended ≡ false) × (new.first ≡ Some left) × (new.second ≡ second)

  pub record FirstsItems (first : A) (second : B) (zs : List X) (has_ended : Bool) (new : Chain A B) : Type 0 where
    pub count : ℕ
    pub items : List X
    pub ended : Bool
    pub left : A
    pub given : Gives polls count first items ended left
    pub rest : AfterFirsts ended left second items zs has_ended new

  abbrev pub ChainsItems : Option A → B → List X → Bool → Chain A B → Type 0
  ChainsItems (Some first) second zs has_ended new = FirstsItems first second zs has_ended new
  ChainsItems None second zs has_ended new = SecondsItems second zs has_ended new

-- Two lists, as one, each in its order.
abbrev pub Interleaves : {X : Type 0} → List X → List X → List X → Type 0
Interleaves {X} xs ys [] = (xs ≡ []) × (ys ≡ [])
Interleaves {X} xs ys (z ∷ zs) = ((rest : List X) × (xs ≡ z ∷ rest) × Interleaves rest ys zs) ⊎ ((rest : List X) × (ys ≡ z ∷ rest) × Interleaves xs rest zs)

-- The items of a stream that is given up once it has ended, and what is left of it.
module _ {S C X : Type 0} (polls : S → C → Poll (Option X) → S → C → Type 0) where
  abbrev pub LeftBy : Bool → S → Option S → Type 0
  LeftBy true left side = side ≡ None
  LeftBy false left side = side ≡ Some left

  pub record SideItems (s : S) (items : List X) (side : Option S) : Type 0 where
    pub count : ℕ
    pub ended : Bool
    pub left : S
    pub given : Gives polls count s items ended left
    pub rest : LeftBy ended left side

  abbrev pub SideGives : Option S → List X → Option S → Type 0
  SideGives (Some s) items side = SideItems s items side
  SideGives None items side = (items ≡ []) × (side ≡ None)

module _ {A B C X : Type 0} (polls : A → C → Poll (Option X) → A → C → Type 0) (second_polls : B → C → Poll (Option X) → B → C → Type 0) where
  -- Each item of the two streams is given, each stream's in order, and nothing else. It has ended only if both have.
  pub record MergesItems (old : Merge A B) (zs : List X) (has_ended : Bool) (new : Merge A B) : Type 0 where
    pub xs : List X
    pub ys : List X
    pub first : SideGives polls old.first xs new.first
    pub second : SideGives second_polls old.second ys new.second
    pub are : Interleaves xs ys zs
    pub ends : has_ended ≡ true → (new.first ≡ None) × (new.second ≡ None)
