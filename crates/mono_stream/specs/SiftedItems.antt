-- The items of streams that are made of the items of one other stream, over consecutive polls.
use Rattle.std.specs.Prelude.{◌≡◌, ◌⊎◌, ◌+◌, ◌==◌, ℕ, Bool, true, false, List, [], ◌∷◌, length, drop, Option, Some, None}
use Rattle.std.specs.List.{cons_option, prefix_len, take_while}
use Rattle.mono_model.specs.declared.poll.Poll.{Poll}
use Rattle.mono_stream.specs.Items.{Gives}
use Rattle.mono_stream.specs.declared.sifts.Sifted.{Sifted}

-- The sieve was called at each item, in order, and these are the values that it returned.
module _ {V X Y : Type 0} (done : V → Bool) (sifts : V → X → Option Y → V → Type 0) where
  abbrev pub AreSifted : V → List X → List Y → V → Type 0
  AreSifted v [] ys w = (ys ≡ []) × (w ≡ v)
  AreSifted v (x ∷ xs) ys w = (done v ≡ false) × (y : Option Y) × (u : V) × sifts v x y u × (zs : List Y) × (ys ≡ cons_option y zs) × AreSifted u xs zs w

-- A stream ends if the stream below has ended. It ends only then, or if it is done.
pub record EndsWith (below is_done has_ended : Bool) : Type 0 where
  pub if_below : below ≡ true → has_ended ≡ true
  pub only_so : has_ended ≡ true → (below ≡ true) ⊎ (is_done ≡ true)

module _ {S V C X Y : Type 0} (polls : S → C → Poll (Option X) → S → C → Type 0) (done : V → Bool) (sifts : V → X → Option Y → V → Type 0) where
  -- The stream below gave items, and these are the values that the sieve returned for them.
  pub record SiftsItems (s : S) (v : V) (ys : List Y) (has_ended : Bool) (new : Sifted S V) : Type 0 where
    pub count : ℕ
    pub items : List X
    pub below : Bool
    pub given : Gives polls count s items below new.stream
    pub sifted : AreSifted done sifts v items ys new.sieve
    pub ends : EndsWith below (done new.sieve) has_ended

module _ {S C X Y : Type 0} (polls : S → C → Poll (Option X) → S → C → Type 0) where
  -- The stream below gave items, of which these are the function's. It has ended if and only if this one has.
  pub record GivesBy (of : List X → List Y) (old : S) (ys : List Y) (has_ended : Bool) (new : S) : Type 0 where
    pub count : ℕ
    pub items : List X
    pub given : Gives polls count old items has_ended new
    pub is : ys ≡ of items

  -- The same, if the items meet a condition.
  pub record GivesIf (P : List X → Type 0) (of : List X → List Y) (old : S) (ys : List Y) (has_ended : Bool) (new : S) : Type 0 where
    pub count : ℕ
    pub items : List X
    pub given : Gives polls count old items has_ended new
    pub is : P items → ys ≡ of items

-- The items from the first on that does not pass the test.
abbrev pub skip_while : {X : Type 0} → (X → Bool) → List X → List X
skip_while test xs = drop (prefix_len test xs) xs

-- The items from the first on that does not pass the test, or all of them once it was found.
abbrev pub skip_unless : {X : Type 0} → Bool → (X → Bool) → List X → List X
skip_unless true test xs = xs
skip_unless false test xs = skip_while test xs

-- The first items, as many as remain. The stream below gives no item beyond them.
module _ {S C X : Type 0} (polls : S → C → Poll (Option X) → S → C → Type 0) where
  pub record TakesItems (old : S) (remaining : ℕ) (ys : List X) (has_ended : Bool) (new : S) (left : ℕ) : Type 0 where
    pub count : ℕ
    pub below : Bool
    pub given : Gives polls count old ys below new
    pub number : length ys + left ≡ remaining
    pub ends : EndsWith below (left == 0) has_ended

  -- The items that pass the test, up to the first that does not. The stream below gives no item beyond that one.
  pub record TakesWhile (test : X → Bool) (old : S) (ys : List X) (has_ended : Bool) (new : S) (has_failed : Bool) : Type 0 where
    pub count : ℕ
    pub items : List X
    pub below : Bool
    pub given : Gives polls count old items below new
    pub is : ys ≡ take_while test items
    pub failed : has_failed ≡ true → length items ≡ length ys + 1
    pub passed : has_failed ≡ false → items ≡ ys
    pub ends : EndsWith below has_failed has_ended

-- The values that a function of a state and an item makes, up to the first `None`, and the state after them.
module _ {A X Y : Type 0} (h : A → X → Option Y × A) where
  abbrev pub scan_step : Option Y → List Y → List Y
  scan_step (Some y) ys = y ∷ ys
  scan_step None ys = []

  abbrev pub scan_some : A → List X → List Y
  scan_some a [] = []
  scan_some a (x ∷ xs) = scan_step (h a x).0 (scan_some (h a x).1 xs)

-- The values of the steps from a state on, up to the first `None`.
module _ {S A C X Y : Type 0} (polls : S → C → Poll (Option X) → S → C → Type 0) (step : A → X → Option Y × A) where
  pub record ScansItems (old : S) (state : A) (ys : List Y) (has_ended : Bool) (new : S) (has_stopped : Bool) : Type 0 where
    pub count : ℕ
    pub items : List X
    pub below : Bool
    pub given : Gives polls count old items below new
    pub is : ys ≡ scan_some step state items
    pub ends : EndsWith below has_stopped has_ended
