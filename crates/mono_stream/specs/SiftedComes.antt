-- The items that may come of a stream under a sieve, and the calls of the sieve at them.
use Rattle.std.specs.Prelude.{◌≡◌, Bool, false, List, [], ◌∷◌, ◌++◌, Option, Some}
use Rattle.mono_stream.specs.Comes.{MayCome}
use Rattle.mono_stream.specs.SiftedItems.{AreSifted}
use Rattle.mono_stream.specs.declared.sifts.Outcome.{Outcome}
use Rattle.mono_stream.specs.declared.sifts.Outcome.TheVariants.{Found, Done, Ended, Waits, Many}
use Rattle.mono_stream.specs.declared.sifts.Sifted.{Sifted}

module _ {V X Y : Type 0} (done : V → Bool) (sifts : V → X → Option Y → V → Type 0) where
  -- The sieve may take each item that may come, once it has taken the items before and is not done.
  pub record AbleOver {S : Type 0} (can_sift : V → X → Type 0) (gives : S → List X → Type 0) (s : S) (v : V) : Type 0 where
    pub at : (xs : List X) (ys : List Y) (x : X) (w : V) → MayCome gives s (xs ++ x ∷ []) → AreSifted done sifts v xs ys w → done w ≡ false → can_sift w x

  -- The sieve returns these values for items that may come.
  pub record SiftsTo (Come : List X → Type 0) (v : V) (ys : List Y) (w : V) : Type 0 where
    pub items : List X
    pub may : Come items
    pub sifted : AreSifted done sifts v items ys w

  -- The sieve returned no value for the items that were taken. What may come after them could follow them before.
  pub record Taken (Before Later : List X → Type 0) (v w : V) : Type 0 where
    pub items : List X
    pub follow : (xs : List X) → Later xs → Before (items ++ xs)
    pub sifted : AreSifted done sifts v items [] w

  -- The same, and then a value for one more item.
  pub record Finds (y : Y) (Before Later : List X → Type 0) (v w : V) : Type 0 where
    pub items : List X
    pub item : X
    pub follow : (xs : List X) → Later xs → Before (items ++ item ∷ xs)
    pub sieve : V
    pub passed : AreSifted done sifts v items [] sieve
    pub unfinished : done sieve ≡ false
    pub sifted : sifts sieve item (Some y) w

  abbrev pub SiftsOn : Outcome Y → (List X → Type 0) → (List X → Type 0) → V → V → Type 0
  SiftsOn (Found y) Before Later v w = Finds y Before Later v w
  SiftsOn Done Before Later v w = Taken Before Later v w
  SiftsOn Ended Before Later v w = SiftsTo Before v [] w
  SiftsOn Waits Before Later v w = Taken Before Later v w
  SiftsOn Many Before Later v w = Taken Before Later v w

-- The values of items that may come.
pub record SiftedGives {S V X Y : Type 0} (gives : S → List X → Type 0) (done : V → Bool) (sifts : V → X → Option Y → V → Type 0) (m : Sifted S V) (ys : List Y) : Type 0 where
  pub items : List X
  pub may : MayCome gives m.stream items
  pub after : V
  pub sifted : AreSifted done sifts m.sieve items ys after
