-- The items of two streams in pairs.
use Rattle.std.specs.Prelude.{◌≡◌, ⊤, List, ◌++◌, map, Option, Some, None}
use Rattle.std.specs.List.{cons_option}
use Rattle.mono_model.specs.declared.poll.Poll.{Poll}
use Rattle.mono_model.specs.declared.poll.Poll.TheVariants.{Ready, Pending}
use Rattle.mono_stream.specs.Comes.{MayCome}
use Rattle.mono_stream.specs.declared.zips.Filled.{Filled}
use Rattle.mono_stream.specs.declared.zips.Filled.TheVariants.{Held, Ended, Waits}
use Rattle.mono_stream.specs.declared.zips.Zip.{Zip}

-- The fact holds unless the stream has ended.
abbrev pub UnlessOut : Filled → Type 0 → Type 0
UnlessOut Held P = P
UnlessOut Ended P = ⊤
UnlessOut Waits P = P

module _ {S C X : Type 0} (polls : S → C → Poll (Option X) → S → C → Type 0) where
  -- An item that comes is held.
  abbrev pub AfterFill : Poll (Option X) → Filled → Option X → Type 0
  AfterFill (Ready (Some x)) filled left = (filled ≡ Held) × (left ≡ Some x)
  AfterFill (Ready None) filled left = (filled ≡ Ended) × (left ≡ None)
  AfterFill Pending filled left = (filled ≡ Waits) × (left ≡ None)

  -- The stream is polled only if no item is held.
  abbrev pub Fills : S → Option X → C → Filled → S → Option X → C → Type 0
  Fills s (Some x) c filled t left d = (filled ≡ Held) × (t ≡ s) × (left ≡ Some x) × (d ≡ c)
  Fills s None c filled t left d = (answer : Poll (Option X)) × polls s c answer t d × AfterFill answer filled left

-- Two items that are both held are taken out as a pair; one alone stays held.
abbrev pub Pairs : {X Y : Type 0} → Option X → Option Y → Poll (Option (X × Y)) → Option X → Option Y → Type 0
Pairs (Some x) (Some y) r first second = (r ≡ Ready (Some (x, y))) × (first ≡ None) × (second ≡ None)
Pairs (Some x) None r first second = (r ≡ Pending) × (first ≡ Some x) × (second ≡ None)
Pairs None y r first second = (r ≡ Pending) × (first ≡ None) × (second ≡ y)

module _ {A B C X Y : Type 0} (polls : A → C → Poll (Option X) → A → C → Type 0) (second_polls : B → C → Poll (Option Y) → B → C → Type 0) where
  -- Once a stream has ended, no pair comes, and items stay held.
  abbrev pub AfterSecond : Filled → Option X → Option Y → Poll (Option (X × Y)) → Option X → Option Y → Type 0
  AfterSecond Held x y r first second = Pairs x y r first second
  AfterSecond Ended x y r first second = (r ≡ Ready None) × (first ≡ x) × (second ≡ y)
  AfterSecond Waits x y r first second = (r ≡ Pending) × (first ≡ x) × (second ≡ y)

  pub record SecondFills (x : Option X) (m : Zip A B X Y) (c : C) (r : Poll (Option (X × Y))) (n : Zip A B X Y) (d : C) : Type 0 where
    pub filled : Filled
    pub item : Option Y
    pub fills : Fills second_polls m.second m.second_item c filled n.second item d
    pub rest : AfterSecond filled x item r n.first_item n.second_item

  abbrev pub AfterFirst : Filled → Option X → Zip A B X Y → C → Poll (Option (X × Y)) → Zip A B X Y → C → Type 0
  AfterFirst Held x m c r n d = SecondFills x m c r n d
  AfterFirst Ended x m c r n d = (r ≡ Ready None) × (n.second ≡ m.second) × (n.first_item ≡ x) × (n.second_item ≡ m.second_item) × (d ≡ c)
  AfterFirst Waits x m c r n d = SecondFills x m c r n d

  pub record ZipPolls (m : Zip A B X Y) (c : C) (r : Poll (Option (X × Y))) (n : Zip A B X Y) (d : C) : Type 0 where
    pub filled : Filled
    pub item : Option X
    pub middle : C
    pub fills : Fills polls m.first m.first_item c filled n.first item middle
    pub rest : AfterFirst filled item m middle r n d

module _ {A B C X Y : Type 0} (cancels : A → C → C → Type 0) (second_cancels : B → C → C → Type 0) where
  abbrev pub ZipCancels : Zip A B X Y → C → C → Type 0
  ZipCancels m c d = (middle : C) × cancels m.first c middle × second_cancels m.second middle d

-- The item that is held, and items that may come after it.
pub record HeldComes {S X : Type 0} (gives : S → List X → Type 0) (s : S) (held : Option X) (xs : List X) : Type 0 where
  pub items : List X
  pub may : MayCome gives s items
  pub are : xs ≡ cons_option held items

-- The same holds after a poll for an item, unless the stream has ended.
abbrev pub FillsOn : {S X : Type 0} → (S → List X → Type 0) → Filled → S → Option X → S → Option X → Type 0
FillsOn {S} {X} gives Held s held t left = (xs : List X) → HeldComes gives t left xs → HeldComes gives s held xs
FillsOn gives Ended s held t left = ⊤
FillsOn {S} {X} gives Waits s held t left = (xs : List X) → HeldComes gives t left xs → HeldComes gives s held xs

module _ {A B X Y : Type 0} (gives : A → List X → Type 0) (second_gives : B → List Y → Type 0) where
  -- Pairs of the first items of both streams; further items of either one may be left.
  pub record ZipGives (m : Zip A B X Y) (pairs : List (X × Y)) : Type 0 where
    pub more : List X
    pub first : HeldComes gives m.first m.first_item (map (λ p. p.0) pairs ++ more)
    pub second_more : List Y
    pub second : HeldComes second_gives m.second m.second_item (map (λ p. p.1) pairs ++ second_more)
