-- The items of a stream that a future gathers, over consecutive polls.
use Rattle.std.specs.Prelude.{◌≡◌, ℕ, zero, suc, Bool, true, false, List, [], ◌∷◌, ◌++◌, Option, Result, Ok, Err}
use Rattle.std.specs.Fn.{Mut}
use Rattle.std.specs.Global.{Vec}
use Rattle.std.specs.List.{FoldsTo}
use Rattle.mono_model.specs.declared.poll.Poll.{Poll}
use Rattle.mono_model.specs.declared.poll.Poll.TheVariants.{Ready, Pending}
use Rattle.mono_stream.specs.Folds.{Combines}
use Rattle.mono_stream.specs.Items.{Gives}
use Rattle.mono_stream.specs.declared.collects.Uncollected.{Uncollected}

-- The answers of consecutive polls of a future. Between two polls the context may change in any way.
module _ {G C Y : Type 0} (polls : G → C → Poll Y → G → C → Type 0) where
  pub record Tries (old : G) (answer : Poll Y) (new : G) : Type 0 where
    pub before : C
    pub after : C
    pub polled : polls old before answer new after

  -- This number of polls returned Pending, and then one returned this output.
  abbrev pub Outputs : ℕ → G → Y → Type 0
  Outputs zero old y = (new : G) × Tries old (Ready y) new
  Outputs (suc n) old y = (left : G) × Tries old Pending left × Outputs n left y

module _ {S F C T X : Type 0} (polls : S → C → Poll (Option X) → S → C → Type 0) (call : Mut F (T × (X × Unit {0})) T) where
  -- The stream gave items and ended, and the closure combined them in order into the last value.
  pub record FoldsItems (old : S) (f : F) (first last : T) : Type 0 where
    pub count : ℕ
    pub items : List X
    pub left : S
    pub given : Gives polls count old items true left
    pub after : F
    pub folded : FoldsTo (Combines call) (f, first) items (after, last)

-- All of the items, after the end; or all of them, the last of which was refused, and no end.
abbrev pub AreCollected : {X : Type 0} → Result (Vec X) (Uncollected X) → List X → Bool → Type 0
AreCollected (Ok all) items has_ended = (all.items ≡ items) × (has_ended ≡ true)
AreCollected (Err some) items has_ended = (some.items.items ++ some.refused ∷ [] ≡ items) × (has_ended ≡ false)

module _ {S C X : Type 0} (polls : S → C → Poll (Option X) → S → C → Type 0) where
  -- The stream gave items, and these are in the answer after those that were there before.
  pub record CollectsItems (old : S) (before : List X) (answer : Result (Vec X) (Uncollected X)) : Type 0 where
    pub count : ℕ
    pub items : List X
    pub has_ended : Bool
    pub left : S
    pub given : Gives polls count old items has_ended left
    pub are : AreCollected answer (before ++ items) has_ended
