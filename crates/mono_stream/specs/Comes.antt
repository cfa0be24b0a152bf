-- The items that may come of a stream, and the calls of a closure at them.
use Rattle.std.specs.Prelude.{⊤, List, [], ◌∷◌, ◌++◌, Option, Some, None}
use Rattle.std.specs.Fn.{Mut, Called}
use Rattle.std.specs.List.{FoldsTo}
use Rattle.mono_model.specs.declared.poll.Poll.{Poll}
use Rattle.mono_model.specs.declared.poll.Poll.TheVariants.{Ready, Pending}

-- Whether these items may come next, in order. That none comes is always possible.
abbrev pub MayCome : {S X : Type 0} → (S → List X → Type 0) → S → List X → Type 0
MayCome gives s [] = ⊤
MayCome gives s (x ∷ xs) = gives s (x ∷ xs)

-- What may come after a poll could come before it, behind the item that the poll returned.
abbrev pub FollowOn : {X : Type 0} → (List X → Type 0) → Poll (Option X) → (List X → Type 0) → Type 0
FollowOn {X} Before (Ready (Some x)) Later = (xs : List X) → Later xs → Before (x ∷ xs)
FollowOn Before (Ready None) Later = ⊤
FollowOn {X} Before Pending Later = (x : X) (xs : List X) → Later (x ∷ xs) → Before (x ∷ xs)

module _ {F X Y : Type 0} (call : Mut F (X × Unit {0}) Y) where
  -- A call at the item leaves this closure.
  abbrev pub SomeCall : F → X → F → Type 0
  SomeCall f x g = (y : Y) × Called call f (x, tt) y g

  -- The closure may be called at each item that may come, once it was called at the items before.
  pub record CallableOver {S : Type 0} (gives : S → List X → Type 0) (s : S) (f : F) : Type 0 where
    pub at : (xs : List X) (x : X) (g : F) → MayCome gives s (xs ++ x ∷ []) → FoldsTo SomeCall f xs g → call.pre g (x, tt)
