-- Items that a closure combines.
use Rattle.std.specs.Prelude.{◌≡◌, ℕ, Bool, true, false, List, [], ◌∷◌, ◌++◌, Option, Some, None, Result}
use Rattle.std.specs.Fn.{Mut, Called}
use Rattle.std.specs.List.{FoldsTo}
use Rattle.mono_model.specs.declared.Woke.{Woke}
use Rattle.mono_model.specs.declared.task_error.TaskError.{TaskError}
use Rattle.mono_model.specs.declared.poll.Poll.{Poll}
use Rattle.mono_model.specs.declared.poll.Poll.TheVariants.{Ready, Pending}
use Rattle.mono_stream.specs.Comes.{MayCome}
use Rattle.mono_stream.specs.Sifts.{Sifts}
use Rattle.mono_stream.specs.declared.folds.Folding.{Folding}
use Rattle.mono_stream.specs.declared.folds.Fold.{Fold}
use Rattle.mono_stream.specs.declared.sifts.Outcome.{Outcome}
use Rattle.mono_stream.specs.declared.sifts.Outcome.TheVariants.{Found, Done, Ended, Waits, Many}

abbrev pub is_nothing : {T : Type 0} → Option T → Bool
is_nothing (Some t) = false
is_nothing None = true

module _ {F T X : Type 0} (call : Mut F (T × (X × Unit {0})) T) where
  -- The closure was called at the value so far and the item.
  abbrev pub FoldSifts : Option T → F → X → Option (Unit {0}) → Option T → F → Type 0
  FoldSifts (Some t) f x y value f' = (u : T) × Called call f (t, (x, tt)) u f' × (value ≡ Some u) × (y ≡ None)
  FoldSifts None f x y value f' = ⊥

  -- The closure may be called at the value so far and the item.
  abbrev pub FoldsAt : Option T → F → X → Type 0
  FoldsAt value f x = (t : T) → value ≡ Some t → call.pre f (t, (x, tt))

  -- The closure was called at the value so far and an item.
  abbrev pub Combines : F × T → X → F × T → Type 0
  Combines p x q = Called call p.0 (p.1, (x, tt)) q.1 q.0

  -- The closure may be called at each item that may come, and at the value that it made of the items before.
  pub record FoldsOver {S : Type 0} (gives : S → List X → Type 0) (s : S) (value : Option T) (f : F) : Type 0 where
    pub at : (xs : List X) (x : X) (t : T) (q : F × T) → MayCome gives s (xs ++ x ∷ []) → value ≡ Some t → FoldsTo Combines (f, t) xs q → call.pre q.0 (q.1, (x, tt))

  abbrev pub FoldingSifts : Folding T F → X → Option (Unit {0}) → Folding T F → Type 0
  FoldingSifts v x y w = FoldSifts v.value v.f x y w.value w.f

-- It is ready with the value once the stream has ended. If the poll reached its limit, the running task is woken.
abbrev pub AfterFolded : {C T : Type 0} → (C → ℕ) → (C → ℕ → Result Woke TaskError → C → Type 0) → Outcome (Unit {0}) → Option T → C → Poll T → Option T → C → Type 0
AfterFolded number wakes Ended value c r left d = ((t : _) × (value ≡ Some t) × (r ≡ Ready t)) × (left ≡ None) × (d ≡ c)
AfterFolded number wakes Waits value c r left d = (r ≡ Pending) × (left ≡ value) × (d ≡ c)
AfterFolded number wakes Many value c r left d = (r ≡ Pending) × (left ≡ value) × ((woke : Result Woke TaskError) × wakes c (number c) woke d)
AfterFolded number wakes (Found y) value c r left d = ⊥
AfterFolded number wakes Done value c r left d = ⊥

module _ {S F C T X : Type 0} (polls : S → C → Poll (Option X) → S → C → Type 0) (call : Mut F (T × (X × Unit {0})) T) (number : C → ℕ) (wakes : C → ℕ → Result Woke TaskError → C → Type 0) where
  pub record FoldPolls (f : Fold S T F) (c : C) (r : Poll T) (g : Fold S T F) (d : C) : Type 0 where
    pub outcome : Outcome (Unit {0})
    pub folded : Folding T F
    pub middle : C
    pub taken : Sifts polls (λ v. false) (FoldingSifts call) f.stream f.folding c outcome g.stream folded middle
    pub after : AfterFolded number wakes outcome folded.value middle r g.folding.value d
    pub same : g.folding.f ≡ folded.f

module _ {S F T X : Type 0} (gives : S → List X → Type 0) (call : Mut F (T × (X × Unit {0})) T) where
  -- The closure combined items that may come into this value.
  pub record FoldGives (f : Fold S T F) (last : T) : Type 0 where
    pub first : T
    pub value : f.folding.value ≡ Some first
    pub items : List X
    pub may : MayCome gives f.stream items
    pub after : F
    pub folded : FoldsTo (Combines call) (f.folding.f, first) items (after, last)
