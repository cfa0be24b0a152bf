-- Definitions for a closure that is called as a poll.
use Rattle.std.specs.Prelude.{⊤, List, [], ◌∷◌}
use Rattle.std.specs.Fn.{Mut, CalledAtMut}
use denote.Ref.{MutBor}
use Rattle.mono_model.specs.declared.poll.Poll.{Poll}
use Rattle.mono_model.specs.declared.poll.Poll.TheVariants.{Ready}

abbrev pub Poller : Type 0 → Type 0 → Type 0 → Type 1
Poller F C T = Mut F (MutBor C × Unit {0}) (Poll T × (MutBor C × Unit {0}))

-- Whether some call may answer this.
abbrev pub CallGives : {F C T : Type 0} → Poller F C T → T → Type 0
CallGives {F} {C} {T} g x = (f : F) × (c : C) × (f' : F) × (d : C) × CalledAtMut g f c (Ready x) f' d

module _ {F C T : Type 0} (g : Poller F C T) (reaches : C → C → Type 0) where
  -- Whether the closure may be called at these contexts in turn, each call at what the one before left of it. Each call
  -- leaves a context that is reached from the context before.
  abbrev pub CallsReach : F → List (MutBor C) → Type 0
  CallsReach f [] = ⊤
  CallsReach f (x ∷ xs) = g.pre f (x, tt) × ((r : Poll T) (f' : F) (d : C) → CalledAtMut g f x.now r f' d → reaches x.now d × CallsReach f' xs)

  -- Whether each poll may call the closure, from f on.
  abbrev pub StaysCallable : F → Type 0
  StaysCallable f = (xs : List (MutBor C)) → CallsReach f xs
