-- The first answer of many futures: the answer and the form after one poll, and the answers in the end.
use Rattle.std.specs.Prelude.{◌≡◌, ◌⊎◌, Bool, true, false, List, [], ◌∷◌, Option, Some, None}
use Rattle.mono_model.specs.Poll.{OnPending, OnReady, ready_value}
use Rattle.mono_model.specs.declared.poll.Poll.{Poll}
use Rattle.mono_task.specs.Members.{FutureOf}
use Rattle.mono_combine.specs.BranchLists.{EachInTurn}

-- The answer so far, and the context.
pub record Racing (C X : Type 0) : Type 0 where
  pub won : Option X
  pub cx : C

module _ {T : Type 0} where
  -- The futures are given up, in the written order.
  abbrev pub AllCancel : {C : Type 0} → (T → C → C → Type 0) → List T → C → C → Type 0
  AllCancel cancels [] c d = d ≡ c
  AllCancel {C} cancels (f ∷ fs) c d = (m : C) × cancels f c m × AllCancel cancels fs m d

  -- One of the futures gives the answer.
  abbrev pub OneGives : {X : Type 0} → (T → X → Type 0) → List T → X → Type 0
  OneGives gives [] x = ⊥
  OneGives gives (f ∷ fs) x = gives f x ⊎ OneGives gives fs x

module _ {T C X : Type 0} (future : FutureOf T C X) where
  -- A future is polled unless a future before it has answered.
  abbrev pub RacesUnless : Option X → T → C → T → Option X → C → Type 0
  RacesUnless (Some x) f c g won d = (won ≡ Some x) × (g ≡ f) × (d ≡ c)
  RacesUnless None f c g won d = (answer : Poll X) × future.polls f c answer g d × (won ≡ ready_value answer)

  abbrev pub RacesOnce : T → Racing C X → T → Racing C X → Type 0
  RacesOnce f s g t = RacesUnless s.won f s.cx g t.won t.cx

  -- Each future is polled in the written order, up to the first that answers; then all are given up, and none remains.
  pub record RaceListPolls (futures : List T) (c : C) (r : Poll X) (left : List T) (has_answered : Bool) (d : C) : Type 0 where
    pub polled : List T
    pub after : C
    pub turns : EachInTurn RacesOnce futures (record { won = None; cx = c }) polled (record { won = ready_value r; cx = after })
    pub waits : OnPending r ((left ≡ polled) × (has_answered ≡ false) × (d ≡ after))
    pub ends : OnReady r ((left ≡ []) × (has_answered ≡ true) × AllCancel future.cancels polled after d)
