-- A loop by an invariant of its states: the facts about each state and each answer, turn by turn.
use Rattle.std.specs.Prelude.{List, [], ◌∷◌}
use Rattle.std.proofs.Common.{subst, inl, inr}
use Rattle.std.specs.List.{FoldsTo}
use Rattle.std.specs.Fn.{Mut, Called}
use Rattle.mono_task.specs.Members.{FutureOf}
use Rattle.mono_forms.specs.Parts.{MayPoll}
use Rattle.mono_forms.specs.Loops.{CanStep, StepsWell, Step}
use Rattle.mono_forms.specs.Repeats.{LoopGives, CanLoop}
use Rattle.mono_forms.specs.declared.repeats.Loop.{Loop}
use Rattle.mono_forms.specs.declared.repeats.Loop.TheVariants.{Break, Continue}

-- A turn asks for the end with a value that satisfies P, or for one more turn at a state that satisfies I.
abbrev pub Keeps : {S T : Type 0} → (S → Type 0) → (T → Type 0) → Loop T S → Type 0
Keeps I P (Break x) = P x
Keeps I P (Continue s) = I s

module _ {F S T A : Type 0} (g : Mut F (S × Unit {0}) A) (gives : A → Loop T S → Type 0) (I : S → Type 0) (P : T → Type 0) where
  -- Each output that the future gives keeps the invariant.
  abbrev pub KeepsAll : A → Type 0
  KeepsAll a = (y : Loop T S) → gives a y → Keeps I P y

  -- So does each future that a call at a state with the invariant makes.
  abbrev pub CallsKeep : Type 0
  CallsKeep = (f : F) (s : S) (a : A) (f' : F) → I s → Called g f (s, tt) a f' → KeepsAll a

  pub walk : CallsKeep → (xs : List (Unit {0})) (p q : F × S) → I p.1 → FoldsTo (Step g gives) p xs q → I q.1
  walk keep [] p q i same = subst (λ r. I r.1) same i
  walk keep (x ∷ xs) p q i h = walk keep xs h.0 q (keep p.0 p.1 h.1.0 h.0.0 i h.1.1 (Continue h.0.1) h.1.2) h.2

  -- Each answer of the loop satisfies P.
  pub loop_keeps : CallsKeep → (a : A) (f : F) → KeepsAll a → (x : T) → LoopGives gives g a f x → P x
  loop_keeps keep a f all x h = elim h [
    | inl k ↦ all (Break x) k
    | inr k ↦ keep k.3.state.0 k.3.state.1 k.3.future k.3.called.0 (walk keep k.1 (f, k.0) k.3.state (all (Continue k.0) k.2) k.3.stepped) k.3.called.1 (Break x) k.3.holds
  ]

module _ {A C F S T : Type 0} (future : FutureOf A C (Loop T S)) (g : Mut F (S × Unit {0}) A) (I : S → Type 0) (P : T → Type 0) where
  -- A call at a state with the invariant may be made, and its future may be polled.
  abbrev pub CallsWell : Type 0
  CallsWell = (f : F) (s : S) → I s → CanStep g (MayPoll future) (f, s)

  pub well_from : CallsKeep g future.gives I P → CallsWell → (f : F) (s : S) → I s → StepsWell g future.gives (MayPoll future) (f, s)
  well_from keep well f s i = record { at = λ xs q stepped. well q.0 q.1 (walk g future.gives I P keep xs (f, s) q i stepped) }

  -- The loop may be polled.
  pub loop_can : CallsKeep g future.gives I P → CallsWell → (a : A) (f : F) → future.can_poll a → KeepsAll g future.gives I P a → CanLoop future g a f
  loop_can keep well a f can all = (can, λ s h. well_from keep well f s (all (Continue s) h))
