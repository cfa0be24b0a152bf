-- Definitions for a closure that is called at a state, and whose future asks for the next state or for the end.
use Rattle.std.specs.Prelude.{List}
use Rattle.std.specs.List.{FoldsTo}
use Rattle.std.specs.Fn.{Mut, Called}
use Rattle.mono_forms.specs.declared.repeats.Loop.{Loop}
use Rattle.mono_forms.specs.declared.repeats.Loop.TheVariants.{Continue}

-- The call at the state may be made, and the future that it returns may be polled.
abbrev pub CanStep : {F S A : Type 0} → Mut F (S × Unit {0}) A → (A → Type 0) → F × S → Type 0
CanStep {F} {S} {A} g may_poll p = g.pre p.0 (p.1, tt)
    × ((a : A) (f : F) → Called g p.0 (p.1, tt) a f → may_poll a)

module _ {F S T A : Type 0} (g : Mut F (S × Unit {0}) A) (gives : A → Loop T S → Type 0) where
  -- A call at the state returned a future that may ask for the state after.
  abbrev pub Step : F × S → Unit {0} → F × S → Type 0
  Step p x q = (a : A) × Called g p.0 (p.1, tt) a q.0 × gives a (Continue q.1)

  -- At each state that steps from p reach, the call may be made, and the future that it returns may be polled.
  pub record StepsWell (may_poll : A → Type 0) (p : F × S) : Type 0 where
    pub at : (xs : List (Unit {0})) (q : F × S) → FoldsTo Step p xs q → CanStep g may_poll q

  -- The steps of the list from p, and P holds of the future that one more call returned.
  pub record StepsTo (p : F × S) (xs : List (Unit {0})) (P : A → Type 0) : Type 0 where
    pub state : F × S
    pub stepped : FoldsTo Step p xs state
    pub future : A
    pub called : (f : F) × Called g state.0 (state.1, tt) future f
    pub holds : P future
