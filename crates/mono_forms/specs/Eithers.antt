-- Either of two futures: each relation is that of the future that the form holds.
use Rattle.std.specs.Prelude.{Bool}
use Rattle.mono_model.specs.declared.poll.Poll.{Poll}
use Rattle.mono_forms.specs.declared.eithers.Either.{Either}
use Rattle.mono_forms.specs.declared.eithers.Either.TheVariants.{Left, Right}

module _ {A B : Type 0} where
  abbrev pub either_spent : (A → Bool) → (B → Bool) → Either A B → Bool
  either_spent a b (Left f) = a f
  either_spent a b (Right g) = b g

  abbrev pub EitherIs : (A → Type 0) → (B → Type 0) → Either A B → Type 0
  EitherIs a b (Left f) = a f
  EitherIs a b (Right g) = b g

  -- The form after a poll is on the same side.
  abbrev pub EitherPolls : {C X : Type 0} → (A → C → Poll X → A → C → Type 0) → (B → C → Poll X → B → C → Type 0) → Either A B → C → Poll X → Either A B → C → Type 0
  EitherPolls a b (Left f) c r (Left f') d = a f c r f' d
  EitherPolls a b (Left f) c r (Right g') d = ⊥
  EitherPolls a b (Right g) c r (Left f') d = ⊥
  EitherPolls a b (Right g) c r (Right g') d = b g c r g' d

  abbrev pub EitherGives : {X : Type 0} → (A → X → Type 0) → (B → X → Type 0) → Either A B → X → Type 0
  EitherGives a b (Left f) x = a f x
  EitherGives a b (Right g) x = b g x

  abbrev pub EitherCancels : {C : Type 0} → (A → C → C → Type 0) → (B → C → C → Type 0) → Either A B → C → C → Type 0
  EitherCancels a b (Left f) c d = a f c d
  EitherCancels a b (Right g) c d = b g c d
