-- What a future that runs until a signal gives.
use Rattle.std.proofs.Common.{Option}
use Rattle.std.specs.Prelude.{⊤, Result, Ok, Err}
use Rattle.std.specs.declared.alloc.AllocError.{AllocError}
use Rattle.mono_forms.specs.EitherRaces.{EitherRaceGives}
use Rattle.mono_forms.specs.declared.eithers.Either.{Either}
use Rattle.mono_forms.specs.declared.eithers.Either.TheVariants.{Left, Right}
use Rattle.mono_groups.specs.declared.until.Aborted.{Aborted}
use Rattle.mono_groups.specs.declared.until.Aborted.TheVariants.{Cancelled, Memory}
use Rattle.mono_groups.specs.Until.{UntilGives, answer_of}

module _ {A B Y : Type 0} (a : A → Result ⊤ AllocError → Type 0) (b : B → Y → Type 0) where
  -- the answer of the race is one that the form gives
  pub gives_answer : (both : Option (A × B)) (first : Either (Result ⊤ AllocError) Y) → EitherRaceGives a b both first → UntilGives a b both (answer_of first)
  gives_answer both (Left (Ok done)) p = p
  gives_answer both (Left (Err e)) p = (e, p)
  gives_answer both (Right y) p = p

  -- what the form gives later, it gave before
  pub gives_before : (old new : Option (A × B)) → ((e : Either (Result ⊤ AllocError) Y) → EitherRaceGives a b new e → EitherRaceGives a b old e) → (x : Result Y Aborted) → UntilGives a b new x → UntilGives a b old x
  gives_before old new same (Ok y) p = same (Right y) p
  gives_before old new same (Err Cancelled) p = same (Left (Ok tt)) p
  gives_before old new same (Err Memory) p = (p.0, same (Left (Err p.0)) p.1)
