-- Two numbers with a blank between them.
use Rattle.std.specs.Prelude.{ℕ, List}
use Rattle.mono_text.specs.Parser.{Read, mapped, then_read, number_at, behind_at}

-- The value that the numbers make, and the rest.
abbrev pub pair_at : {A : Type 0} → (ℕ → ℕ → A) → List ℕ → Read A
pair_at make bytes = then_read (number_at bytes) (λ a rest. mapped (make a) (behind_at rest))
