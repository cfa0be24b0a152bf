-- The facts that each command owes of its meaning.
use Rattle.std.proofs.Common.{ℕ, List}
use Rattle.mono_script.specs.Endings.{Meaning}
use Rattle.mono_script.specs.declared.ends.Status.{Status}

-- a good input has no first bad line, and an answer is one to a good input
pub record Sound (m : Meaning) : Type 0 where
  pub apart : (input : List ℕ) (n : ℕ) → m.IsGood input → m.IsFirstBad input n → ⊥
  pub good : (input : List ℕ) (s : Status) (output : List ℕ) → m.Answers input s output → m.IsGood input
