-- Predicates that may be called with each output.
use Rattle.std.specs.Prelude.{ℕ, Bool}
use Rattle.std.specs.Fn.{Shared}
use denote.Ref.{Bor}

-- A predicate of an output.
abbrev pub MayTest : {P O : Type 0} → Shared P (Bor O × Unit {0}) Bool → Type 0
MayTest {P} {O} call = (test : P) (shown : Bor O) → call.pre test (shown, tt)

-- A predicate of a branch's number and its output.
abbrev pub MayTestAt : {P O : Type 0} → Shared P (ℕ × (Bor O × Unit {0})) Bool → Type 0
MayTestAt {P} {O} call = (test : P) (number : ℕ) (shown : Bor O) → call.pre test (number, (shown, tt))
