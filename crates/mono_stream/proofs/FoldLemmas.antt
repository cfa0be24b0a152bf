-- Two facts of a future that is not spent.
use Rattle.std.proofs.Common.{◌≡◌, Bool, true, false, sym}
use Rattle.std.specs.Bool.{OnFalse}

never : {P : Type 0} → false ≡ true → P
never e = absurd (cc)

-- Both facts hold in the case that is there.
pub both_if : {P Q : Type 0} (b : Bool) → b ≡ false → P → Q → OnFalse b (P × Q)
both_if false is p q = (p, q)
both_if true is p q = tt

pub both_of : {P Q : Type 0} (b : Bool) → b ≡ false → OnFalse b (P × Q) → P × Q
both_of false is h = h
both_of true is h = never (sym is)
