-- A count that is always 0 never rises.
use Rattle.std.proofs.Common.{arith, inl, inr}
use Rattle.mono_text.specs.Environment.{HasRisen}

pub never : HasRisen 0 0 → ⊥
never (inl less) = omega (arith, less)
never (inr full) = omega (arith, full)
