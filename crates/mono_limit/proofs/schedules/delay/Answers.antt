use Rattle.std.proofs.Common.{◌<◌, ◌≤◌, zero, suc, ℕ, ◌-◌, ◌*◌, ◌^◌, arith}
use Rattle.std.proofs.Math.Nat.{pow-le-pow_right}
use Rattle.mono_limit.proofs.schedules.delay.Goals as goal

-- a number that is not 0, doubled 64 times, is above all of 64 bits
far : (base n : ℕ) → 0 < base → 64 ≤ n → 2 ^ 64 ≤ base * 2 ^ n
far zero n some above = absurd (omega (arith, some))
far (suc base) n some above =
    let power : 2 ^ 64 ≤ 2 ^ n = pow-le-pow_right (omega arith) {i = 64} {j = n} above in
    omega (arith, power)

pub returns-then-doublings-ge64 : goal.returns-then-doublings-ge64
returns-then-doublings-ge64 c = omega (arith, far c.args.base (c.args.k - 1) c.requires (omega (arith, c.if-doublings-ge64.true, c.saturating_sub-doublings.ensures)), c.ranges.cap)
