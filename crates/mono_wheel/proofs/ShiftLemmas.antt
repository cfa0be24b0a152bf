-- Six bits are a digit to the base 64.
use Rattle.std.proofs.Common.{arith, ◌≡◌, ℕ, ◌*◌, ◌/◌, ◌%◌, ◌^◌, ◌<◌, ◌≤◌, sym, ap, ◌∙◌}
use Rattle.std.proofs.Math.Pow.{pow_mono}
use Rattle.mono_wheel.specs.Start.{slot_of, level_count, top_level}
use Rattle.mono_wheel.proofs.LevelBitsLemmas.{pow_64}

pub shift-level : (level : ℕ) → 2 ^ (level * 6) ≡ 64 ^ level
shift-level level = ap (λ z. 2 ^ z) (let e : level * 6 ≡ 6 * level = omega arith in e) ∙ sym (pow_64 level)

pub shift-size : (level : ℕ) → level < level_count → 1 * 2 ^ (level * 6) % 2 ^ 64 ≡ 64 ^ level
shift-size level b =
    let few : 2 ^ (level * 6) ≤ 2 ^ (6 * top_level) = pow_mono {i = level * 6} {j = 6 * top_level} (omega (arith, b)) in
    let small : 1 * 2 ^ (level * 6) % 2 ^ 64 ≡ 2 ^ (level * 6) = omega (arith, few) in
    small ∙ shift-level level

pub shift-slot : (level tick : ℕ) → tick / 2 ^ (level * 6) % 64 ≡ slot_of level tick
shift-slot level tick = ap (λ z. tick / z % 64) (shift-level level)
