-- The numbers that a seed gives, on words of 32 bits.
use Rattle.std.specs.Prelude.{ℕ, ◌+◌, ◌*◌, ◌/◌, ◌%◌, ◌^◌, ◌==◌, if◌then◌else◌, bit_xor}
use Rattle.mono_model.specs.declared.random.FastRand.{FastRand}

-- The state of a seed: its high and low words, and never a low word of 0.
abbrev pub seeded : ℕ → FastRand
seeded seed = record { one = seed / 2 ^ 32; two = if seed % 2 ^ 32 == 0 then 1 else seed % 2 ^ 32 }

-- The word with itself shifted by 17 bits to the left.
abbrev pub smeared : ℕ → ℕ
smeared word = bit_xor word (word * 2 ^ 17 % 2 ^ 32)

-- The word that follows, computed from a smeared word and the other.
abbrev pub mixed : ℕ → ℕ → ℕ
mixed word other = bit_xor (bit_xor (bit_xor word other) (word / 2 ^ 7)) (other / 2 ^ 16)

abbrev pub after_draw : FastRand → FastRand
after_draw r = record { one = r.two; two = mixed (smeared r.one) r.two }

-- The next number.
abbrev pub drawn : FastRand → ℕ
drawn r = (r.two + mixed (smeared r.one) r.two) % 2 ^ 32

-- The next number, scaled to the range below n.
abbrev pub drawn_below : FastRand → ℕ → ℕ
drawn_below r n = drawn r * n / 2 ^ 32
