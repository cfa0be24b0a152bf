-- The core of a key.
use Rattle.std.specs.Prelude.{ℕ, ◌*◌, ◌/◌, ◌%◌, ◌^◌}

-- The upper half of the key's product with a fixed odd number, modulo the number of cores.
abbrev pub core_of : ℕ → ℕ → ℕ
core_of key cores = (key * 11400714819323198485) % 2 ^ 64 / 2 ^ 32 % cores
