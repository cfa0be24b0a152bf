-- The outside: the sources and sinks of bytes, and how often their calls failed.
use Rattle.std.specs.Prelude.{◌≡◌, ℕ, ◌-◌, ◌^◌, ◌<◌, ◌≤◌, ◌⊎◌, List, [], ◌++◌, length, take, drop, Option, Some, None, Result, Ok, Err}

-- The count of faults is higher than before; a count that cannot rise counts as risen.
abbrev pub HasRisen : ℕ → ℕ → Type 0
HasRisen before now = (before < now) ⊎ (2 ^ 64 - 1 ≤ before)

-- An error comes only if the count rose, and without an error it stays.
abbrev pub HasCause : {T E : Type 0} → ℕ → ℕ → Result T E → Type 0
HasCause before now (Ok x) = now ≡ before
HasCause before now (Err e) = (before ≤ now) × HasRisen before now

-- A read of n bytes into a buffer, if the bytes that are left are exposed.
abbrev pub Reads : Option (List ℕ) → Option (List ℕ) → List ℕ → ℕ → Type 0
Reads None now buffer n = now ≡ None
Reads (Some left) now buffer n =
    (n ≤ length left) × (take n buffer ≡ take n left) × (now ≡ Some (drop n left)) × (0 < length buffer → n ≡ 0 → left ≡ [])

-- A write of the first n bytes of a piece, if the bytes that were written are exposed.
abbrev pub Writes : Option (List ℕ) → Option (List ℕ) → List ℕ → ℕ → Type 0
Writes None now piece n = now ≡ None
Writes (Some written) now piece n = now ≡ Some (written ++ take n piece)

-- The bytes were read off the front.
abbrev pub HasRead : Option (List ℕ) → List ℕ → Option (List ℕ) → Type 0
HasRead None bytes now = now ≡ None
HasRead (Some left) bytes None = ⊥
HasRead (Some left) bytes (Some now) = left ≡ bytes ++ now

-- The bytes are the whole rest, and none is left now.
abbrev pub HasReadAll : Option (List ℕ) → List ℕ → Option (List ℕ) → Type 0
HasReadAll None bytes now = now ≡ None
HasReadAll (Some left) bytes now = (left ≡ bytes) × (now ≡ Some [])

-- More bytes than most were left.
abbrev pub IsLongerThan : ℕ → Option (List ℕ) → Type 0
IsLongerThan most None = Unit {0}
IsLongerThan most (Some left) = most < length left

-- The bytes were appended.
abbrev pub HasWritten : Option (List ℕ) → Option (List ℕ) → List ℕ → Type 0
HasWritten None now bytes = now ≡ None
HasWritten (Some written) now bytes = now ≡ Some (written ++ bytes)

-- The first few of the bytes were appended.
abbrev pub HasWrittenPrefix : Option (List ℕ) → Option (List ℕ) → List ℕ → Type 0
HasWrittenPrefix before now bytes = (n : ℕ) × (n ≤ length bytes) × HasWritten before now (take n bytes)
