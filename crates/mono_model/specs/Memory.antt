-- The outcome of a call that may run out of memory.
use Rattle.std.specs.Prelude.{◌≡◌, ◌⊎◌, Result, Err, IsOk}

-- The call returns `told` and leaves what `Left` says, or, if `told` is no refusal, returns out of memory and changes
-- nothing.
abbrev pub OrLacksMemory : {A E S : Type 0} → E → Result A E → S → S → (S → Type 0) → Result A E → Type 0
OrLacksMemory memory told old after Left result = ((result ≡ told) × Left after) ⊎ (IsOk told × (result ≡ Err memory) × Left old)
