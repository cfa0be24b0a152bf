-- The meaning of each error for a main task that was not made.
use Rattle.std.specs.Prelude.{⊤, ◌≡◌, Bool, true, false, Result, Ok, Err}
use Rattle.mono_rt.specs.declared.parts.errors.RunError.{RunError}
use Rattle.mono_rt.specs.declared.parts.errors.RunError.TheVariants.{Memory, AtCapacity, Driver, Turns}

-- the fact holds if no task could be made; the only other error is Memory
abbrev pub OnCapacity : RunError → Type 0 → Type 0
OnCapacity Memory P = ⊤
OnCapacity AtCapacity P = P
OnCapacity Driver P = ⊥
OnCapacity Turns P = ⊥

-- the fact holds if memory ran out
abbrev pub OnMemory : RunError → Type 0 → Type 0
OnMemory Memory P = P
OnMemory AtCapacity P = ⊤
OnMemory Driver P = ⊤
OnMemory Turns P = ⊤

-- The answer is AtCapacity only if there is no place for a task; any other one but Memory only if there is one.
abbrev pub HasPlace : {A : Type 0} → Result A RunError → Bool → Type 0
HasPlace (Ok x) is_full = is_full ≡ false
HasPlace (Err AtCapacity) is_full = is_full ≡ true
HasPlace (Err Memory) is_full = ⊤
HasPlace (Err Driver) is_full = is_full ≡ false
HasPlace (Err Turns) is_full = is_full ≡ false

-- The answer is AtCapacity if and only if there is no place for a task. Only a journal that is not full keeps the entry of
-- that refusal, and then the answer is Memory if there is no memory for the entry.
abbrev pub AnswersPlace : {A : Type 0} → Result A RunError → Bool → Bool → Type 0
AnswersPlace (Ok x) is_full keeps_nothing = is_full ≡ false
AnswersPlace (Err AtCapacity) is_full keeps_nothing = is_full ≡ true
AnswersPlace (Err Memory) is_full keeps_nothing = keeps_nothing ≡ true → is_full ≡ false
AnswersPlace (Err Driver) is_full keeps_nothing = is_full ≡ false
AnswersPlace (Err Turns) is_full keeps_nothing = is_full ≡ false

-- the fact holds if the answer is AtCapacity
abbrev pub IfRefused : {A : Type 0} → Result A RunError → Type 0 → Type 0
IfRefused (Ok x) P = ⊤
IfRefused (Err AtCapacity) P = P
IfRefused (Err Memory) P = ⊤
IfRefused (Err Driver) P = ⊤
IfRefused (Err Turns) P = ⊤
