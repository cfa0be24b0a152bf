-- Properties of a poll's answer.
use Rattle.std.specs.Prelude.{⊤, Bool, true, false, Option, Some, None, Result, Ok, Err}
use Rattle.mono_model.specs.declared.poll.Poll.{Poll}
use Rattle.mono_model.specs.declared.poll.Poll.TheVariants.{Ready, Pending}

abbrev pub is_pending : {A : Type 0} → Poll A → Bool
is_pending (Ready x) = false
is_pending Pending = true

abbrev pub is_ready : {A : Type 0} → Poll A → Bool
is_ready (Ready x) = true
is_ready Pending = false

abbrev pub ready_value : {A : Type 0} → Poll A → Option A
ready_value (Ready x) = Some x
ready_value Pending = None

-- The fact holds if the answer is pending.
abbrev pub OnPending : {A : Type 0} → Poll A → Type 0 → Type 0
OnPending (Ready x) P = ⊤
OnPending Pending P = P

-- The fact holds if the answer is ready.
abbrev pub OnReady : {A : Type 0} → Poll A → Type 0 → Type 0
OnReady (Ready x) P = P
OnReady Pending P = ⊤

-- The property holds of the value if the answer is ready.
abbrev pub IfReady : {A : Type 0} → Poll A → (A → Type 0) → Type 0
IfReady (Ready x) P = P x
IfReady Pending P = ⊤

-- The answer of a call whose refusal is an answer of the poll.
abbrev pub call_of : {A E : Type 0} → Poll (Result A E) → Result (Poll A) E
call_of (Ready (Ok x)) = Ok (Ready x)
call_of (Ready (Err e)) = Err e
call_of Pending = Ok Pending
