-- The callers of a recorded inbox, and the reply to a wake with a caller's share.
use Rattle.std.specs.Prelude.{◌≡◌, ◌+◌, ◌++◌, ℕ, zero, suc, Bool, true, false, List, [], ◌∷◌}
use Rattle.mono_inbox.specs.declared.shares.PutReply.{PutReply}
use Rattle.mono_inbox.specs.declared.shares.PutReply.TheVariants.{Kept, Unkept}

-- A caller's number, and how many of its wakes were kept.
pub record Caller : Type 0 where
  pub number : ℕ
  pub calls : ℕ

-- Whether the reply carries the put's answer, and is Unkept if and only if the state was full.
abbrev pub IsPutReply : PutReply → Bool → Bool → Type 0
IsPutReply (Kept listed) full answer = (full ≡ false) × (listed ≡ answer)
IsPutReply (Unkept listed) full answer = (full ≡ true) × (listed ≡ answer)

abbrev pub with_a_call : Caller → Caller
with_a_call c = record { number = c.number; calls = c.calls + 1 }

-- Whether a kept wake adds one to the caller's calls, and any other reply adds nothing.
abbrev pub CountsKept : PutReply → Caller → Caller → Type 0
CountsKept (Kept listed) old new = new ≡ with_a_call old
CountsKept (Unkept listed) old new = new ≡ old

-- The given number of callers, numbered from 0, with no calls.
abbrev pub new_callers : ℕ → List Caller
new_callers zero = []
new_callers (suc n) = new_callers n ++ record { number = n; calls = 0 } ∷ []
