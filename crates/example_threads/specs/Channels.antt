-- An end of a channel before and after a task, and the numbers that are sent.
use Rattle.std.specs.Prelude.{◌≡◌, ◌%◌, ◌^◌, ◌++◌, ◌∷◌, [], ℕ, zero, suc, List}
use Rattle.std.specs.List.{sum}
use Rattle.mono_channel.specs.Ends.{Ends, IsPair, sent_by, received_by, settled_by, shares_of}
use Rattle.mono_forms.specs.declared.message_folds.Folded.{Folded}

-- The numbers from n down to 1.
abbrev pub down_from : ℕ → List ℕ
down_from zero = []
down_from (suc n) = suc n ∷ down_from n

-- It is an end of the same channel, with the same shares.
abbrev pub IsAfter : Ends ℕ → Ends ℕ → Type 0
IsAfter a b = IsPair b a × (shares_of b ≡ shares_of a)

-- A later state of the sender, which has sent the numbers from the count down to 1 since.
abbrev pub HasSent : ℕ → Ends ℕ → Ends ℕ → Type 0
HasSent count a b = IsAfter a b × (sent_by b ≡ sent_by a ++ down_from count)

-- A later state of the receiver, which has settled no sender since. The value is the sum of all received numbers modulo 2^64.
abbrev pub HasSummed : {U : Type 0} → Ends ℕ → Folded ℕ U ℕ → Type 0
HasSummed a x = IsAfter a x.receiver × (settled_by x.receiver ≡ settled_by a) × (x.value ≡ sum (received_by x.receiver) % 2 ^ 64)
