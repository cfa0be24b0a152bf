-- What is queued, beside what one sender has sent.
use Rattle.std.specs.Prelude.{⊤, ◌≡◌, ◌<◌, ◌↔◌, ℕ, true, false, List, ◌++◌, map, length, Result}
use Rattle.crossbeam_queue.specs.Fifo.{Held}
use Rattle.mono_channel.specs.Delivery.{of}
use Rattle.mono_channel.specs.declared.errors.TrySendError.{TrySendError}
use Rattle.mono_channel.specs.Ends.{Ends, sent_by, bound_of}
use Rattle.mono_channel.specs.Errors.{finds_closed, finds_full}

-- The messages sent so far are those received and then these, the queued ones. Those with this sender's number are what it
-- sent, in order.
abbrev pub IsQueued : {T : Type 0} → List T → List T → Type 0
IsQueued {T} sent items = (number : ℕ) × (received : List T) × (all : List (ℕ × T)) × (map (λ m. m.1) all ≡ received ++ items) × (of number all ≡ sent)

-- At one moment as many messages were queued as the channel has places.
abbrev pub WasFull : {T : Type 0} → Ends T → Type 0
WasFull s = Held (bound_of s) (IsQueued (sent_by s))

-- At one moment of the call fewer than n messages were queued, and this was learned of them.
abbrev pub HeldBelow : {T : Type 0} → ℕ → (List T → Type 0) → Type 0
HeldBelow {T} n fact = (items : List T) × (length items < n) × fact items

-- At one moment fewer messages were queued than the channel has places.
abbrev pub HadRoom : {T : Type 0} → Ends T → Type 0
HadRoom s = HeldBelow (bound_of s) (IsQueued (sent_by s))

-- If a put did not find the channel closed, it found these messages queued: Full if and only if each place was taken.
abbrev pub IsFullIfTaken : {T : Type 0} → Ends T → Result ⊤ (TrySendError T) → Type 0
IsFullIfTaken {T} s r = finds_closed r ≡ false → (items : List T) × (finds_full r ≡ true ↔ length items ≡ bound_of s) × IsQueued (sent_by s) items
