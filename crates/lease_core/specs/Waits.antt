-- The acquires that wait for their locks, and the ends of their waits.
use Rattle.std.specs.Prelude.{ℕ, Bool, false, ◌==◌, not, if◌then◌else◌, List, [], ◌∷◌, ◌++◌, filter, Option, Some, None, is_some}
use Rattle.mono_session.specs.Keeper.{Keeper, owner_answer}
use Rattle.lease_core.specs.declared.ends.Waiter.{Waiter}
use Rattle.lease_core.specs.declared.requests.Outcome.{Outcome}
use Rattle.lease_core.specs.declared.requests.Outcome.TheVariants as outcome
use Rattle.lease_core.specs.declared.requests.Reply.{Reply}

abbrev pub is_first : ℕ → Option ℕ → Bool
is_first s None = false
is_first s (Some first) = first == s

-- The end of a wait, if any, after the session s left the queue of a key, which has this holder now. `own` is the outcome
-- of its own wait.
abbrev pub left_end : ℕ → Outcome → ℕ → Option ℕ → Waiter → Option Outcome
left_end s own key holder w =
    if not (w.key == key) then None
    else if w.session == s then Some own
    else if is_first w.session holder then Some outcome.Held
    else None

-- The same, with the key's holder in the leases.
abbrev pub left_in : ℕ → Outcome → Keeper → ℕ → Waiter → Option Outcome
left_in s own keeper key = left_end s own key (owner_answer keeper key)

-- The end of a wait, if any, after a session was closed and left the queue of a key.
abbrev pub closed_end : Keeper → ℕ × ℕ → Waiter → Option Outcome
closed_end keeper p = left_in p.0 outcome.Closed keeper p.1

-- The end of each wait when the input ends.
abbrev pub input_end : Waiter → Option Outcome
input_end w = Some outcome.Ended

-- The reply of a wait that has ended.
abbrev pub end_reply : ℕ → Waiter → Option Outcome → List Reply
end_reply tick w None = []
end_reply tick w (Some outcome) = record { number = w.number; arrived = w.arrived; tick = tick; outcome = outcome } ∷ []

-- The replies of all waits that have ended, and the waits that go on.
abbrev pub ended : (Waiter → Option Outcome) → ℕ → List Waiter → List Reply
ended end_of tick [] = []
ended end_of tick (w ∷ waiting) = end_reply tick w (end_of w) ++ ended end_of tick waiting

abbrev pub still : (Waiter → Option Outcome) → List Waiter → List Waiter
still end_of waiting = filter (λ w. not (is_some (end_of w))) waiting

-- The same for one key after another, or one session with a key after another. A wait that ended for one has ended for
-- those that follow.
abbrev pub ended_by : {A : Type 0} → (A → Waiter → Option Outcome) → ℕ → List A → List Waiter → List Reply
ended_by end_at tick [] waiting = []
ended_by end_at tick (x ∷ xs) waiting = ended (end_at x) tick waiting ++ ended_by end_at tick xs (still (end_at x) waiting)

abbrev pub still_by : {A : Type 0} → (A → Waiter → Option Outcome) → List A → List Waiter → List Waiter
still_by end_at [] waiting = waiting
still_by end_at (x ∷ xs) waiting = still_by end_at xs (still (end_at x) waiting)
