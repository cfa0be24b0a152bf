-- The table of the acquires that wait: by key and session, the last that came first.
use Rattle.std.specs.Prelude.{ℕ, Bool, true, false, nat_eq, nat_lt, ◌&&◌, if◌then◌else◌, List, [], ◌∷◌, ◌++◌, Option, Some, None}
use Rattle.lease_core.specs.declared.ends.Waiter.{Waiter}
use Rattle.lease_core.specs.declared.places.Place.{Place}
use Rattle.lease_core.specs.declared.requests.Outcome.{Outcome}
use Rattle.lease_core.specs.declared.requests.Outcome.TheVariants as outcome
use Rattle.lease_core.specs.declared.requests.Reply.{Reply}

abbrev pub Entry : Type 0
Entry = (ℕ × ℕ) × Place

abbrev pub waiter_of : Entry → Waiter
waiter_of e = record { number = e.1.number; session = e.0.1; key = e.0.0; arrived = e.1.arrived }

-- The waits in the order in which they came.
abbrev pub waiters : List Entry → List Waiter
waiters [] = []
waiters (e ∷ es) = waiters es ++ waiter_of e ∷ []

-- Each ticket is less than n and than those of the waits that came later.
abbrev pub descends : ℕ → List Entry → Bool
descends n [] = true
descends n (e ∷ es) = nat_lt e.1.ticket n && descends e.1.ticket es

-- Whether the wait is that of the session for the key.
abbrev pub is_of : ℕ → ℕ → ℕ × ℕ → Bool
is_of key s k = nat_eq key k.0 && nat_eq s k.1

-- Whether it is that of the holder of the key.
abbrev pub is_held : ℕ → Option ℕ → ℕ × ℕ → Bool
is_held key None k = false
is_held key (Some s) k = is_of key s k

abbrev pub place_reply : ℕ → Outcome → Option Place → List Reply
place_reply tick told None = []
place_reply tick told (Some place) = record { number = place.number; arrived = place.arrived; tick = tick; outcome = told } ∷ []

-- Whether both waits are there, and the first came later.
abbrev pub came_later : Option Place → Option Place → Bool
came_later None other = false
came_later (Some place) None = false
came_later (Some place) (Some other) = nat_lt other.ticket place.ticket

-- The replies of the wait of a session that left, with its outcome, and of the wait of the holder now, in the order in
-- which they came.
abbrev pub in_order : ℕ → Outcome → Option Place → Option Place → List Reply
in_order tick own left held =
    if came_later left held then place_reply tick outcome.Held held ++ place_reply tick own left
    else place_reply tick own left ++ place_reply tick outcome.Held held
