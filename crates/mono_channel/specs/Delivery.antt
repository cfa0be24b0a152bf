-- What arrives over a channel is what its senders sent.
use Rattle.std.specs.Prelude.{◌≡◌, ◌≢◌, ◌==◌, ◌<◌, ◌≤◌, ◌+◌, ◌-◌, ◌^◌, ℕ, true, false, ⊤, List, [], ◌∷◌, ◌++◌, map, length, if◌then◌else◌}
use mathlib.Core.Option.{some}
use lib.ListN.{get_elem?}
use Rattle.mono_channel.specs.declared.rule.Hand.{Hand}

-- What the ends of a channel have together at most. A new channel's sender has all of it.
abbrev pub all_shares : ℕ
all_shares = 2 ^ 63

-- What a sender with n shares keeps when it makes a further one, and what that one gets: one share, unless that was the last.
abbrev pub shares_kept : ℕ → ℕ
shares_kept n = n - 1

abbrev pub shares_given : ℕ → ℕ
shares_given n = (n - 1) - (n - 2)

module _ {T : Type 0} where
  -- the messages with this sender's number, in order
  abbrev pub of : ℕ → List (ℕ × T) → List T
  of n [] = []
  of n (m ∷ ms) = if m.0 == n then m.1 ∷ of n ms else of n ms

  -- the number is none of theirs
  abbrev pub IsNew : ℕ → List (ℕ × List T) → Type 0
  IsNew n [] = ⊤
  IsNew n (e ∷ es) = (e.0 ≢ n) × IsNew n es

  -- each has a number of its own, and its messages are what it sent
  abbrev pub HasAll : List (ℕ × T) → List (ℕ × List T) → Type 0
  HasAll all [] = ⊤
  HasAll all (e ∷ es) = (of e.0 all ≡ e.1) × IsNew e.0 es × HasAll all es

  -- each number is below this one
  abbrev pub AreBelow : ℕ → List (ℕ × List T) → Type 0
  AreBelow n [] = ⊤
  AreBelow n (e ∷ es) = (e.0 < n) × AreBelow n es

  -- each message has one of their numbers
  abbrev pub AreOf : List (ℕ × T) → List (ℕ × List T) → Type 0
  AreOf all ended = (n : ℕ) → IsNew n ended → of n all ≡ []

  -- Each element of the whole is one of a part: the parts have different numbers, each element has the number of a part, and
  -- the elements with its number are the part, in order.
  abbrev pub Interleaves : List (List T) → List T → Type 0
  Interleaves parts whole = (all : List (ℕ × T)) × (ended : List (ℕ × List T)) × (map (λ m. m.1) all ≡ whole) × (map (λ e. e.1) ended ≡ parts) × HasAll all ended × AreOf all ended

  -- Each message that was received has the number of its sender. What each of these senders sent is what was received of it:
  -- in order, whole and once. With all shares, nothing else was received.
  abbrev pub Arrived : ℕ → List T → List (List T) → Type 0
  Arrived shares received sent =
      (all : List (ℕ × T)) × (ended : List (ℕ × List T)) × (map (λ m. m.1) all ≡ received) × (map (λ e. e.1) ended ≡ sent) × HasAll all ended × (shares ≡ all_shares → AreOf all ended)

  -- a sender's messages are what it has sent so far, and it has not been settled
  abbrev pub FitsSender : List (ℕ × T) → List (ℕ × List T) → ℕ → Hand T → Type 0
  FitsSender all ended n v = v.sends ≡ true → (of n all ≡ v.sent) × IsNew n ended

  -- the one receiver knows what it received, and what the settled senders sent
  abbrev pub FitsReceiver : ℕ → List T → List (ℕ × List T) → ℕ → Hand T → Type 0
  FitsReceiver reader got ended n v = v.receives ≡ true → (n ≡ reader) × (v.received ≡ got) × (v.settled ≡ map (λ e. e.1) ended) × (v.sends ≡ false)

  -- one that may not send has sent nothing, or was settled
  abbrev pub FitsIdle : List (ℕ × T) → List (ℕ × List T) → ℕ → Hand T → Type 0
  FitsIdle all ended n v = v.sends ≡ false → IsNew n ended → of n all ≡ []

  -- each hand fits
  abbrev pub Fit : ℕ → List T → List (ℕ × T) → List (ℕ × List T) → ℕ → Hand T → Type 0
  Fit reader got all ended n v = FitsSender all ended n v × FitsReceiver reader got ended n v × FitsIdle all ended n v

  -- the shares of all ends
  abbrev pub total : List (Hand T) → ℕ
  total [] = 0
  total (v ∷ vs) = v.shares + total vs

  -- each sender has a share
  abbrev pub Share : List (Hand T) → Type 0
  Share views = (n : ℕ) (v : Hand T) → get_elem? views n ≡ some v → v.sends ≡ true → 0 < v.shares

  -- the messages sent are those received and then those queued, and each hand fits them
  abbrev pub Delivers : List T → List (Hand T) → Type 0
  Delivers items views = (reader : ℕ) × (got : List T) × (all : List (ℕ × T)) × (ended : List (ℕ × List T))
      × (map (λ m. m.1) all ≡ got ++ items) × HasAll all ended × AreBelow (length views) ended
      × ((n : ℕ) → length views ≤ n → of n all ≡ [])
      × ((n : ℕ) (v : Hand T) → get_elem? views n ≡ some v → Fit reader got all ended n v)
      × (total views ≤ all_shares) × (total views ≡ all_shares → Share views)

  abbrev pub hand : ℕ → List T → List (List T) → Hand T
  hand shares received settled = record { sends = false; receives = true; shares = shares; sent = []; received = received; settled = settled }

  abbrev pub sender : ℕ → List T → Hand T
  sender shares sent = record { sends = true; receives = false; shares = shares; sent = sent; received = []; settled = [] }

  abbrev pub spent : Hand T
  spent = record { sends = false; receives = false; shares = 0; sent = []; received = []; settled = [] }
