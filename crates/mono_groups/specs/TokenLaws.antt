-- Laws that hold over any calls of tokens.
use Rattle.std.specs.Prelude.{true, false, ◌≡◌, ◌<◌, ℕ, List, [], ◌∷◌, Option, Some, None}
use Rattle.std.specs.List.{list_any}
use Rattle.std.specs.Prelude.{◌==◌}
use Rattle.mono_model.specs.Table.{Table, next_number}
use Rattle.mono_sync.specs.Many.{LeadsEach, lists_each, tasks_each}
use Rattle.mono_groups.specs.declared.waiters.Asked.TheVariants as asked
use Rattle.mono_groups.specs.declared.nodes.Token.{Token}
use Rattle.mono_groups.specs.Nodes.{listed_by, owed_by, waiting_in}
use Rattle.mono_groups.specs.Tokens.{is_cancelled, parent_of, IsBelow, IsGrown, Grows, Cancels, Awaits, GivesUp}

-- Calls lead from the first tokens to the second.
abbrev pub LeadsTo : Table Token → Table Token → Type 0
LeadsTo = LeadsEach Grows waiting_in owed_by

-- A token that was cancelled stays so, whatever was called.
abbrev pub StaysCancelled : Type 0
StaysCancelled = (a b : Table Token) (k : ℕ) → k < next_number a → is_cancelled a k ≡ true → LeadsTo a b → is_cancelled b k ≡ true

-- A token is cancelled if the token above it was, or one above that.
abbrev pub BelowIsCancelled : Type 0
BelowIsCancelled = (a : Table Token) (top k : ℕ) → IsGrown a → is_cancelled a top ≡ true → IsBelow a top k → is_cancelled a k ≡ true

-- A cancel changes no token that is not below: neither the token's parent, nor another child of the parent.
abbrev pub OthersStay : Type 0
OthersStay = (a b : Table Token) (key k : ℕ) → Cancels key a b → (IsBelow a key k → ⊥) → is_cancelled b k ≡ is_cancelled a k

-- The parent of a token that was not cancelled is not below it.
abbrev pub ParentIsAbove : Type 0
ParentIsAbove = (a : Table Token) (key p : ℕ) → IsGrown a → is_cancelled a key ≡ false → parent_of a key ≡ Some p → IsBelow a key p → ⊥

-- While nothing is owed, no task waits for a cancelled token.
abbrev pub NoTokenLiesIdle : Type 0
NoTokenLiesIdle = (a : Table Token) (k : ℕ) (p : List ℕ) (t : ℕ) → tasks_each owed_by a ≡ [] → lists_each listed_by a (k ∷ p) t ≡ true → is_cancelled a k ≡ false

-- A task that waits for a token is owed a wake once it was cancelled, or one above it.
abbrev pub CancelOwesAll : Type 0
CancelOwesAll = (a b : Table Token) (key k : ℕ) (p : List ℕ) (t : ℕ) → IsBelow a key k → lists_each listed_by a (k ∷ p) t ≡ true → Cancels key a b
    → list_any (λ u. u == t) (tasks_each owed_by b) ≡ true

-- A future that is pending is listed with its task, at its key and its ticket.
abbrev pub PendingIsListed : Type 0
PendingIsListed = (a b : Table Token) (key : ℕ) (ticket : Option ℕ) (me k : ℕ)
    → (Awaits key a (Some k) me asked.Waits b → lists_each listed_by b (key ∷ k ∷ []) me ≡ true) × (Awaits key a ticket me (asked.Joined k) b → lists_each listed_by b (key ∷ k ∷ []) me ≡ true)

-- The place of a future with this ticket, if it drew one.
abbrev pub IsPlaceOf : ℕ → Option ℕ → List ℕ → Type 0
IsPlaceOf key None p = ⊥
IsPlaceOf key (Some k) p = p ≡ key ∷ k ∷ []

-- A future that is given up is listed no longer.
abbrev pub GivenUpIsGone : Type 0
GivenUpIsGone = (a b : Table Token) (key k me : ℕ) → GivesUp key a (Some k) me b → lists_each listed_by b (key ∷ k ∷ []) me ≡ false
