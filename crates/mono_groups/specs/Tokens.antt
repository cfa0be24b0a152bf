-- Tokens under keys, each with those below it: what each call does.
use Rattle.std.specs.Prelude.{⊤, Bool, true, false, ◌≡◌, ◌<◌, ◌⊎◌, MatchBool, ℕ, List, [], ◌∷◌, Option, Some, None, Result, Ok, Err}
use Rattle.std.specs.declared.alloc.AllocError.{AllocError}
use Rattle.std.proofs.Common.{refl, ◌∙◌}
use Rattle.mono_model.specs.Table.{Table, value_at, next_number, with_next, with_value, without}
use Rattle.mono_sync.specs.Many.{At, LeadsEach, NoneBelow, tasks_in}
use Rattle.mono_sync.specs.ManyLeads as each
use Rattle.mono_sync.specs.KeyedCalls.{AtOr}
use Rattle.mono_groups.specs.declared.waiters.Asked.{Asked}
use Rattle.mono_groups.specs.declared.waiters.Asked.TheVariants as asked
use Rattle.mono_groups.specs.declared.nodes.Token.{Token}
use Rattle.mono_groups.specs.declared.tokens.RemoveError.{RemoveError}
use Rattle.mono_groups.specs.declared.tokens.RemoveError.TheVariants.{Missing, Live, InUse}
use Rattle.mono_groups.specs.Nodes.{AsksNode, LeavesNode, PaysNode, owed_by, waiting_in}

abbrev pub cancelled_in : Option Token → Bool
cancelled_in None = true
cancelled_in (Some x) = x.is_cancelled

-- Whether the token with a key was cancelled. A key without a token counts as cancelled.
abbrev pub is_cancelled : Table Token → ℕ → Bool
is_cancelled a k = cancelled_in (value_at a k)

abbrev pub parent_in : Option Token → Option ℕ
parent_in None = None
parent_in (Some x) = x.parent

-- The key of the parent of the token with a key, if it has one.
abbrev pub parent_of : Table Token → ℕ → Option ℕ
parent_of a k = parent_in (value_at a k)

-- Whether a token with this parent is cancelled from the start, since its parent was.
abbrev pub follows : Table Token → Option ℕ → Bool
follows a None = false
follows a (Some p) = is_cancelled a p

-- A chain of parents leads from a key up to `top`.
abbrev pub Climbs : Table Token → ℕ → List ℕ → ℕ → Type 0
Climbs a top [] k = k ≡ top
Climbs a top (p ∷ ps) k = (parent_of a k ≡ Some p) × Climbs a top ps p

-- The token with a key is the one with the key `top`, or below it.
abbrev pub IsBelow : Table Token → ℕ → ℕ → Type 0
IsBelow a top k = (ps : List ℕ) × Climbs a top ps k

-- The parent of a token that was not cancelled was made before it, and was not cancelled either.
abbrev pub IsGrown : Table Token → Type 0
IsGrown a = (k p : ℕ) → is_cancelled a k ≡ false → parent_of a k ≡ Some p → (p < k) × (is_cancelled a p ≡ false)

-- That, and no token with a key less than `from` owes a wake.
pub record IsKept (a : Table Token) (from : ℕ) : Type 0 where
  pub grown : IsGrown a
  pub none : NoneBelow owed_by from a

-- A token keeps its parent, and stays cancelled.
abbrev pub Grows : Token → Token → Type 0
Grows x y = (y.parent ≡ x.parent) × (x.is_cancelled ≡ true → y.is_cancelled ≡ true)

pub grows_itself : (x : Token) → Grows x x
grows_itself x = (refl, λ is. is)

pub leads_itself : (a : Table Token) → LeadsEach Grows waiting_in owed_by a a
leads_itself = each.each_itself Grows waiting_in owed_by grows_itself

pub leads_on : (a b c : Table Token) → LeadsEach Grows waiting_in owed_by a b → LeadsEach Grows waiting_in owed_by b c → LeadsEach Grows waiting_in owed_by a c
leads_on = each.each_on Grows waiting_in owed_by (λ x y z p q. (q.0 ∙ p.0, λ is. q.1 (p.1 is)))

-- A token is made under the next key. It is cancelled from the start if its parent was.
abbrev pub Makes : Table Token → Option ℕ → Result ℕ AllocError → Table Token → Type 0
Makes a parent (Ok k) b = (k ≡ next_number a) × ((x : Token) × (x.parent ≡ parent) × (x.is_cancelled ≡ follows a parent) × (waiting_in x ≡ []) × (b ≡ with_next a x))
Makes a parent (Err e) b = b ≡ a

-- The token with this key is cancelled, and no other changes.
abbrev pub Marks : ℕ → Table Token → Table Token → Type 0
Marks k a b = (x : Token) × (value_at a k ≡ Some x) × (b ≡ with_value a k (record x { is_cancelled = true }))

-- The token with this key is cancelled if its parent was.
abbrev pub Follows : ℕ → Table Token → Table Token → Type 0
Follows k a b = MatchBool (follows a (parent_of a k)) (Marks k a b) (b ≡ a)

-- A token is cancelled if and only if it was, or the fact holds. All else stays.
abbrev pub CancelsIf : Type 0 → Option Token → Option Token → Type 0
CancelsIf P None y = y ≡ None
CancelsIf P (Some x) None = ⊥
CancelsIf P (Some x) (Some y) = (y.parent ≡ x.parent) × (y.waiters ≡ x.waiters) × ((x.is_cancelled ≡ true) ⊎ P → y.is_cancelled ≡ true) × (y.is_cancelled ≡ true → (x.is_cancelled ≡ true) ⊎ P)

-- The token with this key and all below it are cancelled, and no other.
pub record Cancels (key : ℕ) (a b : Table Token) : Type 0 where
  pub keys : next_number b ≡ next_number a
  pub each : (k : ℕ) → CancelsIf (IsBelow a key k) (value_at a k) (value_at b k)

-- A future of this task has its answer once the token was cancelled or if the key has none, and waits otherwise.
abbrev pub Awaits : ℕ → Table Token → Option ℕ → ℕ → Asked ⊤ → Table Token → Type 0
Awaits key a ticket me r b = AtOr (λ x y. AsksNode x ticket me r y) (r ≡ asked.Got tt) key a b

-- A future leaves, in a turn of this task.
abbrev pub GivesUp : ℕ → Table Token → Option ℕ → ℕ → Table Token → Type 0
GivesUp key a ticket me b = AtOr (λ x y. LeavesNode x ticket me y) ⊤ key a b

-- A cancelled token for which no task waits is removed. Nothing changes if it is refused.
abbrev pub Removes : Table Token → ℕ → Result ⊤ RemoveError → Table Token → Type 0
Removes a k (Ok done) b = ((x : Token) × (value_at a k ≡ Some x) × (x.is_cancelled ≡ true) × (waiting_in x ≡ [])) × (b ≡ without a k)
Removes a k (Err Missing) b = (value_at a k ≡ None) × (b ≡ a)
Removes a k (Err Live) b = (is_cancelled a k ≡ false) × (b ≡ a)
Removes a k (Err InUse) b = ((x : Token) × (value_at a k ≡ Some x) × (x.is_cancelled ≡ true) × (waiting_in x ≡ [] → ⊥)) × (b ≡ a)

-- The first task that the token with this key owes a wake is taken out. Nothing changes if it owes none.
abbrev pub PaysAt : ℕ → Table Token → Option ℕ → Table Token → Type 0
PaysAt k a None b = (tasks_in owed_by (value_at a k) ≡ []) × (b ≡ a)
PaysAt k a (Some t) b = At (λ x y. PaysNode x (Some t) y) k a b
