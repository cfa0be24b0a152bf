-- Whom one token keeps, and whom it hands out.
use Rattle.std.specs.Prelude.{⊤}
use Rattle.std.proofs.Common.{◌≡◌, ℕ, Bool, true, false, cond, MatchBool, List, [], ◌∷◌, Option, Some, refl, sym, ap, subst, ◌∙◌}
use Rattle.mono_task.specs.Owed.{Keeps}
use Rattle.mono_groups.specs.declared.waiters.Asked.{Asked}
use Rattle.mono_groups.specs.declared.waiters.Asked.TheVariants as asked
use Rattle.mono_groups.specs.declared.nodes.Token.{Token}
use Rattle.mono_groups.specs.Waiters.{tasks_of, Leaves, Stands}
use Rattle.mono_groups.specs.Nodes.{listed_by, owed_by, waiting_in, AsksNode, LeavesNode, PaysNode}
use Rattle.mono_groups.proofs.WaiterLemmas.{KeptIn, to_places, kept_tail, leaves_keeps, stands_keeps, leaves_none, no_task}

of_waiters : (me : ℕ) (x y : Token) → KeptIn me x.waiters.entries.items y.waiters.entries.items → Keeps listed_by me x y
of_waiters me x y kept = to_places me x.waiters.entries.items y.waiters.entries.items kept

module _ (x y : Token) (ticket : Option ℕ) (me : ℕ) where
  asks_if : (r : Asked ⊤) (c : Bool) → MatchBool c ((r ≡ asked.Got tt) × Leaves x.waiters ticket me y.waiters) (Stands x.waiters ticket me r y.waiters) → KeptIn me x.waiters.entries.items y.waiters.entries.items
  asks_if r true p = leaves_keeps x.waiters y.waiters ticket me p.1
  asks_if r false p = stands_keeps x.waiters y.waiters ticket me r p

  pub asks_keeps : (r : Asked ⊤) → AsksNode x ticket me r y → Keeps listed_by me x y
  asks_keeps r p = of_waiters me x y (asks_if r x.is_cancelled p.1)

  pub leaves_node_keeps : LeavesNode x ticket me y → Keeps listed_by me x y
  leaves_node_keeps p = of_waiters me x y (leaves_keeps x.waiters y.waiters ticket me p.1)

-- a token for which no task waits owes nothing
if_nil : (b : Bool) (ts : List ℕ) → ts ≡ [] → cond b ts [] ≡ []
if_nil true ts none = none
if_nil false ts none = refl

pub owed_nil : (x : Token) → waiting_in x ≡ [] → owed_by x ≡ []
owed_nil x none = if_nil x.is_cancelled (waiting_in x) none

-- a token that was not cancelled owes nothing
pub live_nil : (x : Token) → x.is_cancelled ≡ false → owed_by x ≡ []
live_nil x live = ap (λ b. cond b (waiting_in x) []) live

-- a cancelled token owes all a wake
pub cancelled_all : (x : Token) → x.is_cancelled ≡ true → owed_by x ≡ waiting_in x
cancelled_all x is = ap (λ b. cond b (waiting_in x) []) is

module _ (x y : Token) (ticket : Option ℕ) (me : ℕ) where
  leaves_nothing : Leaves x.waiters ticket me y.waiters → waiting_in x ≡ [] → owed_by y ≡ []
  leaves_nothing p none = owed_nil y (ap tasks_of (leaves_none x.waiters y.waiters ticket me p (no_task x.waiters.entries.items none)))

  asks_none_if : (r : Asked ⊤) (c : Bool) → x.is_cancelled ≡ c → y.is_cancelled ≡ x.is_cancelled → MatchBool c ((r ≡ asked.Got tt) × Leaves x.waiters ticket me y.waiters) (Stands x.waiters ticket me r y.waiters) → owed_by x ≡ [] → owed_by y ≡ []
  asks_none_if r true is same p none = leaves_nothing p.1 (sym (cancelled_all x is) ∙ none)
  asks_none_if r false is same p none = live_nil y (same ∙ is)

  -- a call on a token that owes nothing leaves it so
  pub asks_none : (r : Asked ⊤) → AsksNode x ticket me r y → owed_by x ≡ [] → owed_by y ≡ []
  asks_none r p = asks_none_if r x.is_cancelled refl p.0.1 p.1

  leaves_none_if : (c : Bool) → x.is_cancelled ≡ c → y.is_cancelled ≡ x.is_cancelled → Leaves x.waiters ticket me y.waiters → owed_by x ≡ [] → owed_by y ≡ []
  leaves_none_if true is same p none = leaves_nothing p (sym (cancelled_all x is) ∙ none)
  leaves_none_if false is same p none = live_nil y (same ∙ is)

  pub leaves_node_none : LeavesNode x ticket me y → owed_by x ≡ [] → owed_by y ≡ []
  leaves_node_none p = leaves_none_if x.is_cancelled refl p.0.1 p.1

-- the first task is handed out
pub pays_first : (x y : Token) (t : ℕ) → PaysNode x (Some t) y → owed_by x ≡ t ∷ owed_by y
pays_first x y t (same, is, (w, task, pops)) =
    cancelled_all x is ∙ ap tasks_of pops.0 ∙ ap (λ u. u ∷ waiting_in y) task ∙ ap (λ ts. t ∷ ts) (sym (cancelled_all y (same.1 ∙ is)))

pub pays_keeps : (x y : Token) (t : ℕ) → PaysNode x (Some t) y → Keeps listed_by t x y
pays_keeps x y t (same, is, (w, task, pops)) = of_waiters t x y (subst (λ u. KeptIn u x.waiters.entries.items y.waiters.entries.items) task (kept_tail w x.waiters.entries.items y.waiters.entries.items pops.0))
