-- Tokens after a call: which are cancelled, whom they keep and owe.
use Rattle.std.specs.Prelude.{⊤, Result, Ok, Err, slice_set}
use Rattle.std.specs.declared.alloc.AllocError.{AllocError}
use Rattle.std.proofs.Common.{◌≡◌, ◌<◌, ℕ, zero, suc, true, false, List, [], ◌∷◌, length, Option, Some, None, refl, sym, ap, subst, ◌∙◌, inl, inr, arith}
use Rattle.std.proofs.lemmas.List.{set-get_or}
use Rattle.mono_model.specs.Table.{Table, value_at, next_number, with_next, with_value, without}
use Rattle.mono_task.specs.Owed.{Keeps}
use Rattle.mono_sync.specs.Many.{LeadsEach, lists_each, tasks_in}
use Rattle.mono_sync.specs.ManyLeads as each
use Rattle.mono_sync.specs.KeyedCalls.{at_leads, at_keeps}
use Rattle.mono_groups.specs.declared.waiters.Asked.{Asked}
use Rattle.mono_groups.specs.declared.waiters.Asked.TheVariants as asked
use Rattle.mono_groups.specs.declared.nodes.Token.{Token}
use Rattle.mono_groups.specs.declared.tokens.RemoveError.{RemoveError}
use Rattle.mono_groups.specs.declared.tokens.RemoveError.TheVariants.{Missing, Live, InUse}
use Rattle.mono_groups.specs.Listed.{node_some}
use Rattle.mono_groups.specs.Nodes.{listed_by, owed_by, waiting_in, SameNode, AsksNode, LeavesNode, PaysNode}
use Rattle.mono_groups.specs.Tokens.{cancelled_in, is_cancelled, parent_in, follows, IsGrown, IsKept, Grows, grows_itself, Awaits, GivesUp, Makes, PaysAt, Removes}
use Rattle.mono_groups.proofs.TableLemmas.{pairs_set, at_next, some_next}
use Rattle.mono_groups.proofs.NodeLemmas.{asks_keeps, asks_none, leaves_node_keeps, leaves_node_none, owed_nil}

pub true-false : true ≡ false → ⊥
true-false e = cc

false-true : false ≡ true → ⊥
false-true e = cc

none-some : {X : Type 0} (x : X) → None ≡ Some x → ⊥
none-some x e = cc

cons-nil : (t : ℕ) (ts : List ℕ) → t ∷ ts ≡ [] → ⊥
cons-nil t ts e = cc

-- The token is cancelled if it was, and has the parent that it had, if any.
abbrev pub LikeBefore : Option Token → Option Token → Type 0
LikeBefore o n = (cancelled_in n ≡ cancelled_in o) × ((p : ℕ) → parent_in n ≡ Some p → parent_in o ≡ Some p)

pub like_itself : (o : Option Token) → LikeBefore o o
like_itself o = (refl, λ p is. is)

pub like_node : (x y : Token) → SameNode x y → LikeBefore (Some x) (Some y)
like_node x y same = (same.1, λ p is. sym same.0 ∙ is)

pub grown_like : (a b : Table Token) → ((j : ℕ) → LikeBefore (value_at a j) (value_at b j)) → IsGrown a → IsGrown b
grown_like a b like grown k p live at =
    let g = grown k p (sym (like k).0 ∙ live) ((like k).1 p at) in
    (g.0, (like p).0 ∙ g.1)

-- One token changes, and is cancelled if it was.
module _ (a : Table Token) (key from : ℕ) (x y : Token) (at : value_at a key ≡ Some x) (same : SameNode x y) where
  pub kept_with : (owed_by x ≡ [] → owed_by y ≡ []) → IsKept a from → IsKept (with_value a key y) from
  kept_with less kept = record {
    grown = grown_like a (with_value a key y) (pairs_set LikeBefore like_itself a key x (Some y) at (like_node x y same)) kept.grown;
    none = λ j below. pairs_set (λ o n. tasks_in owed_by o ≡ [] → tasks_in owed_by n ≡ []) (λ o p. p) a key x (Some y) at less j (kept.none j below);
  }

  pub leads_with : LeadsEach Grows waiting_in owed_by a (with_value a key y)
  leads_with = each.each_with Grows waiting_in owed_by grows_itself a key x y at (same.0, λ is. same.1 ∙ is)

module _ (a b : Table Token) (key : ℕ) (ticket : Option ℕ) (me : ℕ) where
  pub awaits_leads : (r : Asked ⊤) → Awaits key a ticket me r b → LeadsEach Grows waiting_in owed_by a b
  awaits_leads r call = at_leads (λ x y. AsksNode x ticket me r y) (r ≡ asked.Got tt) key a b call Grows waiting_in owed_by grows_itself (λ x y s. (s.0.0, λ is. s.0.1 ∙ is))

  pub awaits_keeps : (r : Asked ⊤) → Awaits key a ticket me r b → Keeps (lists_each listed_by) me a b
  awaits_keeps r call = at_keeps (λ x y. AsksNode x ticket me r y) (r ≡ asked.Got tt) key a b call listed_by me (λ x y s. asks_keeps x y ticket me r s)

  pub awaits_kept : (r : Asked ⊤) (from : ℕ) → Awaits key a ticket me r b → IsKept a from → IsKept b from
  awaits_kept r from call kept = elim call [
    | inl (x, y, at, does, is) ↦ subst (λ t. IsKept t from) (sym is) (kept_with a key from x y at does.0 (asks_none x y ticket me r does) kept)
    | inr (at, missing, is) ↦ subst (λ t. IsKept t from) (sym is) kept
  ]

  pub gives_up_leads : GivesUp key a ticket me b → LeadsEach Grows waiting_in owed_by a b
  gives_up_leads call = at_leads (λ x y. LeavesNode x ticket me y) ⊤ key a b call Grows waiting_in owed_by grows_itself (λ x y s. (s.0.0, λ is. s.0.1 ∙ is))

  pub gives_up_keeps : GivesUp key a ticket me b → Keeps (lists_each listed_by) me a b
  gives_up_keeps call = at_keeps (λ x y. LeavesNode x ticket me y) ⊤ key a b call listed_by me (λ x y s. leaves_node_keeps x y ticket me s)

  pub gives_up_kept : (from : ℕ) → GivesUp key a ticket me b → IsKept a from → IsKept b from
  gives_up_kept from call kept = elim call [
    | inl (x, y, at, does, is) ↦ subst (λ t. IsKept t from) (sym is) (kept_with a key from x y at does.0 (leaves_node_none x y ticket me does) kept)
    | inr (at, missing, is) ↦ subst (λ t. IsKept t from) (sym is) kept
  ]

-- a token that was not cancelled has a place
live_some : (a : Table Token) (k : ℕ) (o : Option Token) → value_at a k ≡ o → is_cancelled a k ≡ false → (x : Token) × (value_at a k ≡ Some x) × (x.is_cancelled ≡ false)
live_some a k None at live = absurd (true-false (sym (ap cancelled_in at) ∙ live))
live_some a k (Some x) at live = (x, at, sym (ap cancelled_in at) ∙ live)

live_below : (a : Table Token) (k : ℕ) → is_cancelled a k ≡ false → k < length a
live_below [] k live = absurd (true-false live)
live_below (z ∷ zs) zero live = omega arith
live_below (z ∷ zs) (suc k) live =
    let rest : k < length zs = live_below zs k live in
    omega (arith, rest)

pub key_below : (a : Table Token) (k : ℕ) → is_cancelled a k ≡ false → k < next_number a
key_below a k live = live_below a k live

pub live_is_some : (a : Table Token) (k : ℕ) → is_cancelled a k ≡ false → (x : Token) × (value_at a k ≡ Some x) × (x.is_cancelled ≡ false)
live_is_some a k live = live_some a k (value_at a k) refl live

-- A token is made.
module _ (a : Table Token) (x : Token) (parent : Option ℕ) (below : x.parent ≡ parent) (starts : x.is_cancelled ≡ follows a parent) where
  live_next : (p : ℕ) → is_cancelled a p ≡ false → is_cancelled (with_next a x) p ≡ false
  live_next p live =
      let s = live_is_some a p live in
      ap cancelled_in (some_next a x s.0 p s.1) ∙ s.2

  grown_next : IsGrown a → IsGrown (with_next a x)
  grown_next grown k p live at = elim (at_next a x k) [
    | inl same ↦ let g = grown k p (sym (ap cancelled_in same) ∙ live) (sym (ap parent_in same) ∙ at) in (g.0, live_next p g.1)
    | inr here ↦
        let is : parent ≡ Some p = sym below ∙ sym (ap parent_in here.1) ∙ at in
        let alive : is_cancelled a p ≡ false = sym (ap (follows a) is) ∙ sym starts ∙ sym (ap cancelled_in here.1) ∙ live in
        (subst (λ n. p < n) (sym here.0) (live_below a p alive), live_next p alive)
  ]

  pub kept_next : (from : ℕ) → waiting_in x ≡ [] → IsKept a from → IsKept (with_next a x) from
  kept_next from none kept = record {
    grown = grown_next kept.grown;
    none = λ j less. elim (at_next a x j) [
      | inl same ↦ ap (tasks_in owed_by) same ∙ kept.none j less
      | inr here ↦ ap (tasks_in owed_by) here.1 ∙ owed_nil x none
    ];
  }

-- A cancelled token for which no task waits is removed.
module _ (a : Table Token) (key : ℕ) (x : Token) (at : value_at a key ≡ Some x) (is : x.is_cancelled ≡ true) where
  no_parent : (p : ℕ) → parent_in None ≡ Some p → parent_in (Some x) ≡ Some p
  no_parent p some = absurd (none-some p some)

  pub kept_without : (from : ℕ) → IsKept a from → IsKept (without a key) from
  kept_without from kept = record {
    grown = grown_like a (without a key) (pairs_set LikeBefore like_itself a key x None at (sym is, no_parent)) kept.grown;
    none = λ j below. pairs_set (λ o n. tasks_in owed_by o ≡ [] → tasks_in owed_by n ≡ []) (λ o p. p) a key x None at (λ p. refl) j (kept.none j below);
  }

  pub leads_without : waiting_in x ≡ [] → LeadsEach Grows waiting_in owed_by a (without a key)
  leads_without none = each.each_without Grows waiting_in owed_by grows_itself a key x at (none, owed_nil x none)

  pub keeps_without : waiting_in x ≡ [] → (me : ℕ) → Keeps (lists_each listed_by) me a (without a key)
  keeps_without none me = each.keeps_without listed_by waiting_in node_some me a key x at none

-- A token is made, or not.
module _ (a b : Table Token) (parent : Option ℕ) where
  pub makes_kept : (r : Result ℕ AllocError) (from : ℕ) → Makes a parent r b → IsKept a from → IsKept b from
  makes_kept (Ok k) from (at, (x, below, starts, none, is)) kept = subst (λ t. IsKept t from) (sym is) (kept_next a x parent below starts from none kept)
  makes_kept (Err e) from is kept = subst (λ t. IsKept t from) (sym is) kept

  pub makes_leads : (r : Result ℕ AllocError) → Makes a parent r b → LeadsEach Grows waiting_in owed_by a b
  makes_leads (Ok k) (at, (x, below, starts, none, is)) = subst (LeadsEach Grows waiting_in owed_by a) (sym is) (each.each_next Grows waiting_in owed_by grows_itself a x)
  makes_leads (Err e) is = subst (LeadsEach Grows waiting_in owed_by a) (sym is) (each.each_itself Grows waiting_in owed_by grows_itself a)

  pub makes_keeps : (r : Result ℕ AllocError) (me : ℕ) → Makes a parent r b → Keeps (lists_each listed_by) me a b
  makes_keeps (Ok k) me (at, (x, below, starts, none, is)) = subst (Keeps (lists_each listed_by) me a) (sym is) (each.keeps_next listed_by me a x)
  makes_keeps (Err e) me is = subst (Keeps (lists_each listed_by) me a) (sym is) (λ p t listed. inl listed)

-- A token is removed, or not.
module _ (a b : Table Token) (key : ℕ) where
  pub removes_kept : (r : Result ⊤ RemoveError) (from : ℕ) → Removes a key r b → IsKept a from → IsKept b from
  removes_kept (Ok done) from ((x, at, is, none), gone) kept = subst (λ t. IsKept t from) (sym gone) (kept_without a key x at is from kept)
  removes_kept (Err Missing) from p kept = subst (λ t. IsKept t from) (sym p.1) kept
  removes_kept (Err Live) from p kept = subst (λ t. IsKept t from) (sym p.1) kept
  removes_kept (Err InUse) from p kept = subst (λ t. IsKept t from) (sym p.1) kept

  same_leads : b ≡ a → LeadsEach Grows waiting_in owed_by a b
  same_leads is = subst (LeadsEach Grows waiting_in owed_by a) (sym is) (each.each_itself Grows waiting_in owed_by grows_itself a)

  pub removes_leads : (r : Result ⊤ RemoveError) → Removes a key r b → LeadsEach Grows waiting_in owed_by a b
  removes_leads (Ok done) ((x, at, is, none), gone) = subst (LeadsEach Grows waiting_in owed_by a) (sym gone) (leads_without a key x at is none)
  removes_leads (Err Missing) p = same_leads p.1
  removes_leads (Err Live) p = same_leads p.1
  removes_leads (Err InUse) p = same_leads p.1

  same_keeps : (me : ℕ) → b ≡ a → Keeps (lists_each listed_by) me a b
  same_keeps me is = subst (Keeps (lists_each listed_by) me a) (sym is) (λ p t listed. inl listed)

  pub removes_keeps : (r : Result ⊤ RemoveError) (me : ℕ) → Removes a key r b → Keeps (lists_each listed_by) me a b
  removes_keeps (Ok done) me ((x, at, is, none), gone) = subst (Keeps (lists_each listed_by) me a) (sym gone) (keeps_without a key x at is none me)
  removes_keeps (Err Missing) me p = same_keeps me p.1
  removes_keeps (Err Live) me p = same_keeps me p.1
  removes_keeps (Err InUse) me p = same_keeps me p.1

-- One token pays what it owes, or owes nothing.
pub pays_at : (a : Table Token) (key : ℕ) (x y : Token) (r : Option ℕ) → value_at a key ≡ Some x → PaysNode x r y → PaysAt key a r (with_value a key y)
pays_at a key x y None at p = (ap (tasks_in owed_by) at ∙ p.0, ap (with_value a key) p.1 ∙ ap (slice_set a key) (sym at) ∙ set-get_or a key None)
pays_at a key x y (Some t) at p = (x, y, at, p, refl)
