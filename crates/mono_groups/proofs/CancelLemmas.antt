-- A token and all below it are cancelled, in the order of their keys.
use Rattle.std.proofs.Common.{◌≡◌, ◌≢◌, ◌⊎◌, ◌<◌, ◌≤◌, ◌+◌, ℕ, suc, Bool, true, false, MatchBool, List, [], ◌∷◌, length, Option, Some, None, refl, sym, ap, subst, ◌∙◌, inl, inr, arith}
use Rattle.std.proofs.lemmas.Bool.{cases_lt, cases_eq}
use Rattle.std.proofs.lemmas.List.{get_or-set_other, get_or_past, length-set}
use Rattle.mono_model.specs.Table.{Table, value_at, next_number, with_value}
use Rattle.mono_task.specs.Owed.{Keeps}
use Rattle.mono_sync.specs.Many.{LeadsPart, LeadsEach, NoneBelow, lists_in, lists_each, tasks_in}
use Rattle.mono_groups.specs.declared.nodes.Token.{Token}
use Rattle.mono_groups.specs.Nodes.{listed_by, owed_by, waiting_in}
use Rattle.mono_groups.specs.Tokens.{cancelled_in, is_cancelled, parent_in, parent_of, follows, Climbs, IsBelow, IsGrown, IsKept, Grows, CancelsIf, Cancels, Marks, Follows}
use Rattle.mono_groups.specs.Waiters.{lists_at, tasks_of}
use Rattle.mono_groups.proofs.TableLemmas.{value_set}
use Rattle.mono_groups.proofs.NodeLemmas.{owed_nil, live_nil, cancelled_all}
use Rattle.mono_groups.proofs.TokenLemmas.{true-false}

false-true : false ≡ true → ⊥
false-true e = cc

none-some : {X : Type 0} (x : X) → None ≡ Some x → ⊥
none-some x e = cc

-- keys rise along a chain of tokens that were not cancelled
pub climbs_up : (a : Table Token) → IsGrown a → (top : ℕ) (ps : List ℕ) (k : ℕ) → is_cancelled a k ≡ false → Climbs a top ps k → top ≤ k
climbs_up a grown top [] k live is = omega (arith, is)
climbs_up a grown top (p ∷ ps) k live (at, rest) =
    let g = grown k p live at in
    let less : p < k = g.0 in
    let above : top ≤ p = climbs_up a grown top ps p g.1 rest in
    omega (arith, less, above)

-- a token that stays as it is
by_live : (b : Bool) (P : Type 0) → (b ≡ false → P → ⊥) → (b ≡ true) ⊎ P → b ≡ true
by_live true P never is = refl
by_live false P never (inl is) = is
by_live false P never (inr p) = absurd (never refl p)

pub stays_if : (P : Type 0) (o : Option Token) → ((x : Token) → o ≡ Some x → x.is_cancelled ≡ false → P → ⊥) → CancelsIf P o o
stays_if P None never = refl
stays_if P (Some x) never = (refl, refl, by_live x.is_cancelled P (never x refl), λ is. inl is)

-- The tokens before `child` are done, and the others are as before.
pub record Done (key child : ℕ) (a b : Table Token) : Type 0 where
  pub keys : next_number b ≡ next_number a
  pub done : (k : ℕ) → k < child → CancelsIf (IsBelow a key k) (value_at a k) (value_at b k)
  pub rest : (k : ℕ) → child ≤ k → value_at b k ≡ value_at a k

module _ (a : Table Token) (grown : IsGrown a) (key : ℕ) where
  not_below : (k : ℕ) (x : Token) → value_at a k ≡ Some x → x.is_cancelled ≡ false → k < key → IsBelow a key k → ⊥
  not_below k x at live less (ps, climbs) =
      let above : key ≤ k = climbs_up a grown key ps k (ap cancelled_in at ∙ live) climbs in
      omega (arith, less, above)

  marked : (x : Token) (k : ℕ) (o n : Option Token) → o ≡ Some x → n ≡ Some (record x { is_cancelled = true }) → k ≡ key → CancelsIf (IsBelow a key k) o n
  marked x k o n at is here = subst (λ m. CancelsIf (IsBelow a key k) m n) (sym at) (subst (λ m. CancelsIf (IsBelow a key k) (Some x) m) (sym is) (refl, refl, λ any. refl, λ any. inr ([], here)))

  -- the first token is cancelled
  pub first_done : (b : Table Token) → Marks key a b → Done key (key + 1) a b
  first_done b (x, at, is) = record {
    keys = ap next_number is ∙ length-set a key (Some (record x { is_cancelled = true }));
    done = λ k less. elim (cases_eq k key) [
      | inl here ↦ marked x k (value_at a k) (value_at b k) (ap (value_at a) here ∙ at) (ap (λ t. value_at t k) is ∙ ap (value_at (with_value a key (record x { is_cancelled = true }))) here ∙ value_set a key x (Some (record x { is_cancelled = true })) at) here
      | inr other ↦ subst (CancelsIf (IsBelow a key k) (value_at a k)) (sym (ap (λ t. value_at t k) is ∙ get_or-set_other a key k (Some (record x { is_cancelled = true })) None other))
          (stays_if (IsBelow a key k) (value_at a k) (λ y here live below. not_below k y here live (omega (arith, less, other)) below))
    ];
    rest = λ k more. ap (λ t. value_at t k) is ∙ get_or-set_other a key k (Some (record x { is_cancelled = true })) None (λ same. omega (arith, more, same));
  }

  -- a token below one that was done
  step_up : (b : Table Token) (child p : ℕ) → Done key child a b → p < child → is_cancelled a p ≡ false → is_cancelled b p ≡ true → IsBelow a key p
  step_up b child p d less live is = by_value (value_at a p) (value_at b p) refl (d.done p less) is
    where
      by_value : (o n : Option Token) → value_at a p ≡ o → CancelsIf (IsBelow a key p) o n → cancelled_in n ≡ true → IsBelow a key p
      by_value None n at c is = absurd (true-false (sym (ap cancelled_in at) ∙ live))
      by_value (Some x) None at c is = absurd c
      by_value (Some x) (Some y) at c is = elim (c.3 is) [ inl was ↦ absurd (true-false (sym was ∙ sym (ap cancelled_in at) ∙ live)) | inr below ↦ below ]

  -- a token below one that is below
  step_down : (b : Table Token) (child p : ℕ) → Done key child a b → p < child → is_cancelled a p ≡ false → IsBelow a key p → is_cancelled b p ≡ true
  step_down b child p d less live below = by_value (value_at a p) (value_at b p) refl (d.done p less)
    where
      by_value : (o n : Option Token) → value_at a p ≡ o → CancelsIf (IsBelow a key p) o n → cancelled_in n ≡ true
      by_value None n at c = absurd (true-false (sym (ap cancelled_in at) ∙ live))
      by_value (Some x) None at c = absurd c
      by_value (Some x) (Some y) at c = c.2 (inr below)

  module _ (b : Table Token) (child : ℕ) (d : Done key child a b) (after : key < child) where
    -- the parent was not cancelled, so the token is not below
    stays_not : follows b (parent_of b child) ≡ false → (x : Token) → value_at a child ≡ Some x → x.is_cancelled ≡ false → IsBelow a key child → ⊥
    stays_not never x at live ([], here) = omega (arith, after, here)
    stays_not never x at live (p ∷ ps, (has, climbs)) =
        let g = grown child p (ap cancelled_in at ∙ live) has in
        let parent : parent_of b child ≡ Some p = ap parent_in (d.rest child (omega arith)) ∙ has in
        true-false (sym (step_down b child p d g.0 g.1 (ps, climbs)) ∙ sym (ap (follows b) parent) ∙ never)

    parent_below : (o : Option ℕ) → parent_of a child ≡ o → follows b o ≡ true → is_cancelled a child ≡ false → IsBelow a key child
    parent_below None at holds live = absurd (false-true holds)
    parent_below (Some p) at holds live =
        let g = grown child p live at in
        let below = step_up b child p d g.0 g.1 holds in
        (p ∷ below.0, (at, below.1))

    goes : (x : Token) (c : Bool) → x.is_cancelled ≡ c → value_at a child ≡ Some x → follows b (parent_of b child) ≡ true → (x.is_cancelled ≡ true) ⊎ IsBelow a key child
    goes x true is at holds = inl is
    goes x false is at holds = inr (parent_below (parent_of a child) refl (ap (follows b) (sym (ap parent_in (d.rest child (omega arith)))) ∙ holds) (ap cancelled_in at ∙ is))

    more_done : (n : Table Token) → ((k : ℕ) → k ≢ child → value_at n k ≡ value_at b k) → next_number n ≡ next_number b → CancelsIf (IsBelow a key child) (value_at a child) (value_at n child) → Done key (child + 1) a n
    more_done n others keys here = record {
      keys = keys ∙ d.keys;
      done = λ k less. elim (cases_eq k child) [
        | inl same ↦ subst (λ j. CancelsIf (IsBelow a key j) (value_at a j) (value_at n j)) (sym same) here
        | inr other ↦ subst (CancelsIf (IsBelow a key k) (value_at a k)) (sym (others k other)) (d.done k (omega (arith, less, other)))
      ];
      rest = λ k more. others k (λ same. omega (arith, more, same)) ∙ d.rest k (omega (arith, more));
    }

    step_if : (n : Table Token) (c : Bool) → follows b (parent_of b child) ≡ c → MatchBool c (Marks child b n) (n ≡ b) → Done key (child + 1) a n
    step_if n true holds (x, at, is) =
        let was : value_at a child ≡ Some x = sym (d.rest child (omega arith)) ∙ at in
        more_done n (λ k other. ap (λ t. value_at t k) is ∙ get_or-set_other b child k (Some (record x { is_cancelled = true })) None other)
        (ap next_number is ∙ length-set b child (Some (record x { is_cancelled = true })))
        (subst (λ m. CancelsIf (IsBelow a key child) m (value_at n child)) (sym was)
        (subst (CancelsIf (IsBelow a key child) (Some x)) (sym (ap (λ t. value_at t child) is ∙ value_set b child x (Some (record x { is_cancelled = true })) at))
        (refl, refl, λ any. refl, λ any. goes x x.is_cancelled refl was holds)))
    step_if n false never is =
        more_done n (λ k other. ap (λ t. value_at t k) is) (ap next_number is)
        (subst (CancelsIf (IsBelow a key child) (value_at a child)) (sym (ap (λ t. value_at t child) is ∙ d.rest child (omega arith)))
        (stays_if (IsBelow a key child) (value_at a child) (stays_not never)))

    -- the next token is cancelled if its parent was
    pub next_done : (n : Table Token) → Follows child b n → Done key (child + 1) a n
    next_done n call = step_if n (follows b (parent_of b child)) refl call

  none_past : (P : Type 0) (o n : Option Token) → o ≡ None → n ≡ None → CancelsIf P o n
  none_past P o n never none = subst (λ m. CancelsIf P m n) (sym never) none

  -- all tokens are done
  pub all_done : (b : Table Token) (child : ℕ) → Done key child a b → next_number a ≤ child → Cancels key a b
  all_done b child d past = record {
    keys = d.keys;
    each = λ k. elim (cases_lt k child) [
      | inl less ↦ d.done k less
      | inr more ↦
          let none : value_at a k ≡ None = get_or_past a k None (omega (arith, past, more)) in
          none_past (IsBelow a key k) (value_at a k) (value_at b k) none (d.rest k more ∙ none)
    ];
  }

  -- a token that was cancelled before leaves all as it is
  pub nothing_done : is_cancelled a key ≡ true → Cancels key a a
  nothing_done is = record { keys = refl; each = λ k. stays_if (IsBelow a key k) (value_at a k) (λ x at live below. live_chain below.0 k (ap cancelled_in at ∙ live) below.1) }
    where
      live_chain : (ps : List ℕ) (k : ℕ) → is_cancelled a k ≡ false → Climbs a key ps k → ⊥
      live_chain [] k live here = true-false (sym is ∙ sym (ap (is_cancelled a) here) ∙ live)
      live_chain (p ∷ ps) k live (at, rest) = live_chain ps p (grown k p live at).1 rest

module _ (a b : Table Token) (key : ℕ) (call : Cancels key a b) where
  leads_if : (P : Type 0) (o n : Option Token) → CancelsIf P o n → LeadsPart Grows waiting_in owed_by o n
  leads_if P None n c = subst (LeadsPart Grows waiting_in owed_by None) (sym c) tt
  leads_if P (Some x) None c = absurd c
  leads_if P (Some x) (Some y) c = (c.0, λ is. c.2 (inl is))

  lists_if : (P : Type 0) (q : List ℕ) (t : ℕ) (o n : Option Token) → CancelsIf P o n → lists_in listed_by o q t ≡ true → lists_in listed_by n q t ≡ true
  lists_if P q t None n c is = absurd (false-true is)
  lists_if P q t (Some x) None c is = absurd c
  lists_if P q t (Some x) (Some y) c is = ap (λ w. lists_at w.entries.items q t) c.1 ∙ is

  pub cancels_keeps : (me : ℕ) → Keeps (lists_each listed_by) me a b
  cancels_keeps me [] t is = absurd (false-true is)
  cancels_keeps me (k ∷ q) t is = inl (lists_if (IsBelow a key k) q t (value_at a k) (value_at b k) (call.each k) is)

  pub cancels_leads : LeadsEach Grows waiting_in owed_by a b
  cancels_leads = each_of a b (omega (arith, call.keys)) (λ k. leads_if (IsBelow a key k) (value_at a k) (value_at b k) (call.each k))
    where
      each_of : (xs ys : Table Token) → length xs ≤ length ys → ((k : ℕ) → LeadsPart Grows waiting_in owed_by (value_at xs k) (value_at ys k)) → LeadsEach Grows waiting_in owed_by xs ys
      each_of [] ys less f = tt
      each_of (x ∷ xs) [] less f = absurd (omega (arith, less))
      each_of (x ∷ xs) (y ∷ ys) less f = (f 0, each_of xs ys (omega (arith, less)) (λ k. f (suc k)))

  module _ (grown : IsGrown a) where
    -- a token that is not cancelled afterwards
    live_before : (k : ℕ) (o n : Option Token) → CancelsIf (IsBelow a key k) o n → cancelled_in n ≡ false → (cancelled_in o ≡ false) × (parent_in n ≡ parent_in o) × (IsBelow a key k → ⊥)
    live_before k None n c live = absurd (true-false (sym (ap cancelled_in c) ∙ live))
    live_before k (Some x) None c live = absurd c
    live_before k (Some x) (Some y) c live = (not_true x.is_cancelled (λ is. true-false (sym (c.2 (inl is)) ∙ live)), c.0, λ below. true-false (sym (c.2 (inr below)) ∙ live))
      where
        not_true : (v : Bool) → (v ≡ true → ⊥) → v ≡ false
        not_true true never = absurd (never refl)
        not_true false never = refl

    stays_live : (p : ℕ) (o n : Option Token) → CancelsIf (IsBelow a key p) o n → cancelled_in o ≡ false → (IsBelow a key p → ⊥) → cancelled_in n ≡ false
    stays_live p None n c live never = absurd (true-false live)
    stays_live p (Some x) None c live never = absurd c
    stays_live p (Some x) (Some y) c live never = not_true y.is_cancelled (λ is. elim (c.3 is) [ inl was ↦ true-false (sym was ∙ live) | inr below ↦ never below ])
      where
        not_true : (v : Bool) → (v ≡ true → ⊥) → v ≡ false
        not_true true never = absurd (never refl)
        not_true false never = refl

    cancels_grown : IsGrown b
    cancels_grown k p live at =
        let before = live_before k (value_at a k) (value_at b k) (call.each k) live in
        let has : parent_of a k ≡ Some p = sym before.1 ∙ at in
        let g = grown k p before.0 has in
        (g.0, stays_live p (value_at a p) (value_at b p) (call.each p) g.1 (λ below. before.2 (p ∷ below.0, (has, below.1))))

    module _ (from next : ℕ) (none : NoneBelow owed_by from a) (less : next ≤ from) (before : next ≤ key) where
      owes_if : (j : ℕ) → j < next → (o n : Option Token) → value_at a j ≡ o → CancelsIf (IsBelow a key j) o n → tasks_in owed_by o ≡ [] → tasks_in owed_by n ≡ []
      owes_if j below None n at c is = ap (tasks_in owed_by) c
      owes_if j below (Some x) None at c is = refl
      owes_if j below (Some x) (Some y) at c is = by_old x.is_cancelled refl
        where
          by_new : x.is_cancelled ≡ false → (v : Bool) → y.is_cancelled ≡ v → owed_by y ≡ []
          by_new live false new = live_nil y new
          by_new live true new = elim (c.3 new) [
            | inl was ↦ absurd (true-false (sym was ∙ live))
            | inr under ↦
                let above : key ≤ j = climbs_up a grown key under.0 j (ap cancelled_in at ∙ live) under.1 in
                absurd (omega (arith, above, before, below))
          ]

          by_old : (v : Bool) → x.is_cancelled ≡ v → owed_by y ≡ []
          by_old true old = owed_nil y (ap (λ w. tasks_of w.entries.items) c.1 ∙ sym (cancelled_all x old) ∙ is)
          by_old false old = by_new old y.is_cancelled refl

      pub cancels_kept : IsKept b next
      cancels_kept = record {
        grown = cancels_grown;
        none = λ j below. owes_if j below (value_at a j) (value_at b j) refl (call.each j) (none j (omega (arith, below, less)));
      }
