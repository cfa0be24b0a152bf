-- One part is led and keeps its tasks, and so do all parts under keys.
use Rattle.std.specs.Prelude.{Bool, true, false, ◌≡◌, ◌⊎◌, ◌==◌, ◌||◌, ℕ, zero, suc, List, [], ◌∷◌, ◌++◌, Option, Some, None, refl}
use Rattle.std.proofs.Common.{inl, inr, ap, subst, sym, ◌∙◌}
use Rattle.std.specs.List.{list_any}
use Rattle.mono_model.specs.Table.{Table, value_at, with_next, with_value, without}
use Rattle.mono_task.specs.Owed.{Keeps}
use Rattle.mono_sync.specs.Many.{LeadsPart, LeadsEach, lists_in, lists_each, tasks_in, tasks_each, IsIdle}

false-true : false ≡ true → ⊥
false-true e = cc

none-some : {X : Type 0} (x : X) → None ≡ Some x → ⊥
none-some x e = cc

none-of : {X : Type 0} (x : Option X) (y : X) → x ≡ None → x ≡ Some y → ⊥
none-of x y e f = cc

same_some : {X : Type 0} (x y : X) → Some x ≡ Some y → x ≡ y
same_some x y e = cc

no_more : (ts us : List ℕ) → ts ++ us ≡ [] → (ts ≡ []) × (us ≡ [])
no_more [] us e = (refl, e)
no_more (t ∷ ts) us e = cc

module _ {X : Type 0} (leads : X → X → Type 0) (waiting owes : X → List ℕ) where
  module _ (itself : (x : X) → leads x x) where
    pub part_itself : (x : Option X) → LeadsPart leads waiting owes x x
    part_itself None = tt
    part_itself (Some x) = itself x

    pub each_itself : (xs : Table X) → LeadsEach leads waiting owes xs xs
    each_itself [] = tt
    each_itself (x ∷ xs) = (part_itself x, each_itself xs)

    -- a part that is added leaves the others
    pub each_next : (xs : Table X) (x : X) → LeadsEach leads waiting owes xs (with_next xs x)
    each_next [] x = tt
    each_next (z ∷ zs) x = (part_itself z, each_next zs x)

    -- one part is led
    pub each_with : (xs : Table X) (k : ℕ) (x y : X) → value_at xs k ≡ Some x → leads x y → LeadsEach leads waiting owes xs (with_value xs k y)
    each_with [] k x y at led = tt
    each_with (None ∷ zs) zero x y at led = absurd (none-some x at)
    each_with (Some z ∷ zs) zero x y at led = (subst (λ w. leads w y) (sym (same_some z x at)) led, each_itself zs)
    each_with (z ∷ zs) (suc k) x y at led = (part_itself z, each_with zs k x y at led)

    -- an idle part is removed
    pub each_without : (xs : Table X) (k : ℕ) (x : X) → value_at xs k ≡ Some x → IsIdle waiting owes x → LeadsEach leads waiting owes xs (without xs k)
    each_without [] k x at idle = tt
    each_without (None ∷ zs) zero x at idle = absurd (none-some x at)
    each_without (Some z ∷ zs) zero x at idle = ((z, itself z, subst (IsIdle waiting owes) (sym (same_some z x at)) idle), each_itself zs)
    each_without (z ∷ zs) (suc k) x at idle = (part_itself z, each_without zs k x at idle)

  module _ (on : (x y z : X) → leads x y → leads y z → leads x z) where
    part_on : (x y z : Option X) → LeadsPart leads waiting owes x y → LeadsPart leads waiting owes y z → LeadsPart leads waiting owes x z
    part_on None None z p q = q
    part_on None (Some y) z p q = absurd p
    part_on (Some x) None None p q = p
    part_on (Some x) None (Some z) p q = absurd q
    part_on (Some x) (Some y) None p q = (q.0, on x y q.0 p q.1, q.2)
    part_on (Some x) (Some y) (Some z) p q = on x y z p q

    pub each_on : (xs ys zs : Table X) → LeadsEach leads waiting owes xs ys → LeadsEach leads waiting owes ys zs → LeadsEach leads waiting owes xs zs
    each_on [] ys zs p q = tt
    each_on (x ∷ xs) [] zs p q = absurd p
    each_on (x ∷ xs) (y ∷ ys) [] p q = absurd q
    each_on (x ∷ xs) (y ∷ ys) (z ∷ zs) p q = (part_on x y z p.0 q.0, each_on xs ys zs p.1 q.1)

or_more : (b c d : Bool) → (c ≡ true → d ≡ true) → b || c ≡ true → b || d ≡ true
or_more true c d more is = refl
or_more false c d more is = more is

or_true : (b c : Bool) → c ≡ true → b || c ≡ true
or_true true c is = refl
or_true false c is = is

-- a task of the first list is in both
any_first : (ts us : List ℕ) (t : ℕ) → list_any (λ u. u == t) ts ≡ true → list_any (λ u. u == t) (ts ++ us) ≡ true
any_first [] us t is = absurd (false-true is)
any_first (u ∷ ts) us t is = or_more (u == t) (list_any (λ v. v == t) ts) (list_any (λ v. v == t) (ts ++ us)) (any_first ts us t) is

-- a task of the second list is in both
any_second : (ts us : List ℕ) (t : ℕ) → list_any (λ u. u == t) us ≡ true → list_any (λ u. u == t) (ts ++ us) ≡ true
any_second [] us t is = is
any_second (u ∷ ts) us t is = or_true (u == t) (list_any (λ v. v == t) (ts ++ us)) (any_second ts us t is)

module _ {X : Type 0} (lists : X → List ℕ → ℕ → Bool) where
  module _ (waiting : X → List ℕ) (some : (x : X) (p : List ℕ) (t : ℕ) → lists x p t ≡ true → list_any (λ u. u == t) (waiting x) ≡ true) where
    part_some : (x : Option X) (p : List ℕ) (t : ℕ) → lists_in lists x p t ≡ true → list_any (λ u. u == t) (tasks_in waiting x) ≡ true
    part_some None p t is = absurd (false-true is)
    part_some (Some x) p t is = some x p t is

    under_some : (xs : Table X) (k : ℕ) (p : List ℕ) (t : ℕ) → lists_in lists (value_at xs k) p t ≡ true → list_any (λ u. u == t) (tasks_each waiting xs) ≡ true
    under_some [] k p t is = absurd (false-true is)
    under_some (x ∷ xs) zero p t is = any_first (tasks_in waiting x) (tasks_each waiting xs) t (part_some x p t is)
    under_some (x ∷ xs) (suc k) p t is = any_second (tasks_in waiting x) (tasks_each waiting xs) t (under_some xs k p t is)

    pub each_some : (xs : Table X) (p : List ℕ) (t : ℕ) → lists_each lists xs p t ≡ true → list_any (λ u. u == t) (tasks_each waiting xs) ≡ true
    each_some xs [] t is = absurd (false-true is)
    each_some xs (k ∷ p) t is = under_some xs k p t is

  -- one part keeps its tasks
  module _ (me : ℕ) (x y : X) (kept : Keeps lists me x y) where
    under_with : (xs : Table X) (k : ℕ) → value_at xs k ≡ Some x → (j : ℕ) (p : List ℕ) (t : ℕ) → lists_in lists (value_at xs j) p t ≡ true → (lists_in lists (value_at (with_value xs k y) j) p t ≡ true) ⊎ (t ≡ me)
    under_with [] k at j p t is = absurd (false-true is)
    under_with (z ∷ zs) zero at zero p t is = kept p t (ap (λ w. lists_in lists w p t) (sym at) ∙ is)
    under_with (z ∷ zs) zero at (suc j) p t is = inl is
    under_with (z ∷ zs) (suc k) at zero p t is = inl is
    under_with (z ∷ zs) (suc k) at (suc j) p t is = under_with zs k at j p t is

    pub keeps_with : (xs : Table X) (k : ℕ) → value_at xs k ≡ Some x → Keeps (lists_each lists) me xs (with_value xs k y)
    keeps_with xs k at [] t is = absurd (false-true is)
    keeps_with xs k at (j ∷ p) t is = under_with xs k at j p t is

  -- a part that is added leaves the others
  under_next : (xs : Table X) (x : X) (j : ℕ) (p : List ℕ) (t : ℕ) → lists_in lists (value_at xs j) p t ≡ true → lists_in lists (value_at (with_next xs x) j) p t ≡ true
  under_next [] x j p t is = absurd (false-true is)
  under_next (z ∷ zs) x zero p t is = is
  under_next (z ∷ zs) x (suc j) p t is = under_next zs x j p t is

  pub keeps_next : (me : ℕ) (xs : Table X) (x : X) → Keeps (lists_each lists) me xs (with_next xs x)
  keeps_next me xs x [] t is = absurd (false-true is)
  keeps_next me xs x (j ∷ p) t is = inl (under_next xs x j p t is)

  -- a part in which no task waits is removed
  module _ (waiting : X → List ℕ) (some : (x : X) (p : List ℕ) (t : ℕ) → lists x p t ≡ true → list_any (λ u. u == t) (waiting x) ≡ true) where
    lists_none : (x : X) (p : List ℕ) (t : ℕ) → waiting x ≡ [] → lists x p t ≡ true → ⊥
    lists_none x p t none is = false-true (ap (list_any (λ u. u == t)) (sym none) ∙ some x p t is)

    under_without : (xs : Table X) (k : ℕ) (x : X) → value_at xs k ≡ Some x → waiting x ≡ [] → (j : ℕ) (p : List ℕ) (t : ℕ) → lists_in lists (value_at xs j) p t ≡ true → lists_in lists (value_at (without xs k) j) p t ≡ true
    under_without [] k x at none j p t is = absurd (false-true is)
    under_without (z ∷ zs) zero x at none zero p t is = absurd (lists_none x p t none (ap (λ w. lists_in lists w p t) (sym at) ∙ is))
    under_without (z ∷ zs) zero x at none (suc j) p t is = is
    under_without (z ∷ zs) (suc k) x at none zero p t is = is
    under_without (z ∷ zs) (suc k) x at none (suc j) p t is = under_without zs k x at none j p t is

    pub keeps_without : (me : ℕ) (xs : Table X) (k : ℕ) (x : X) → value_at xs k ≡ Some x → waiting x ≡ [] → Keeps (lists_each lists) me xs (without xs k)
    keeps_without me xs k x at none [] t is = absurd (false-true is)
    keeps_without me xs k x at none (j ∷ p) t is = inl (under_without xs k x at none j p t is)

  -- whom a part lists, the whole lists under its key
  pub each_lists : (xs : Table X) (k : ℕ) (x : X) (p : List ℕ) (t : ℕ) → value_at xs k ≡ Some x → lists x p t ≡ true → lists_each lists xs (k ∷ p) t ≡ true
  each_lists xs k x p t at is = ap (λ w. lists_in lists w p t) at ∙ is

-- the whole owes nothing only if each part owes nothing
module _ {X : Type 0} (owes : X → List ℕ) where
  owes_part : (xs : Table X) (k : ℕ) → tasks_each owes xs ≡ [] → tasks_in owes (value_at xs k) ≡ []
  owes_part [] k none = refl
  owes_part (z ∷ zs) zero none = (no_more (tasks_in owes z) (tasks_each owes zs) none).0
  owes_part (z ∷ zs) (suc k) none = owes_part zs k (no_more (tasks_in owes z) (tasks_each owes zs) none).1

  pub each_owes : (xs : Table X) (k : ℕ) (x : X) → value_at xs k ≡ Some x → tasks_each owes xs ≡ [] → owes x ≡ []
  each_owes xs k x at none = sym (ap (tasks_in owes) at) ∙ owes_part xs k none
