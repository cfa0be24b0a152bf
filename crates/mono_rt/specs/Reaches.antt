-- A context that calls of the running task reached from another.
use Rattle.std.specs.Prelude.{⊤, ◌≡◌, ◌⊎◌, ℕ, Bool, true, false, List, [], ◌∷◌, ◌++◌, length, Option, ◌≤◌, ◌<◌, slice_index_or, zero, suc, refl}
use Rattle.std.proofs.Common.{inl, inr, sym, ◌∙◌, ap, arith}
use Rattle.std.proofs.Math.Nat.{le_refl}
use Rattle.mono_model.specs.Table.{value_at, next_number}
use Rattle.mono_task.specs.Members.{SharedOf}
use Rattle.mono_task.specs.Owed.{Keeps}
use Rattle.mono_rt.specs.Leads.{Leads, leads_itself, leads_on}
use Rattle.mono_rt.specs.Refinement.{hosting_of}
use Rattle.mono_rt.specs.declared.contexts.Cx.{Cx}

-- Each place of the table stays. No more is claimed for the futures.
abbrev pub KeepsFutures : {F : Type 0} → List (Option F) → List (Option F) → Type 0
KeepsFutures old new = (t : ℕ) → t < length old → value_at new t ≡ value_at old t

-- each number that was taken out still is
abbrev pub KeepsLent : List Bool → List Bool → Type 0
KeepsLent old new = (t : ℕ) → slice_index_or old t false ≡ true → slice_index_or new t false ≡ true

true-false : true ≡ false → ⊥
true-false e = cc

-- one more number, whose value is there
pub lent_with_next : (old : List Bool) → KeepsLent old (old ++ false ∷ [])
lent_with_next [] t is = absurd (true-false (sym is))
lent_with_next (x ∷ old) zero is = is
lent_with_next (x ∷ old) (suc t) is = lent_with_next old t is

module _ {F O P U W J A V : Type 0} where
  -- Each task's future has the task's number: there are as many places for futures as numbers were given out.
  abbrev pub IsAligned : Cx F O P U W J A V → Type 0
  IsAligned c = length c.futures.items ≡ next_number c.parts.tasks.tasks.table

module _ {F O P U W J A V : Type 0} (number : O → ℕ) (sharing : SharedOf W) where
  -- calls of the running task lead from the one context to the other
  pub record ReachesSharing (c d : Cx F O P U W J A V) : Type 0 where
    pub parts : Leads number hosting_of c.parts d.parts
    pub keeps : KeepsFutures c.futures.items d.futures.items
    pub grows : length c.futures.items ≤ length d.futures.items
    pub aligned : IsAligned c → IsAligned d
    -- the running task finds its own place again
    pub lent : KeepsLent c.futures.lent d.futures.lent
    pub same_waker : d.waker ≡ c.waker
    -- a waker that was handed out still is
    pub handed : c.has_handed_out ≡ true → d.has_handed_out ≡ true
    -- the shared value was led
    pub shared : sharing.leads c.shared d.shared
    -- and lists each task where it did, except the running one
    pub kept : Keeps sharing.lists c.parts.me c.shared d.shared
    -- no task is made known or unknown to the inbox
    pub same_wakers : d.wakers ≡ c.wakers

  pub sharing_itself : ((w : W) → sharing.leads w w) → (c : Cx F O P U W J A V) → ReachesSharing c c
  sharing_itself itself c = record { parts = leads_itself number hosting_of c.parts; keeps = λ t h. refl; grows = le_refl _; aligned = λ h. h; lent = λ t h. h; same_waker = refl; handed = λ h. h; shared = itself c.shared; kept = λ p t is. inl is; same_wakers = refl }

  pub sharing_on : ((u v w : W) → sharing.leads u v → sharing.leads v w → sharing.leads u w) → (a b c : Cx F O P U W J A V) → ReachesSharing a b → ReachesSharing b c → ReachesSharing a c
  sharing_on on a b c p q = record {
    parts = leads_on number hosting_of a.parts b.parts c.parts p.parts q.parts;
    keeps = λ t h. q.keeps t (omega (arith, h, p.grows)) ∙ p.keeps t h;
    grows = omega (arith, p.grows, q.grows);
    aligned = λ h. q.aligned (p.aligned h);
    lent = λ t h. q.lent t (p.lent t h);
    same_waker = q.same_waker ∙ p.same_waker;
    handed = λ h. q.handed (p.handed h);
    shared = on a.shared b.shared c.shared p.shared q.shared;
    kept = λ place t is. elim (p.kept place t is) [ inl stays ↦ elim (q.kept place t stays) [ inl still ↦ inl still | inr mine ↦ inr (mine ∙ p.parts.same_me) ] | inr mine ↦ inr mine ];
    same_wakers = q.same_wakers ∙ p.same_wakers;
  }

  -- a call on the parts alone
  pub by_parts : (c d : Cx F O P U W J A V) → Leads number hosting_of c.parts d.parts → next_number d.parts.tasks.tasks.table ≡ next_number c.parts.tasks.tasks.table → d.futures.items ≡ c.futures.items → d.futures.lent ≡ c.futures.lent → d.waker ≡ c.waker
      → (c.has_handed_out ≡ true → d.has_handed_out ≡ true) → sharing.leads c.shared d.shared → d.shared ≡ c.shared → d.wakers ≡ c.wakers → ReachesSharing c d
  by_parts c d parts next same lent waker handed shared same_shared wakers = record {
    parts = parts;
    keeps = λ t h. ap (λ v. value_at v t) same;
    grows = rw same (le_refl _);
    aligned = λ h. ap length same ∙ h ∙ sym next;
    lent = λ t h. ap (λ xs. slice_index_or xs t false) lent ∙ h;
    same_waker = waker;
    handed = handed;
    shared = shared;
    kept = λ place t is. inl (ap (λ w. sharing.lists w place t) same_shared ∙ is);
    same_wakers = wakers;
  }

  -- the shared value was changed, and nothing else
  pub by_shared : (c : Cx F O P U W J A V) (w : W) → sharing.leads c.shared w → Keeps sharing.lists c.parts.me c.shared w → ReachesSharing c (record c { shared = w })
  by_shared c w shared kept = record {
    parts = leads_itself number hosting_of c.parts;
    keeps = λ t h. refl;
    grows = le_refl _;
    aligned = λ h. h;
    lent = λ t h. h;
    same_waker = refl;
    handed = λ h. h;
    shared = shared;
    kept = kept;
    same_wakers = refl;
  }

-- the members of the state of who shares nothing
abbrev pub sharing_nothing : SharedOf ⊤
sharing_nothing = record { leads = λ a b. ⊤; names = λ a t. false; lists = λ a p t. false; waiting = λ a. []; owes = λ a. [] }

-- the same if nothing is shared
module _ {F O P U J A V : Type 0} (number : O → ℕ) where
  abbrev pub Reaches : Cx F O P U ⊤ J A V → Cx F O P U ⊤ J A V → Type 0
  Reaches = ReachesSharing number sharing_nothing

  pub reaches_itself : (c : Cx F O P U ⊤ J A V) → Reaches c c
  reaches_itself c = sharing_itself number sharing_nothing (λ a. tt) c

  pub reaches_on : (a b c : Cx F O P U ⊤ J A V) → Reaches a b → Reaches b c → Reaches a c
  reaches_on a b c p q = sharing_on number sharing_nothing (λ x y z r s. tt) a b c p q
