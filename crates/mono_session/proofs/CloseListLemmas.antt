-- Sessions that are closed one after another, each the first that is due.
use Rattle.std.proofs.Common.{◌≡◌, ◌≢◌, ◌<◌, ◌⊎◌, inl, inr, ℕ, zero, suc, max, List, [], ◌∷◌, ◌++◌, length, get_or, Some, None, Option, refl, ap, sym, subst, ◌∙◌, arith}
use Rattle.std.specs.Prelude.{AllPairs, Contains, is_some, true}
use Rattle.std.proofs.lemmas.Bool.{cases_eq, cases_lt}
use Rattle.std.proofs.lemmas.List.{get_or-set_other, get_or-set_same, get_or_past}
use Rattle.std.proofs.lemmas.List.Elements.{Contains-get_or}
use Rattle.mono_model.specs.Table.{Table, value_at, next_number, count_of, without}
use Rattle.mono_model.specs.Due.{HasCome, Ascends, ListsDue}
use Rattle.mono_model.specs.Ticks.{down}
use Rattle.mono_time.specs.Sleeps.{armed, IsNoneArmedUpTo, IsFiredFirst}
use Rattle.mono_session.specs.Keeper.{Session, Keeper, with_greatest, without_session, is_open}
use Rattle.mono_session.specs.Steps.{closing_value, greatest_at, without_all}
use Rattle.mono_table.specs.Ready.{Places}
use Rattle.mono_session.specs.Entries.{Entered}
use Rattle.mono_session.specs.declared.keeper.Sessions.{Sessions}
use Rattle.mono_session.specs.Refinement.{sleep_of, sleeps_from, Beside}
use Rattle.mono_session.proofs.SessionSleepLemmas.{value-map}

none-some : {X : Type 0} (x : X) → None ≡ Some x → ⊥
none-some x e = cc

abbrev pub IsDue : Table Session → ℕ → ℕ → Type 0
IsDue table g s = HasCome g (closing_value (value_at table s))

-- s is due, and no session is closed at a lower tick
pub record IsFirst (table : Table Session) (g s : ℕ) : Type 0 where
  pub is_due : IsDue table g s
  pub least : (q : ℕ) → Ascends (closing_value (value_at table s)) (closing_value (value_at table q))

-- each in turn is the first that is due, until none is
abbrev pub CloseInTurn : Table Session → ℕ → List ℕ → Type 0
CloseInTurn table g [] = (s : ℕ) → IsDue table g s → ⊥
CloseInTurn table g (s ∷ due) = IsFirst table g s × CloseInTurn (without table s) g due

pub due_given : (table : Table Session) (g s : ℕ) → IsDue table g s → s < length table
due_given table g s due = elim (cases_lt s (length table)) [
  | inl inside ↦ inside
  | inr past ↦ absurd (subst (λ v. HasCome g (closing_value v)) (get_or_past table s None past) due)
]

not_due_after : (table : Table Session) (g s : ℕ) → s < length table → IsDue (without table s) g s → ⊥
not_due_after table g s inside due = subst (λ v. HasCome g (closing_value v)) (get_or-set_same table s None None inside) due

others_after : (table : Table Session) (s q : ℕ) → q ≢ s → value_at (without table s) q ≡ value_at table q
others_after table s q apart = get_or-set_other table s q None None apart

contains_first : (s q : ℕ) (ss : List ℕ) → q ≡ s → Contains (s ∷ ss) q
contains_first s q ss is = (0, omega arith, sym is)

contains_rest : (s q : ℕ) (ss : List ℕ) → Contains ss q → Contains (s ∷ ss) q
contains_rest s q ss (k, inside, at) = (suc k, omega (arith, inside), at)

contains_cases : (s q : ℕ) (ss : List ℕ) → Contains (s ∷ ss) q → (s ≡ q) ⊎ Contains ss q
contains_cases s q ss (zero, inside, at) = inl at
contains_cases s q ss (suc k, inside, at) = inr (k, omega (arith, inside), at)

pairs_cons : (R : ℕ → ℕ → Type 0) (s : ℕ) (ss : List ℕ) → ((k d : ℕ) → k < length ss → R s (get_or ss k d)) → AllPairs R ss → AllPairs R (s ∷ ss)
pairs_cons R s ss first rest zero zero d below inside = absurd (omega (arith, below))
pairs_cons R s ss first rest zero (suc j) d below inside = first j d (omega (arith, inside))
pairs_cons R s ss first rest (suc i) zero d below inside = absurd (omega (arith, below))
pairs_cons R s ss first rest (suc i) (suc j) d below inside = rest i j d (omega (arith, below)) (omega (arith, inside))

due_apart : (table : Table Session) (g s q : ℕ) → IsFirst table g s → IsDue (without table s) g q → q ≢ s
due_apart table g s q first due same = not_due_after table g s (due_given table g s first.is_due) (subst (λ t. IsDue (without table s) g t) same due)

due_before : (table : Table Session) (g s q : ℕ) → IsFirst table g s → IsDue (without table s) g q → IsDue table g q
due_before table g s q first due = subst (λ v. HasCome g (closing_value v)) (others_after table s q (due_apart table g s q first due)) due

listed_is_due : (table : Table Session) (g : ℕ) (due : List ℕ) → CloseInTurn table g due → (q : ℕ) → Contains due q → IsDue table g q
listed_is_due table g [] turn q (k, inside, at) = absurd (omega (arith, inside))
listed_is_due table g (s ∷ due) turn q there = elim (contains_cases s q due there) [
  | inl here ↦ subst (λ t. IsDue table g t) here turn.0.is_due
  | inr later ↦ due_before table g s q turn.0 (listed_is_due (without table s) g due turn.1 q later)
]

due_is_listed : (table : Table Session) (g : ℕ) (due : List ℕ) → CloseInTurn table g due → (q : ℕ) → IsDue table g q → Contains due q
due_is_listed table g [] turn q is = absurd (turn q is)
due_is_listed table g (s ∷ due) turn q is = elim (cases_eq q s) [
  | inl here ↦ contains_first s q due here
  | inr apart ↦ contains_rest s q due (due_is_listed (without table s) g due turn.1 q (subst (λ v. HasCome g (closing_value v)) (sym (others_after table s q apart)) is))
]

-- A session that is listed later is another session.
later_apart : (table : Table Session) (g s : ℕ) (due : List ℕ) → CloseInTurn table g (s ∷ due) → (k d : ℕ) → k < length due → get_or due k d ≢ s
later_apart table g s due turn k d inside =
    due_apart table g s _ turn.0 (listed_is_due (without table s) g due turn.1 _ (Contains-get_or due k d inside))

no_doubles : (table : Table Session) (g : ℕ) (due : List ℕ) → CloseInTurn table g due → AllPairs (λ s t. s ≢ t) due
no_doubles table g [] turn = λ i j d below inside. absurd (omega (arith, inside))
no_doubles table g (s ∷ due) turn =
    pairs_cons (λ s t. s ≢ t) s due (λ k d inside same. later_apart table g s due turn k d inside (sym same)) (no_doubles (without table s) g due turn.1)

abbrev InOrder : Table Session → ℕ → ℕ → Type 0
InOrder table s t = Ascends (closing_value (value_at table s)) (closing_value (value_at table t))

in_order : (table : Table Session) (g : ℕ) (due : List ℕ) → CloseInTurn table g due → AllPairs (InOrder table) due
in_order table g [] turn = λ i j d below inside. absurd (omega (arith, inside))
in_order table g (s ∷ due) turn =
    pairs_cons (InOrder table) s due
    (λ k d inside. turn.0.least (get_or due k d))
    (λ i j d below inside a b at_i at_j.
    in_order (without table s) g due turn.1 i j d below inside a b
    (ap closing_value (others_after table s _ (later_apart table g s due turn i d (omega (arith, below, inside)))) ∙ at_i)
    (ap closing_value (others_after table s _ (later_apart table g s due turn j d inside)) ∙ at_j))

pub lists_due : (table : Table Session) (g : ℕ) (due : List ℕ) → CloseInTurn table g due → ListsDue closing_value table g due
lists_due table g due turn = record {
  no_doubles = no_doubles table g due turn;
  all_due = λ s. (listed_is_due table g due turn s, due_is_listed table g due turn s);
  in_order = in_order table g due turn;
}

-- ---- the first sleep that fires is that of the first session
some_armed : (v : Option Session) (tick : ℕ) (waker : Option ℕ) → sleep_of v ≡ Some (armed tick waker) → closing_value v ≡ Some tick
some_armed None tick waker e = cc
some_armed (Some session) tick waker e = cc

armed_some : (v : Option Session) (tick : ℕ) → closing_value v ≡ Some tick → sleep_of v ≡ Some (armed tick None)
armed_some None tick e = cc
armed_some (Some session) tick e = cc

pub first_due : (k : Keeper) (s : ℕ) (waker : Option ℕ) → IsFiredFirst (sleeps_from k) s waker → IsFirst k.sessions k.greatest s
first_due k s waker first =
    let at : closing_value (value_at k.sessions s) ≡ Some first.tick = some_armed (value_at k.sessions s) first.tick waker (sym (value-map k.sessions s) ∙ first.is_armed_there) in
    record {
      is_due = subst (HasCome k.greatest) (sym at) first.is_due;
      least = λ q a b at_s at_q.
          let same : a ≡ first.tick = some-same a first.tick (sym at_s ∙ at) in
          omega (arith, same, first.is_least q b None (value-map k.sessions q ∙ armed_some (value_at k.sessions q) b at_q));
    }
  where
    some-same : (a b : ℕ) → Some a ≡ Some b → a ≡ b
    some-same a b e = cc

pub none_due : (k : Keeper) → IsNoneArmedUpTo (sleeps_from k) → (s : ℕ) → IsDue k.sessions k.greatest s → ⊥
none_due k none s due = by (closing_value (value_at k.sessions s)) refl due
  where
    by : (v : Option ℕ) → closing_value (value_at k.sessions s) ≡ v → HasCome k.greatest v → ⊥
    by None e come = come
    by (Some tick) e come = omega (arith, come, none s tick None (value-map k.sessions s ∙ armed_some (value_at k.sessions s) tick e))

pub due_inside : (k : Keeper) (g s : ℕ) → IsFirst k.sessions g s → s < length k.sessions
due_inside k g s first = due_given k.sessions g s first.is_due

pub due_open : (k : Keeper) (g s : ℕ) → IsFirst k.sessions g s → is_open k s ≡ true
due_open k g s first = by (value_at k.sessions s) first.is_due
  where
    by : (v : Option Session) → HasCome g (closing_value v) → is_some v ≡ true
    by None come = absurd come
    by (Some session) come = refl

-- ---- a list that grows
pub all-push : (k : Keeper) (due : List ℕ) (s : ℕ) → without_all k (due ++ s ∷ []) ≡ without_session (without_all k due) s
all-push k [] s = refl
all-push k (x ∷ due) s = all-push (without_session k x) due s

-- the clock shows the same once more
max-again : (a b : ℕ) → max (max a b) b ≡ max a b
max-again a b = omega arith

pub clock-again : (k : Keeper) (n s : ℕ) → with_greatest (without_session (with_greatest k (greatest_at k n)) s) (greatest_at (without_session (with_greatest k (greatest_at k n)) s) n) ≡ without_session (with_greatest k (greatest_at k n)) s
clock-again k n s = ap (λ g. with_greatest (without_session (with_greatest k (greatest_at k n)) s) g) (max-again k.greatest (down n))

-- The parts that do not depend on the clock.
pub beside_clock : (old new : Sessions) (k : Keeper) (g : ℕ) → new.limits ≡ old.limits → new.entries ≡ old.entries → new.most_entries ≡ old.most_entries → Beside old k → Beside new (with_greatest k g)
beside_clock old new k g limits entries most beside = record {
  limits = λ q. ap (λ (m : Places ℕ). value_at m.table q) limits ∙ beside.limits q;
  numbers = ap (λ (m : Places ℕ). next_number m.table) limits ∙ beside.numbers;
  open_len = ap (λ (m : Places ℕ). count_of m.table) limits ∙ beside.open_len;
  entries = subst (λ e. Entered e k.entries) (sym entries) beside.entries;
  most_entries = most ∙ beside.most_entries;
}
