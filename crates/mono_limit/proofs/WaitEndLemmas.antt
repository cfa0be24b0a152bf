-- One wait after another ends.
use Rattle.std.proofs.Common.{◌≡◌, ◌≢◌, ◌<◌, ◌≤◌, ◌⊎◌, inl, inr, ℕ, ◌+◌, zero, suc, true, false, Bool, cond, List, [], ◌∷◌, ◌++◌, length, get_or, set, Some, None, Option, refl, ap, sym, subst, ◌∙◌, arith}
use Rattle.std.specs.Prelude.{AllPairs, Contains, count_by, is_some}
use Rattle.std.proofs.lemmas.Bool.{cases_eq, cases_lt}
use Rattle.std.proofs.lemmas.List.{get_or_past, get_or-set_same, get_or-set_other}
use Rattle.std.proofs.lemmas.List.Elements.{Contains-get_or}
use Rattle.std.proofs.lemmas.List.Sums.{sum_by-set, sum_by-le-sum_by}
use Rattle.mono_model.specs.Table.{Table, value_at, count_of}
use Rattle.mono_model.specs.Due.{ListsDue, HasCome, Ascends}
use Rattle.mono_limit.specs.Schedules.{at_once, waiting_value, ended_row, ended_rows}
use Rattle.mono_limit.specs.declared.schedules.Schedule.{Schedule}

none-some : {X : Type 0} (x : X) → None ≡ Some x → ⊥
none-some x e = cc

same-tick : (a b : ℕ) → Some a ≡ Some b → a ≡ b
same-tick a b e = cc

abbrev wait_at : Table Schedule → ℕ → Option ℕ
wait_at rows r = waiting_value (value_at rows r)

-- The wait of r ends first: its tick has come, and no retry waits for a lower one.
pub record EndsFirst (rows : Table Schedule) (g r : ℕ) : Type 0 where
  pub tick : ℕ
  pub waits : wait_at rows r ≡ Some tick
  pub has_come : tick ≤ g
  pub is_least : (q later : ℕ) → wait_at rows q ≡ Some later → tick ≤ later

abbrev pub NoneEnds : Table Schedule → ℕ → Type 0
NoneEnds rows g = (r tick : ℕ) → wait_at rows r ≡ Some tick → g < tick

come_by : (v : Option ℕ) (g tick : ℕ) → v ≡ Some tick → tick ≤ g → HasCome g v
come_by None g tick e le = absurd (none-some tick e)
come_by (Some t) g tick e le = omega (arith, same-tick t tick e, le)

tick_of : (v : Option ℕ) (g : ℕ) → HasCome g v → (tick : ℕ) × (v ≡ Some tick) × (tick ≤ g)
tick_of None g come = absurd come
tick_of (Some t) g come = (t, refl, come)

-- the row of a retry that waits
waiting_row : (v : Option Schedule) (tick : ℕ) → waiting_value v ≡ Some tick → (retry : Schedule) × (v ≡ Some retry)
waiting_row None tick e = absurd (none-some tick e)
waiting_row (Some retry) tick e = (retry, refl)

inside_of : (rows : Table Schedule) (r : ℕ) (retry : Schedule) → value_at rows r ≡ Some retry → r < length rows
inside_of rows r retry at = elim (cases_lt r (length rows)) [ inl inside ↦ inside | inr past ↦ absurd (none-some retry (sym (get_or_past rows r None past) ∙ at)) ]

ended_is : (rows : Table Schedule) (r : ℕ) (retry : Schedule) → value_at rows r ≡ Some retry → ended_row (value_at rows r) rows r ≡ set rows r (Some (at_once retry))
ended_is rows r retry at = ap (λ v. ended_row v rows r) at

here_after : (rows : Table Schedule) (r : ℕ) (retry : Schedule) → value_at rows r ≡ Some retry → wait_at (ended_row (value_at rows r) rows r) r ≡ None
here_after rows r retry at = ap (λ xs. wait_at xs r) (ended_is rows r retry at) ∙ ap waiting_value (get_or-set_same rows r (Some (at_once retry)) None (inside_of rows r retry at))

others_after : (v : Option Schedule) (rows : Table Schedule) (r q : ℕ) → q ≢ r → wait_at (ended_row v rows r) q ≡ wait_at rows q
others_after None rows r q apart = refl
others_after (Some retry) rows r q apart = ap waiting_value (get_or-set_other rows r q (Some (at_once retry)) None apart)

contains_cases : (s q : ℕ) (ss : List ℕ) → Contains (s ∷ ss) q → (s ≡ q) ⊎ Contains ss q
contains_cases s q ss (zero, inside, at) = inl at
contains_cases s q ss (suc k, inside, at) = inr (k, omega (arith, inside), at)

pairs_cons : (R : ℕ → ℕ → Type 0) (s : ℕ) (ss : List ℕ) → ((k d : ℕ) → k < length ss → R s (get_or ss k d)) → AllPairs R ss → AllPairs R (s ∷ ss)
pairs_cons R s ss first rest zero zero d below inside = absurd (omega (arith, below))
pairs_cons R s ss first rest zero (suc j) d below inside = first j d (omega (arith, inside))
pairs_cons R s ss first rest (suc i) zero d below inside = absurd (omega (arith, below))
pairs_cons R s ss first rest (suc i) (suc j) d below inside = rest i j d (omega (arith, below)) (omega (arith, inside))

module _ (rows : Table Schedule) (g r : ℕ) (first : EndsFirst rows g r) (due : List ℕ) (rest : ListsDue waiting_value (ended_row (value_at rows r) rows r) g due) where
  abbrev after : Table Schedule
  after = ended_row (value_at rows r) rows r

  none_here : HasCome g (wait_at after r) → ⊥
  none_here come =
      let (retry, at) = waiting_row (value_at rows r) first.tick first.waits in
      subst (HasCome g) (here_after rows r retry at) come

  apart_of : (q : ℕ) → HasCome g (wait_at after q) → q ≢ r
  apart_of q come same = none_here (subst (λ x. HasCome g (wait_at after x)) same come)

  come_before : (q : ℕ) → HasCome g (wait_at after q) → HasCome g (wait_at rows q)
  come_before q come = subst (HasCome g) (others_after (value_at rows r) rows r q (apart_of q come)) come

  listed_come : (k d : ℕ) → k < length due → HasCome g (wait_at after (get_or due k d))
  listed_come k d inside = (rest.all_due (get_or due k d)).0 (Contains-get_or due k d inside)

  -- it is listed before all others
  pub ends_before : ListsDue waiting_value rows g (r ∷ due)
  ends_before = record {
    no_doubles = pairs_cons (λ s t. s ≢ t) r due (λ k d inside same. apart_of (get_or due k d) (listed_come k d inside) (sym same)) rest.no_doubles;
    all_due = λ q. (
      (λ there. elim (contains_cases r q due there) [
        | inl here ↦ subst (λ x. HasCome g (wait_at rows x)) here (come_by (wait_at rows r) g first.tick first.waits first.has_come)
        | inr later ↦ come_before q ((rest.all_due q).0 later)
      ]),
      (λ come. elim (cases_eq q r) [
        | inl here ↦ (0, omega arith, sym here)
        | inr apart ↦
            let (k, inside, at) = (rest.all_due q).1 (subst (HasCome g) (sym (others_after (value_at rows r) rows r q apart)) come) in
            (suc k, omega (arith, inside), at)
      ]),
    );
    in_order = pairs_cons (λ s t. Ascends (wait_at rows s) (wait_at rows t)) r due
        (λ k d inside a b at_r at_q. omega (arith, same-tick a first.tick (sym at_r ∙ first.waits), first.is_least (get_or due k d) b at_q))
        (λ i j d below inside a b at_i at_j. rest.in_order i j d below inside a b
        (others_after (value_at rows r) rows r (get_or due i d) (apart_of (get_or due i d) (listed_come i d (omega (arith, below, inside)))) ∙ at_i)
        (others_after (value_at rows r) rows r (get_or due j d) (apart_of (get_or due j d) (listed_come j d inside)) ∙ at_j));
  }

-- No retry is listed if no tick has come.
pub none_ends : (rows : Table Schedule) (g : ℕ) → NoneEnds rows g → ListsDue waiting_value rows g []
none_ends rows g none = record {
  no_doubles = λ i j d below inside. absurd (omega (arith, inside));
  all_due = λ q. (
    (λ there. absurd (omega (arith, there.1))),
    (λ come. let (tick, at, le) = tick_of (wait_at rows q) g come in absurd (omega (arith, le, none q tick at))),
  );
  in_order = λ i j d below inside. absurd (omega (arith, inside));
}

-- one more has ended
pub ended-push : (rows : Table Schedule) (due : List ℕ) (r : ℕ) → ended_rows rows (due ++ r ∷ []) ≡ ended_row (value_at (ended_rows rows due) r) (ended_rows rows due) r
ended-push rows [] r = refl
ended-push rows (x ∷ due) r = ended-push (ended_row (value_at rows x) rows x) due r

-- how many wait
abbrev is_waiting : Option Schedule → Bool
is_waiting v = is_some (waiting_value v)

abbrev pub waiting_count : Table Schedule → ℕ
waiting_count rows = count_by is_waiting rows

pub fewer_wait : (rows : Table Schedule) (r tick : ℕ) → wait_at rows r ≡ Some tick → waiting_count (ended_row (value_at rows r) rows r) + 1 ≡ waiting_count rows
fewer_wait rows r tick waits =
    let (retry, at) = waiting_row (value_at rows r) tick waits in
    let one : ℕ = cond (is_waiting (get_or rows r None)) 1 0 in
    let is_one : one ≡ 1 = ap (λ v. cond (is_some v) 1 0) waits in
    let same : waiting_count (ended_row (value_at rows r) rows r) ≡ waiting_count (set rows r (Some (at_once retry))) = ap waiting_count (ended_is rows r retry at) in
    omega (arith, is_one, same, sum_by-set (λ x. cond (is_waiting x) 1 0) rows r (Some (at_once retry)) None (inside_of rows r retry at))

pub waiting-le-live : (rows : Table Schedule) → waiting_count rows ≤ count_of rows
waiting-le-live rows = sum_by-le-sum_by (λ x. cond (is_waiting x) 1 0) (λ x. cond (is_some x) 1 0) rows at_most
  where
    at_most : (v : Option Schedule) → cond (is_waiting v) 1 0 ≤ cond (is_some v) 1 0
    at_most None = omega arith
    at_most (Some retry) = below (is_some retry.waits_for)
      where
        below : (b : Bool) → cond b 1 0 ≤ 1
        below true = omega arith
        below false = omega arith
