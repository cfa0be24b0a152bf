-- A test that computes whether a clock step may list these numbers.
use Rattle.std.proofs.Common.{◌≡◌, ◌≢◌, ◌<◌, ◌≤◌, ◌⊎◌, inl, inr, ℕ, ◌+◌, zero, suc, true, false, Bool, List, [], ◌∷◌, length, get_or, Some, None, Option, refl, ap, sym, subst, ◌∙◌, arith}
use Rattle.std.specs.Prelude.{nat_le, ◌==◌, ◌&&◌, ◌||◌, not, AllPairs, Contains}
use Rattle.std.proofs.lemmas.Bool.Decides.{leb_tells, eqb_tells}
use Rattle.mono_model.specs.Table.{Table, value_at}
use Rattle.mono_model.specs.Due.{HasCome, Ascends, ListsDue}

abbrev has_come : Option ℕ → ℕ → Bool
has_come None g = false
has_come (Some tick) g = nat_le tick g

abbrev is_listed : List ℕ → ℕ → Bool
is_listed [] s = false
is_listed (x ∷ xs) s = (x == s) || is_listed xs s

abbrev are_once : List ℕ → Bool
are_once [] = true
are_once (x ∷ xs) = not (is_listed xs x) && are_once xs

-- The first tick is at most the second, if both wait.
abbrev is_below : Option ℕ → Option ℕ → Bool
is_below None b = true
is_below (Some a) None = true
is_below (Some a) (Some b) = nat_le a b

abbrev is_below_all : (ℕ → Option ℕ) → ℕ → List ℕ → Bool
is_below_all tick_of s [] = true
is_below_all tick_of s (t ∷ ts) = is_below (tick_of s) (tick_of t) && is_below_all tick_of s ts

abbrev is_ascending : (ℕ → Option ℕ) → List ℕ → Bool
is_ascending tick_of [] = true
is_ascending tick_of (s ∷ ss) = is_below_all tick_of s ss && is_ascending tick_of ss

abbrev have_come : (ℕ → Option ℕ) → ℕ → List ℕ → Bool
have_come tick_of g [] = true
have_come tick_of g (s ∷ ss) = has_come (tick_of s) g && have_come tick_of g ss

-- Each number of a table is listed if its tick has come. The first place has the number i.
abbrev none_left_out : {V : Type 0} → (Option V → Option ℕ) → ℕ → List ℕ → ℕ → Table V → Bool
none_left_out waits g due i [] = true
none_left_out waits g due i (x ∷ xs) = (not (has_come (waits x) g) || is_listed due i) && none_left_out waits g due (suc i) xs

abbrev pub lists : {V : Type 0} → (Option V → Option ℕ) → Table V → ℕ → List ℕ → Bool
lists waits table g due =
    are_once due && (have_come (λ s. waits (value_at table s)) g due && (is_ascending (λ s. waits (value_at table s)) due && none_left_out waits g due 0 table))

true-false : true ≡ false → ⊥
true-false e = cc

and_left : (a b : Bool) → (a && b) ≡ true → a ≡ true
and_left true b e = refl
and_left false b e = e

and_right : (a b : Bool) → (a && b) ≡ true → b ≡ true
and_right true b e = e
and_right false b e = absurd (true-false (sym e))

or_cases : (a b : Bool) → (a || b) ≡ true → (a ≡ true) ⊎ (b ≡ true)
or_cases true b e = inl refl
or_cases false b e = inr e

not_true : (a : Bool) → not a ≡ true → a ≡ false
not_true true e = absurd (true-false (sym e))
not_true false e = refl

come-told : (v : Option ℕ) (g : ℕ) → has_come v g ≡ true → HasCome g v
come-told None g e = absurd (true-false (sym e))
come-told (Some tick) g e = elim (leb_tells tick g) [ inl t ↦ t.1 | inr t ↦ absurd (true-false (sym e ∙ t.0)) ]

come-tells : (v : Option ℕ) (g : ℕ) → HasCome g v → has_come v g ≡ true
come-tells None g come = absurd come
come-tells (Some tick) g come = elim (leb_tells tick g) [ inl t ↦ t.0 | inr t ↦ absurd (omega (arith, t.1, come)) ]

is-told : (x s : ℕ) → (x == s) ≡ true → x ≡ s
is-told x s e = elim (eqb_tells x s) [ inl t ↦ t.1 | inr t ↦ absurd (true-false (sym e ∙ t.0)) ]

listed-told : (xs : List ℕ) (s : ℕ) → is_listed xs s ≡ true → Contains xs s
listed-told [] s e = absurd (true-false (sym e))
listed-told (x ∷ xs) s e = elim (or_cases _ _ e) [
  | inl here ↦ (0, omega arith, is-told x s here)
  | inr there ↦ (let c = listed-told xs s there in (suc c.0, omega (arith, c.1), c.2))
]

apart-told : (x s : ℕ) (xs : List ℕ) → is_listed (x ∷ xs) s ≡ false → (x ≢ s) × (is_listed xs s ≡ false)
apart-told x s xs e = elim (eqb_tells x s) [
  | inl t ↦ absurd (true-false (sym (ap (λ b. b || is_listed xs s) t.0) ∙ e))
  | inr t ↦ (t.1, ap (λ b. b || is_listed xs s) (sym t.0) ∙ e)
]

unlisted-told : (xs : List ℕ) (s : ℕ) → is_listed xs s ≡ false → (k d : ℕ) → k < length xs → s ≢ get_or xs k d
unlisted-told [] s e k d inside = absurd (omega (arith, inside))
unlisted-told (x ∷ xs) s e zero d inside = λ same. (apart-told x s xs e).0 (sym same)
unlisted-told (x ∷ xs) s e (suc k) d inside = unlisted-told xs s (apart-told x s xs e).1 k d (omega (arith, inside))

pairs_cons : (R : ℕ → ℕ → Type 0) (s : ℕ) (ss : List ℕ) → ((k d : ℕ) → k < length ss → R s (get_or ss k d)) → AllPairs R ss → AllPairs R (s ∷ ss)
pairs_cons R s ss first rest zero zero d below inside = absurd (omega (arith, below))
pairs_cons R s ss first rest zero (suc j) d below inside = first j d (omega (arith, inside))
pairs_cons R s ss first rest (suc i) zero d below inside = absurd (omega (arith, below))
pairs_cons R s ss first rest (suc i) (suc j) d below inside = rest i j d (omega (arith, below)) (omega (arith, inside))

once-told : (due : List ℕ) → are_once due ≡ true → AllPairs (λ s t. s ≢ t) due
once-told [] e = λ i j d below inside. absurd (omega (arith, inside))
once-told (x ∷ xs) e = pairs_cons (λ s t. s ≢ t) x xs (unlisted-told xs x (not_true _ (and_left _ _ e))) (once-told xs (and_right _ _ e))

same-some : (a b : ℕ) → Some a ≡ Some b → a ≡ b
same-some a b e = cc

none-some : (a : ℕ) → None ≡ Some a → ⊥
none-some a e = cc

below-told : (u v : Option ℕ) → is_below u v ≡ true → (a b : ℕ) → u ≡ Some a → v ≡ Some b → a ≤ b
below-told None v e a b at_u at_v = absurd (none-some a at_u)
below-told (Some x) None e a b at_u at_v = absurd (none-some b at_v)
below-told (Some x) (Some y) e a b at_u at_v = elim (leb_tells x y) [
  | inl t ↦ omega (arith, t.1, same-some x a at_u, same-some y b at_v)
  | inr t ↦ absurd (true-false (sym e ∙ t.0))
]

all_below-told : (tick_of : ℕ → Option ℕ) (s : ℕ) (ts : List ℕ) → is_below_all tick_of s ts ≡ true → (k d : ℕ) → k < length ts → Ascends (tick_of s) (tick_of (get_or ts k d))
all_below-told tick_of s [] e k d inside = absurd (omega (arith, inside))
all_below-told tick_of s (t ∷ ts) e zero d inside = below-told (tick_of s) (tick_of t) (and_left _ _ e)
all_below-told tick_of s (t ∷ ts) e (suc k) d inside = all_below-told tick_of s ts (and_right _ _ e) k d (omega (arith, inside))

ascending-told : (tick_of : ℕ → Option ℕ) (due : List ℕ) → is_ascending tick_of due ≡ true → AllPairs (λ s t. Ascends (tick_of s) (tick_of t)) due
ascending-told tick_of [] e = λ i j d below inside. absurd (omega (arith, inside))
ascending-told tick_of (s ∷ ss) e = pairs_cons (λ u v. Ascends (tick_of u) (tick_of v)) s ss (all_below-told tick_of s ss (and_left _ _ e)) (ascending-told tick_of ss (and_right _ _ e))

all_come-told : (tick_of : ℕ → Option ℕ) (g : ℕ) (due : List ℕ) → have_come tick_of g due ≡ true → (s : ℕ) → Contains due s → HasCome g (tick_of s)
all_come-told tick_of g [] e s (k, inside, at) = absurd (omega (arith, inside))
all_come-told tick_of g (x ∷ xs) e s (zero, inside, at) = subst (λ q. HasCome g (tick_of q)) at (come-told (tick_of x) g (and_left _ _ e))
all_come-told tick_of g (x ∷ xs) e s (suc k, inside, at) = all_come-told tick_of g xs (and_right _ _ e) s (k, omega (arith, inside), at)

left-told : {V : Type 0} (waits : Option V → Option ℕ) (g : ℕ) (due : List ℕ) (i : ℕ) (table : Table V) → waits None ≡ None → none_left_out waits g due i table ≡ true
    → (s : ℕ) → HasCome g (waits (value_at table s)) → is_listed due (i + s) ≡ true
left-told waits g due i [] no_wait e s come = absurd (subst (λ v. HasCome g v) no_wait come)
left-told waits g due i (x ∷ xs) no_wait e zero come =
    let here : (not (has_come (waits x) g) || is_listed due i) ≡ true = and_left _ _ e in
    subst (λ q. is_listed due q ≡ true) (omega arith) (ap (λ b. not b || is_listed due i) (sym (come-tells (waits x) g come)) ∙ here)
left-told waits g due i (x ∷ xs) no_wait e (suc s) come =
    subst (λ q. is_listed due q ≡ true) (omega arith) (left-told waits g due (suc i) xs no_wait (and_right _ _ e) s come)

-- A list that passes the test may be listed.
pub may_list : {V : Type 0} (waits : Option V → Option ℕ) (table : Table V) (g : ℕ) (due : List ℕ) → waits None ≡ None → lists waits table g due ≡ true → ListsDue waits table g due
may_list waits table g due no_wait e =
    let tick_of : ℕ → Option ℕ = λ s. waits (value_at table s) in
    let last : Bool = is_ascending tick_of due && none_left_out waits g due 0 table in
    let later : Bool = have_come tick_of g due && last in
    let rest : later ≡ true = and_right (are_once due) later e in
    let more : last ≡ true = and_right (have_come tick_of g due) last rest in
    let come : have_come tick_of g due ≡ true = and_left (have_come tick_of g due) last rest in
    let whole : none_left_out waits g due 0 table ≡ true = and_right (is_ascending tick_of due) _ more in
    record {
      no_doubles = once-told due (and_left (are_once due) later e);
      all_due = λ s. (all_come-told tick_of g due come s, λ come_s. listed-told due s (subst (λ q. is_listed due q ≡ true) (omega arith) (left-told waits g due 0 table no_wait whole s come_s)));
      in_order = ascending-told tick_of due (and_left (is_ascending tick_of due) _ more);
    }
