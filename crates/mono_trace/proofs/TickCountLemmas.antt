-- The counts at each tick follow the table, whatever is written to it.
use Rattle.std.proofs.Common.{◌≡◌, ◌≢◌, ◌<◌, ◌≤◌, ℕ, ◌+◌, ◌-◌, zero, suc, true, false, Bool, List, [], ◌∷◌, ◌++◌, length, set, Some, None, Option, refl, ap, sym, subst, ◌∙◌, arith, inl, inr}
use Rattle.std.specs.Prelude.{map, ◌==◌, sum_by, unwrap_or, is_some, MatchBool}
use Rattle.std.specs.Map.{lookup}
use Rattle.std.specs.Ordering.{nat_cmp, is_eq}
use Rattle.std.specs.declared.cmp.Ordering.{Ordering}
use Rattle.std.specs.declared.cmp.Ordering.TheVariants.{Less, Equal, Greater}
use Rattle.std.specs.BTreeMap.{BTreeMap, get, is_at}
use Rattle.std.proofs.Math.ListN.{get_or-map}
use Rattle.std.proofs.lemmas.Bool.{cases_eq, cases_lt, cases_Bool}
use Rattle.std.proofs.lemmas.List.{get_or_past}
use Rattle.std.proofs.lemmas.List.Sums.{sum_by-set, sum_by_push, sum_by-cons, get_or-le-sum_by}
use Rattle.std.proofs.lemmas.Map.Lookups.{exact_unsigned}
use Rattle.mono_model.specs.Table.{value_at}
use Rattle.mono_model.specs.Valid.{once_if}
use Rattle.mono_model.specs.Sleeps.{IsDueSleep}
use Rattle.mono_model.specs.FireOrder.{IsNoneDue}
use Rattle.mono_model.proofs.CountLemmas.{one_time, no_time}
use Rattle.mono_trace.specs.Tables.{sleep_place}
use Rattle.mono_trace.specs.TickCounts.{armed_tick, once_at, armed_count, AreAlike, one_more, more_at, all_more, AreNoneUpTo, IsOneUpTo, some_if_any, AreCounts, AreCountsBut, AreTicks}
use Rattle.mono_trace.specs.declared.ticks.Ticks.{Ticks}
use Rattle.mono_trace.specs.declared.sleeps.Sleep.{Sleep}
use Rattle.mono_trace.specs.declared.sleeps.Sleep.TheVariants as sleep

-- ---- the map
eq_is : (o : Ordering) → is_eq o ≡ true → o ≡ Equal
eq_is Less e = cc e
eq_is Equal e = refl
eq_is Greater e = cc e

apart_is : (tick t : ℕ) → tick ≢ t → is_at (nat_cmp tick) t ≡ false
apart_is tick t apart = elim (cases_Bool (is_at (nat_cmp tick) t)) [
  | inl here ↦ absurd (apart (exact_unsigned tick t (eq_is (nat_cmp tick t) here)))
  | inr other ↦ other
]

some_is : (m n : ℕ) → m ≡ n + 1 → some_if_any m ≡ Some (n + 1)
some_is zero n e = absurd (omega (arith, e))
some_is (suc m) n e = ap Some e

none_is : (m : ℕ) → m ≡ 0 → some_if_any m ≡ None
none_is zero e = refl
none_is (suc m) e = absurd (omega (arith, e))

any_is : (m : ℕ) → unwrap_or (some_if_any m) 0 ≡ m
any_is zero = refl
any_is (suc m) = refl

some_tells : (m n : ℕ) → some_if_any m ≡ Some n → (m ≡ n) × (0 < m)
some_tells zero n e = cc e
some_tells (suc m) n e = (ap (λ o. unwrap_or o 0) e, omega arith)

pub alike : (f g : ℕ → ℕ) (counts : BTreeMap ℕ ℕ) → AreAlike f g → AreCounts f counts → AreCounts g counts
alike f g counts same are = λ t. are t ∙ ap some_if_any (same t)

-- A map with this count at a tick, and the former counts at the others.
pub written : (f g : ℕ → ℕ) (old new : BTreeMap ℕ ℕ) (tick : ℕ) → AreCounts f old → get nat_cmp new tick ≡ some_if_any (g tick)
    → ((q : ℕ) → is_at (nat_cmp tick) q ≡ false → get nat_cmp new q ≡ get nat_cmp old q) → ((t : ℕ) → tick ≢ t → f t ≡ g t) → AreCounts g new
written f g old new tick are here others same = λ t. elim (cases_eq tick t) [
  | inl at ↦ subst (λ q. get nat_cmp new q ≡ some_if_any (g q)) at here
  | inr apart ↦ others t (apart_is tick t apart) ∙ are t ∙ ap some_if_any (same t apart)
]

elsewhere : (f : ℕ → ℕ) (tick t : ℕ) → tick ≢ t → f t ≡ one_more f tick t
elsewhere f tick t apart = omega (arith, no_time tick t apart)

pub raised : (f : ℕ → ℕ) (old new : BTreeMap ℕ ℕ) (tick n : ℕ) → AreCounts f old → n ≡ unwrap_or (get nat_cmp old tick) 0 → get nat_cmp new tick ≡ Some (n + 1)
    → ((q : ℕ) → is_at (nat_cmp tick) q ≡ false → get nat_cmp new q ≡ get nat_cmp old q) → AreCounts (one_more f tick) new
raised f old new tick n are was here others =
    let is : n ≡ f tick = was ∙ ap (λ o. unwrap_or o 0) (are tick) ∙ any_is (f tick) in
    written f (one_more f tick) old new tick are (here ∙ sym (some_is (one_more f tick tick) n (omega (arith, is, one_time tick)))) others (elsewhere f tick)

pub lowered : (f : ℕ → ℕ) (old new : BTreeMap ℕ ℕ) (tick n : ℕ) → AreCounts (one_more f tick) old → get nat_cmp old tick ≡ Some n → 1 < n → get nat_cmp new tick ≡ Some (n - 1)
    → ((q : ℕ) → is_at (nat_cmp tick) q ≡ false → get nat_cmp new q ≡ get nat_cmp old q) → AreCounts f new
lowered f old new tick n are was more here others =
    let is : one_more f tick tick ≡ n = (some_tells (one_more f tick tick) n (sym (are tick) ∙ was)).0 in
    let one : once_if (tick == tick) ≡ 1 = one_time tick in
    let less : n - 1 ≡ n - 2 + 1 = omega (arith, more) in
    written (one_more f tick) f old new tick are
    (here ∙ ap Some less ∙ sym (some_is (f tick) (n - 2) (omega (arith, is, one, more))))
    others
    (λ t apart. sym (elsewhere f tick t apart))

-- with one more there was at most one, so none is left
pub last_gone : (f : ℕ → ℕ) (old new : BTreeMap ℕ ℕ) (tick : ℕ) → AreCounts (one_more f tick) old → unwrap_or (get nat_cmp old tick) 0 ≤ 1 → get nat_cmp new tick ≡ None
    → ((q : ℕ) → is_at (nat_cmp tick) q ≡ false → get nat_cmp new q ≡ get nat_cmp old q) → AreCounts f new
last_gone f old new tick are few here others =
    let is : unwrap_or (get nat_cmp old tick) 0 ≡ one_more f tick tick = ap (λ o. unwrap_or o 0) (are tick) ∙ any_is (one_more f tick tick) in
    written (one_more f tick) f old new tick are
    (here ∙ sym (none_is (f tick) (omega (arith, is, few, one_time tick))))
    others
    (λ t apart. sym (elsewhere f tick t apart))

pub nothing : (counts : BTreeMap ℕ ℕ) → counts.entries ≡ [] → AreCounts (λ t. 0) counts
nothing counts none = λ t. ap (lookup (is_at (nat_cmp t))) none

-- ---- the ticks that were left and taken
pub popped : (f : ℕ → ℕ) (left : List ℕ) (tick : ℕ) (old new : BTreeMap ℕ ℕ) → ((g : ℕ → ℕ) → AreCounts g old → AreCounts (one_more g tick) new)
    → AreCountsBut f (left ++ tick ∷ []) old → AreCountsBut f left new
popped f left tick old new raise but =
    let g = but.0 in (
      one_more g tick,
      raise g but.1,
      λ t. but.2 t ∙ omega (arith, sum_by_push (λ x. once_if (x == t)) left tick),
    )

pub put_last : (f : ℕ → ℕ) (taken : List ℕ) (tick : ℕ) → AreAlike (all_more f (taken ++ tick ∷ [])) (one_more (all_more f taken) tick)
put_last f taken tick = λ t. omega (arith, sum_by_push (λ x. once_if (x == t)) taken tick)

pub recounted : (f g before : ℕ → ℕ) (ticks : Ticks) → AreAlike f g → AreTicks f before ticks → AreTicks g before ticks
recounted f g before ticks same are = (alike f g ticks.counts same are.0, λ t. are.1 t ∙ ap (λ n. n + sum_by (λ tick. once_if (tick == t)) ticks.left.items) (same t))

pub none_left : (f : ℕ → ℕ) (left : List ℕ) (counts : BTreeMap ℕ ℕ) → left ≡ [] → AreCountsBut f left counts → AreCounts f counts
none_left f left counts none but =
    alike but.0 f counts (λ t. omega (arith, but.2 t, ap (λ xs. sum_by (λ tick. once_if (tick == t)) xs) none)) but.1

pub none_taken : (f : ℕ → ℕ) (taken : List ℕ) (counts : BTreeMap ℕ ℕ) → taken ≡ [] → AreCounts (all_more f taken) counts → AreCounts f counts
none_taken f taken counts none are =
    alike (all_more f taken) f counts (λ t. omega (arith, ap (λ xs. sum_by (λ tick. once_if (tick == t)) xs) none)) are

-- ---- the table
pub with_another : (places : List (Option Sleep)) (n : ℕ) (w : Option Sleep) → is_some (value_at places n) ≡ true
    → AreAlike (more_at (armed_count places) (armed_tick w)) (more_at (armed_count (set places n w)) (armed_tick (value_at places n)))
with_another places n w is = λ t. elim (cases_lt n (length places)) [
  | inl inside ↦ sym (sum_by-set (λ v. once_at (armed_tick v) t) places n w None inside)
  | inr past ↦ cc (sym (ap is_some (get_or_past places n None past)) ∙ is)
]

pub exchanged : (places after : List (Option Sleep)) (n : ℕ) (w : Option Sleep) (from to : Option ℕ) → is_some (value_at places n) ≡ true → after ≡ set places n w
    → from ≡ armed_tick (value_at places n) → to ≡ armed_tick w → AreAlike (more_at (armed_count places) to) (more_at (armed_count after) from)
exchanged places after n w from to is after_is from_is to_is = λ t.
    ap (λ o. more_at (armed_count places) o t) to_is
    ∙ with_another places n w is t
    ∙ sym (ap (λ ps. more_at (armed_count ps) (armed_tick (value_at places n)) t) after_is)
    ∙ sym (ap (λ o. more_at (armed_count after) o t) from_is)

pub with_fresh : (places : List (Option Sleep)) (nanos : ℕ) → AreAlike (armed_count places) (armed_count (places ++ Some (sleep.Fresh nanos) ∷ []))
with_fresh places nanos = λ t. omega (arith, sum_by_push (λ v. once_at (armed_tick v) t) places (Some (sleep.Fresh nanos)))

-- ---- what is due
at_place : (places : List (Option Sleep)) (s : ℕ) → value_at (map sleep_place places) s ≡ sleep_place (value_at places s)
at_place places s = get_or-map sleep_place places s None

due_armed : (v : Option Sleep) (g : ℕ) → IsDueSleep (sleep_place v) g → (tick : ℕ) × (armed_tick v ≡ Some tick) × (tick ≤ g)
due_armed None g due = absurd due
due_armed (Some (sleep.Fresh n)) g due = absurd due
due_armed (Some (sleep.Armed a)) g due = (a.tick, refl, due)
due_armed (Some sleep.Elapsed) g due = absurd due

armed_due : (v : Option Sleep) (g t : ℕ) → t ≤ g → 0 < once_at (armed_tick v) t → IsDueSleep (sleep_place v) g
armed_due None g t below some = absurd (omega (arith, some))
armed_due (Some (sleep.Fresh n)) g t below some = absurd (omega (arith, some))
armed_due (Some (sleep.Armed a)) g t below some = elim (cases_eq a.tick t) [
  | inl same ↦ omega (arith, same, below)
  | inr apart ↦ absurd (omega (arith, some, no_time a.tick t apart))
]
armed_due (Some sleep.Elapsed) g t below some = absurd (omega (arith, some))

is_counted : (places : List (Option Sleep)) (s tick : ℕ) → armed_tick (value_at places s) ≡ Some tick → 0 < armed_count places tick
is_counted places s tick is = elim (cases_lt s (length places)) [
  | inl inside ↦ omega (arith, ap (λ o. once_at o tick) is, one_time tick, get_or-le-sum_by (λ v. once_at (armed_tick v) tick) places s None inside)
  | inr past ↦ cc (is, ap armed_tick (get_or_past places s None past))
]

pub none_due : (places : List (Option Sleep)) (g : ℕ) → AreNoneUpTo g (armed_count places) → IsNoneDue (map sleep_place places) g
none_due places g none = λ s due.
    let is = due_armed (value_at places s) g (subst (λ v. IsDueSleep v g) (at_place places s) due) in
    omega (arith, none is.0 is.2, is_counted places s is.0 is.1)

-- a tick with a count has a sleep
found : (places : List (Option Sleep)) (t : ℕ) → 0 < armed_count places t → (s : ℕ) × (0 < once_at (armed_tick (value_at places s)) t)
found [] t some = absurd (omega (arith, some))
found (x ∷ places) t some = elim (cases_lt 0 (once_at (armed_tick x) t)) [
  | inl here ↦ (0, here)
  | inr none ↦ (
      let rest = found places t (omega (arith, some, none, sum_by-cons (λ v. once_at (armed_tick v) t) x places)) in
      (suc rest.0, rest.1))
]

pub one_due : (places : List (Option Sleep)) (g : ℕ) → IsOneUpTo g (armed_count places) → IsNoneDue (map sleep_place places) g → ⊥
one_due places g one none =
    let at = found places one.0 one.2 in
    none at.0 (subst (λ v. IsDueSleep v g) (sym (at_place places at.0)) (armed_due (value_at places at.0) g one.0 one.1 at.1))

pub due_told : (places : List (Option Sleep)) (g : ℕ) (told : Bool) → MatchBool told (AreNoneUpTo g (armed_count places)) (IsOneUpTo g (armed_count places))
    → MatchBool told (IsNoneDue (map sleep_place places) g) (IsNoneDue (map sleep_place places) g → ⊥)
due_told places g true none = none_due places g none
due_told places g false one = one_due places g one
