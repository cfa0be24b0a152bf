-- Each session in a queue is open, and is there once.
use Rattle.std.proofs.Common.{◌≡◌, ◌<◌, ◌≤◌, inl, inr, ℕ, ◌+◌, zero, suc, true, false, Bool, cond, List, [], ◌∷◌, ◌++◌, length, Some, None, Option, refl, ap, sym, subst, ◌∙◌, arith}
use Rattle.std.specs.Prelude.{Ok, Err, ◌==◌, ◌&&◌, ◌||◌, not, nat_le, is_some, filter, set, Contains}
use Rattle.std.proofs.lemmas.Bool.{cases_eq, cases_lt}
use Rattle.std.proofs.lemmas.Bool.Decides.{eqb_tells}
use Rattle.std.proofs.lemmas.List.{get_or-set_other, get_or-set_same, get_or_past}
use Rattle.mono_model.specs.Table.{Table, value_at, with_next}
use Rattle.mono_model.specs.Valid.{times, once_if}
use Rattle.mono_session.specs.Keeper.{Session, Entry, Keeper, no_sessions, queue_in, queue_of, is_entry, stands_in, is_open, with_sessions, with_entries, with_greatest, of_open, open_answer, opened, beat_answer, beaten, beaten_value, close_answer, closed, without_session, acquire_answer, acquired, release_answer, released}
use Rattle.mono_session.specs.Calls.{Call}
use Rattle.mono_session.specs.Calls as call
use Rattle.mono_session.specs.Answers.{Answer, of_number, of_done, of_first, of_owner}
use Rattle.mono_session.specs.Answers as answer
use Rattle.mono_session.specs.Steps.{greatest_at, without_all, ClockStep, Step, Run}
use Rattle.mono_session.specs.Laws.{come_if, leave, leave_if, leave_all, OnlyOpenStand}
use Rattle.mono_session.specs.declared.error.SessionError.{SessionError}
use Rattle.mono_session.specs.declared.error.SessionError.TheVariants.{AtCapacity, NoSession, Doubled}
use Rattle.mono_session.proofs.CloseLemmas.{value_before, given, either_way, by_result, all_others, is_in_or_out}
use Rattle.mono_session.proofs.CallHistoryLemmas.{queue_last, queue_released, queue_closed, queue_all, beat_entries}

true-false : true ≡ false → ⊥
true-false e = cc

err-ok : {A : Type 0} (e : SessionError) (x : A) → Err e ≡ Ok x → ⊥
err-ok e x same = cc

-- ---- how often a session stands in a list
times-last : (xs : List ℕ) (x s : ℕ) → times (xs ++ x ∷ []) s ≡ times xs s + once_if (x == s)
times-last [] x s = omega arith
times-last (y ∷ ys) x s = omega (arith, times-last ys x s)

times-leave : (xs : List ℕ) (x s : ℕ) → times (leave x xs) s ≤ times xs s
times-leave [] x s = omega arith
times-leave (y ∷ ys) x s = by (y == x) (times-leave ys x s)
  where
    by : (b : Bool) → times (leave x ys) s ≤ times ys s → times (cond (not b) (y ∷ leave x ys) (leave x ys)) s ≤ once_if (y == s) + times ys s
    by true rest = omega (arith, rest)
    by false rest = omega (arith, rest)

times-left : (xs : List ℕ) (s : ℕ) → times (leave s xs) s ≡ 0
times-left [] s = refl
times-left (y ∷ ys) s = by (y == s) refl (times-left ys s)
  where
    by : (b : Bool) → (y == s) ≡ b → times (leave s ys) s ≡ 0 → times (cond (not b) (y ∷ leave s ys) (leave s ys)) s ≡ 0
    by true e rest = rest
    by false e rest = omega (arith, ap once_if e, rest)

times-all : (list xs : List ℕ) (s : ℕ) → times (leave_all list xs) s ≤ times xs s
times-all [] xs s = omega arith
times-all (x ∷ list) xs s = omega (arith, times-all list (leave x xs) s, times-leave xs x s)

times-all_left : (list xs : List ℕ) (s : ℕ) → Contains list s → times (leave_all list xs) s ≡ 0
times-all_left [] xs s (k, inside, at) = absurd (omega (arith, inside))
times-all_left (x ∷ list) xs s (zero, inside, at) = omega (arith, times-all list (leave x xs) s, ap (λ q. times (leave q xs) s) at, times-left xs s)
times-all_left (x ∷ list) xs s (suc k, inside, at) = times-all_left list (leave x xs) s (k, omega (arith, inside), at)

times-come : (key x at s : ℕ) (xs : List ℕ) → times (come_if key x at xs) s ≤ times xs s + once_if (x == s)
times-come key x at s xs = by (at == key)
  where
    by : (b : Bool) → times (cond b (xs ++ x ∷ []) xs) s ≤ times xs s + once_if (x == s)
    by true = omega (arith, times-last xs x s)
    by false = omega arith

times-leave_if : (key x at s : ℕ) (xs : List ℕ) → times (leave_if key x at xs) s ≤ times xs s
times-leave_if key x at s xs = by (at == key)
  where
    by : (b : Bool) → times (cond b (leave x xs) xs) s ≤ times xs s
    by true = times-leave xs x s
    by false = omega arith

-- A session without an entry is not in the queue.
times-stands : (es : List Entry) (s key : ℕ) → stands_in es s key ≡ false → times (queue_in es key) s ≡ 0
times-stands [] s key e = refl
times-stands (x ∷ es) s key e = by (x.key == key) (x.session == s) refl e (times-stands es s key)
  where
    by : (b c : Bool) → (x.session == s) ≡ c → ((c && b) || stands_in es s key) ≡ false → (stands_in es s key ≡ false → times (queue_in es key) s ≡ 0)
        → times (cond b (x.session ∷ queue_in es key) (queue_in es key)) s ≡ 0
    by true true same f rest = absurd (true-false f)
    by true false other f rest = omega (arith, ap once_if other, rest f)
    by false true same f rest = rest f
    by false false other f rest = rest f

-- ---- what holds between any two calls
abbrev Holds : Keeper → Type 0
Holds keeper = (key s : ℕ) → (times (queue_of keeper key) s ≤ 1) × (0 < times (queue_of keeper key) s → is_open keeper s ≡ true)

-- No queue gains a session, and each session that stays in one stays open.
shrinks : (old new : Keeper) → ((key s : ℕ) → times (queue_of new key) s ≤ times (queue_of old key) s) → ((key s : ℕ) → 0 < times (queue_of new key) s → is_open old s ≡ true → is_open new s ≡ true) → Holds old → Holds new
shrinks old new fewer stays holds = λ key s. (
  omega (arith, fewer key s, (holds key s).0),
  λ stands. stays key s stands ((holds key s).1 (omega (arith, stands, fewer key s))),
)

some_inside : (table : Table Session) (s : ℕ) → is_some (value_at table s) ≡ true → s < length table
some_inside table s is = elim (cases_lt s (length table)) [
  | inl inside ↦ inside
  | inr past ↦ absurd (true-false (sym is ∙ ap is_some (get_or_past table s None past)))
]

open_holds : (old : Keeper) (limit : ℕ) → Holds old → Holds (opened old limit)
open_holds old limit holds = either_way Holds (open_answer old limit) old _ holds
    (shrinks old (with_sessions old (with_next old.sessions (record { last_beat = old.greatest; limit = limit }))) (λ key s. omega arith)
    (λ key s stands is. ap is_some (value_before old.sessions (record { last_beat = old.greatest; limit = limit }) s (some_inside old.sessions s is)) ∙ is) holds)

beat_open : (w : Option Session) (old : Keeper) (o s : ℕ) → value_at old.sessions o ≡ w → is_open old s ≡ true → is_open (beaten_value w old o) s ≡ true
beat_open None old o s at is = is
beat_open (Some session) old o s at is = elim (cases_eq s o) [
  | inl same ↦ ap (λ q. is_some (value_at (set old.sessions o (Some record { last_beat = old.greatest; limit = session.limit })) q)) same ∙ ap is_some (get_or-set_same old.sessions o _ None (given old.sessions o session at))
  | inr apart ↦ ap is_some (get_or-set_other old.sessions o s _ None apart) ∙ is
]

beat_holds : (old : Keeper) (o : ℕ) → Holds old → Holds (beaten old o)
beat_holds old o holds = either_way Holds (beat_answer old o) old _ holds
    (shrinks old (beaten_value (value_at old.sessions o) old o)
    (λ key s. omega (arith, ap (λ es. times (queue_in es key) s) (beat_entries (value_at old.sessions o) old o)))
    (λ key s stands is. beat_open (value_at old.sessions o) old o s refl is) holds)

close_holds : (old : Keeper) (o : ℕ) → Holds old → Holds (closed old o)
close_holds old o holds = either_way Holds (close_answer old o) old _ holds
    (shrinks old (without_session old o)
    (λ key s. omega (arith, ap (λ q. times q s) (queue_closed old.entries o key), times-leave (queue_of old key) o s))
    (λ key s stands is. elim (cases_eq s o) [
      | inl same ↦ absurd (omega (arith, stands, ap (λ q. times q s) (queue_closed old.entries o key), ap (λ x. times (leave x (queue_of old key)) s) (sym same), times-left (queue_of old key) s))
      | inr apart ↦ ap is_some (get_or-set_other old.sessions o s None None apart) ∙ is
    ]) holds)

granted : (full : Bool) (v : Option Session) (stands : Bool) (first x : Bool) (e f : SessionError) → cond full (Err e) (of_open v (λ session. cond stands (Err f) (Ok first))) ≡ Ok x → (is_some v ≡ true) × (stands ≡ false)
granted true v stands first x e f is = absurd (err-ok e x is)
granted false None stands first x e f is = absurd (err-ok NoSession x is)
granted false (Some session) true first x e f is = absurd (err-ok f x is)
granted false (Some session) false first x e f is = (refl, refl)

come_holds : (old : Keeper) (o at : ℕ) → is_open old o ≡ true → stands_in old.entries o at ≡ false → Holds old → Holds (with_entries old (old.entries ++ record { session = o; key = at } ∷ []))
come_holds old o at is_there out holds key s = elim (eqb_tells at key) [
  | inr other ↦ (
      let same : times (queue_in (old.entries ++ record { session = o; key = at } ∷ []) key) s ≡ times (queue_of old key) s =
      ap (λ q. times q s) (queue_last old.entries o at key ∙ ap (λ b. cond b (queue_of old key ++ o ∷ []) (queue_of old key)) other.0) in
      (omega (arith, same, (holds key s).0), λ stands. (holds key s).1 (omega (arith, stands, same))))
  | inl here ↦ (
      let longer : times (queue_in (old.entries ++ record { session = o; key = at } ∷ []) key) s ≡ times (queue_of old key) s + once_if (o == s) =
      ap (λ q. times q s) (queue_last old.entries o at key ∙ ap (λ b. cond b (queue_of old key ++ o ∷ []) (queue_of old key)) here.0) ∙ times-last (queue_of old key) o s in
      elim (eqb_tells o s) [
        | inl same ↦ (
            let none : times (queue_of old key) s ≡ 0 = ap (times (queue_of old key)) (sym same.1) ∙ ap (λ k. times (queue_of old k) o) (sym here.1) ∙ times-stands old.entries o at out in
            (omega (arith, longer, none, ap once_if same.0), λ stands. ap (is_open old) (sym same.1) ∙ is_there))
        | inr apart ↦ (omega (arith, longer, ap once_if apart.0, (holds key s).0), λ stands. (holds key s).1 (omega (arith, stands, longer, ap once_if apart.0)))
      ])
]

acquire_holds : (old : Keeper) (o at : ℕ) → Holds old → Holds (acquired old o at)
acquire_holds old o at holds = by_result Holds (acquire_answer old o at) old _ holds (λ x is.
    let both = granted (nat_le old.most_entries (length old.entries)) (value_at old.sessions o) (stands_in old.entries o at) (length (queue_of old at) == 0) x AtCapacity Doubled is in
    come_holds old o at both.0 both.1 holds)

release_holds : (old : Keeper) (o at : ℕ) → Holds old → Holds (released old o at)
release_holds old o at holds = either_way Holds (release_answer old o at) old _ holds
    (shrinks old (with_entries old (filter (λ entry. not (is_entry o at entry)) old.entries))
    (λ key s. omega (arith, ap (λ q. times q s) (queue_released old.entries o at key), times-leave_if key o at s (queue_of old key)))
    (λ key s stands is. is) holds)

clock_holds : (old mid : Keeper) (n : ℕ) (a : Answer) → ClockStep old n a mid → Holds old → Holds mid
clock_holds old mid n (answer.Closed list) step holds = subst Holds (sym step.2)
    (shrinks old (without_all (with_greatest old (greatest_at old n)) list)
    (λ key s. omega (arith, ap (λ q. times q s) (queue_all (with_greatest old (greatest_at old n)) list key), times-all list (queue_of old key) s))
    (λ key s stands is. elim (is_in_or_out list s) [
      | inl c ↦ absurd (omega (arith, stands, ap (λ q. times q s) (queue_all (with_greatest old (greatest_at old n)) list key), times-all_left list (queue_of old key) s c))
      | inr out ↦ ap is_some (all_others (with_greatest old (greatest_at old n)) list s out) ∙ is
    ]) holds)
clock_holds old mid n (answer.Refused e) step holds = subst Holds (sym step.2) holds
clock_holds old mid n (answer.Session q) step holds = absurd step
clock_holds old mid n answer.Done step holds = absurd step
clock_holds old mid n answer.Held step holds = absurd step
clock_holds old mid n answer.Waits step holds = absurd step
clock_holds old mid n (answer.Owner q) step holds = absurd step
clock_holds old mid n answer.Free step holds = absurd step

step_holds : (old mid : Keeper) (c : Call) (a : Answer) → Step old c a mid → Holds old → Holds mid
step_holds old mid (call.Open limit) a step holds = subst Holds (sym step.1) (open_holds old limit holds)
step_holds old mid (call.Beat o) a step holds = subst Holds (sym step.1) (beat_holds old o holds)
step_holds old mid (call.Close o) a step holds = subst Holds (sym step.1) (close_holds old o holds)
step_holds old mid (call.Acquire o at) a step holds = subst Holds (sym step.1) (acquire_holds old o at holds)
step_holds old mid (call.Release o at) a step holds = subst Holds (sym step.1) (release_holds old o at holds)
step_holds old mid (call.Owner at) a step holds = subst Holds (sym step.1) holds
step_holds old mid (call.Clock n) a step holds = clock_holds old mid n a step holds

run_holds : (calls : List Call) (answers : List Answer) (old new : Keeper) → Run old calls answers new → Holds old → Holds new
run_holds [] [] old new run holds = subst Holds (sym run) holds
run_holds [] (a ∷ answers) old new run holds = absurd run
run_holds (c ∷ calls) [] old new run holds = absurd run
run_holds (c ∷ calls) (a ∷ answers) old new (mid, step, run) holds = run_holds calls answers mid new run (step_holds old mid c a step holds)

pub only_open_stand : OnlyOpenStand
only_open_stand calls answers most_sessions most_entries new key s run =
    run_holds calls answers (no_sessions most_sessions most_entries) new run (λ k q. (omega arith, λ stands. absurd (omega (arith, stands)))) key s
