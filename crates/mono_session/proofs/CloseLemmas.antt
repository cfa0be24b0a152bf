-- When the clock closes a session.
use Rattle.std.proofs.Common.{◌≡◌, ◌≢◌, ◌<◌, ◌≤◌, ◌⊎◌, inl, inr, ℕ, ◌+◌, zero, suc, true, false, Bool, cond, List, [], ◌∷◌, length, get_or, Some, None, Option, refl, ap, sym, subst, ◌∙◌, arith}
use Rattle.std.specs.Prelude.{⊤, Result, Ok, Err, max, nat_le, nat_lt, ◌==◌, ◌||◌, AllPairs, Contains, IfSome, is_some}
use Rattle.std.proofs.lemmas.Bool.{cases_eq, cases_lt}
use Rattle.std.proofs.lemmas.Bool.Decides.{leb_tells, eqb_tells}
use Rattle.std.proofs.lemmas.List.{get_or-set_other, get_or-set_same, get_or_past, length-set, length-append}
use Rattle.mono_model.specs.Ticks.{down}
use Rattle.mono_model.specs.Table.{Table, value_at, next_number, with_next, is_full}
use Rattle.mono_model.specs.Due.{HasCome}
use Rattle.mono_model.specs.Valid.{times, once_if}
use Rattle.mono_session.specs.Keeper.{Session, Keeper, closing_tick, last_tick, no_sessions, with_sessions, with_greatest, if_granted, opened, open_answer, beaten, beat_answer, beaten_value, closed, close_answer, without_session, acquired, released}
use Rattle.mono_session.specs.Calls.{Call}
use Rattle.mono_session.specs.Calls as call
use Rattle.mono_session.specs.Answers.{Answer, of_number, of_done, of_first, of_owner}
use Rattle.mono_session.specs.Answers as answer
use Rattle.mono_session.specs.Steps.{closing_value, greatest_at, without_all, ClockStep, Step, Run}
use Rattle.mono_session.specs.Refinement.{AreTimely}
use Rattle.mono_session.specs.Laws.{is_on, has_call_on, closed_by, times_closed, ClosesInTime, NoneClosesTwice, NoneIsEverLate}
use Rattle.mono_session.specs.declared.error.SessionError.{SessionError}
use Rattle.mono_session.specs.declared.error.SessionError.TheVariants.{AtCapacity, Invalid, ZeroLimit}

true-false : true ≡ false → ⊥
true-false e = cc

none-some : {X : Type 0} (x : X) → None ≡ Some x → ⊥
none-some x e = cc

-- ---- lists
times-none : (xs : List ℕ) (s : ℕ) → (Contains xs s → ⊥) → times xs s ≡ 0
times-none [] s out = refl
times-none (x ∷ xs) s out = elim (eqb_tells x s) [
  | inl t ↦ absurd (out (0, omega arith, t.1))
  | inr t ↦ omega (arith, ap once_if t.0, times-none xs s (λ c. out (suc c.0, omega (arith, c.1), c.2)))
]

member : (xs : List ℕ) (s : ℕ) (c : Contains xs s) (d : ℕ) → get_or xs c.0 d ≡ s
member [] s (k, inside, at) d = absurd (omega (arith, inside))
member (x ∷ xs) s (zero, inside, at) d = at
member (x ∷ xs) s (suc k, inside, at) d = member xs s (k, omega (arith, inside), at) d

times-once : (xs : List ℕ) (s : ℕ) → AllPairs (λ a b. a ≢ b) xs → Contains xs s → times xs s ≡ 1
times-once [] s pairs (k, inside, at) = absurd (omega (arith, inside))
times-once (x ∷ xs) s pairs c = elim (eqb_tells x s) [
  | inl t ↦ omega (arith, ap once_if t.0, times-none xs s (λ more. pairs 0 (suc more.0) s (omega arith) (omega (arith, more.1)) (t.1 ∙ sym more.2)))
  | inr t ↦ omega (arith, ap once_if t.0, times-once xs s (λ i j d below inside. pairs (suc i) (suc j) d (omega (arith, below)) (omega (arith, inside))) (later c t.1))
]
  where
    later : (c : Contains (x ∷ xs) s) → (x ≢ s) → Contains xs s
    later (zero, inside, at) apart = absurd (apart at)
    later (suc k, inside, at) apart = (k, omega (arith, inside), at)

pub is_in_or_out : (xs : List ℕ) (s : ℕ) → Contains xs s ⊎ (Contains xs s → ⊥)
is_in_or_out [] s = inr (λ c. omega (arith, c.1))
is_in_or_out (x ∷ xs) s = elim (cases_eq x s) [
  | inl same ↦ inl (0, omega arith, same)
  | inr apart ↦ elim (is_in_or_out xs s) [
    | inl c ↦ inl (suc c.0, omega (arith, c.1), c.2)
    | inr out ↦ inr (out_of out apart)
  ]
]
  where
    out_of : (Contains xs s → ⊥) → (x ≢ s) → Contains (x ∷ xs) s → ⊥
    out_of out apart (zero, inside, at) = apart at
    out_of out apart (suc k, inside, at) = out (k, omega (arith, inside), at)

pub value_before : {V : Type 0} (table : Table V) (v : V) (s : ℕ) → s < length table → value_at (with_next table v) s ≡ value_at table s
value_before [] v s inside = absurd (omega (arith, inside))
value_before (x ∷ xs) v zero inside = refl
value_before (x ∷ xs) v (suc s) inside = value_before xs v s (omega (arith, inside))

pub value_past : {V : Type 0} (table : Table V) (v : V) (s : ℕ) → length table < s → value_at (with_next table v) s ≡ None
value_past table v s past = get_or_past (with_next table v) s None (omega (arith, past, length-append table (Some v ∷ [])))

pub value_last : {V : Type 0} (table : Table V) (v : V) → value_at (with_next table v) (length table) ≡ Some v
value_last [] v = refl
value_last (x ∷ xs) v = value_last xs v

pub given : {V : Type 0} (table : Table V) (s : ℕ) (v : V) → value_at table s ≡ Some v → s < length table
given table s v at = elim (cases_lt s (length table)) [ inl inside ↦ inside | inr past ↦ absurd (none-some v (sym (get_or_past table s None past) ∙ at)) ]

-- ---- what a call leaves
pub either_way : {A : Type 0} (P : Keeper → Type 0) (r : Result A SessionError) (before after : Keeper) → P before → P after → P (if_granted r before after)
either_way P (Ok x) before after old new = new
either_way P (Err e) before after old new = old

-- The clock and the session are unchanged.
abbrev Stays : Keeper → ℕ → Option Session → Keeper → Type 0
Stays old s v new = (value_at new.sessions s ≡ v) × (new.greatest ≡ old.greatest) × (s < length new.sessions)

module _ (old : Keeper) (s : ℕ) (v : Option Session) (at : value_at old.sessions s ≡ v) (inside : s < length old.sessions) where
  here : Stays old s v old
  here = (at, refl, inside)

  after_open : (limit : ℕ) → Stays old s v (opened old limit)
  after_open limit =
      either_way (Stays old s v) (open_answer old limit) old _ here (value_before old.sessions _ s inside ∙ at, refl, omega (arith, inside, length-append old.sessions (Some record { last_beat = old.greatest; limit = limit } ∷ [])))

  set_other : (other : ℕ) (w : Option Session) → s ≢ other → Stays old s v (with_sessions old (Rattle.std.specs.Prelude.set old.sessions other w))
  set_other other w apart = (get_or-set_other old.sessions other s w None apart ∙ at, refl, omega (arith, inside, length-set old.sessions other w))

  after_beat_value : (other : ℕ) → s ≢ other → (w : Option Session) → Stays old s v (beaten_value w old other)
  after_beat_value other apart None = here
  after_beat_value other apart (Some session) = set_other other (Some record { last_beat = old.greatest; limit = session.limit }) apart

  after_beat : (other : ℕ) → s ≢ other → Stays old s v (beaten old other)
  after_beat other apart = either_way (Stays old s v) (beat_answer old other) old _ here (after_beat_value other apart (value_at old.sessions other))

  after_close : (other : ℕ) → s ≢ other → Stays old s v (closed old other)
  after_close other apart = either_way (Stays old s v) (close_answer old other) old _ here (set_other other None apart)

  after_acquire : (other key : ℕ) → Stays old s v (acquired old other key)
  after_acquire other key = either_way (Stays old s v) _ old _ here here

  after_release : (other key : ℕ) → Stays old s v (released old other key)
  after_release other key = either_way (Stays old s v) _ old _ here here

-- ---- what a clock step leaves
pub all_greatest : (keeper : Keeper) (list : List ℕ) → (without_all keeper list).greatest ≡ keeper.greatest
all_greatest keeper [] = refl
all_greatest keeper (x ∷ xs) = all_greatest (without_session keeper x) xs

pub all_length : (keeper : Keeper) (list : List ℕ) → length (without_all keeper list).sessions ≡ length keeper.sessions
all_length keeper [] = refl
all_length keeper (x ∷ xs) = all_length (without_session keeper x) xs ∙ length-set keeper.sessions x None

pub all_others : (keeper : Keeper) (list : List ℕ) (s : ℕ) → (Contains list s → ⊥) → value_at (without_all keeper list).sessions s ≡ value_at keeper.sessions s
all_others keeper [] s out = refl
all_others keeper (x ∷ xs) s out =
    all_others (without_session keeper x) xs s (λ c. out (suc c.0, omega (arith, c.1), c.2)) ∙ get_or-set_other keeper.sessions x s None None (λ same. out (0, omega arith, sym same))

none_stays : (keeper : Keeper) (x s : ℕ) → value_at keeper.sessions s ≡ None → value_at (without_session keeper x).sessions s ≡ None
none_stays keeper x s none = elim (cases_eq s x) [
  | inl same ↦ elim (cases_lt x (length keeper.sessions)) [
    | inl inside ↦ ap (λ q. value_at (without_session keeper x).sessions q) same ∙ get_or-set_same keeper.sessions x None None inside
    | inr past ↦ get_or_past (without_session keeper x).sessions s None (omega (arith, past, same, length-set keeper.sessions x None))
  ]
  | inr apart ↦ get_or-set_other keeper.sessions x s None None apart ∙ none
]

all_none : (keeper : Keeper) (list : List ℕ) (s : ℕ) → value_at keeper.sessions s ≡ None → value_at (without_all keeper list).sessions s ≡ None
all_none keeper [] s none = none
all_none keeper (x ∷ xs) s none = all_none (without_session keeper x) xs s (none_stays keeper x s none)

pub all_gone : (keeper : Keeper) (list : List ℕ) (s : ℕ) → s < length keeper.sessions → Contains list s → value_at (without_all keeper list).sessions s ≡ None
all_gone keeper [] s inside (k, within, at) = absurd (omega (arith, within))
all_gone keeper (x ∷ xs) s inside (zero, within, at) =
    all_none (without_session keeper x) xs s (ap (λ q. value_at (without_session keeper x).sessions q) (sym at) ∙ get_or-set_same keeper.sessions x None None (omega (arith, inside, at)))
all_gone keeper (x ∷ xs) s inside (suc k, within, at) = all_gone (without_session keeper x) xs s (omega (arith, inside, length-set keeper.sessions x None)) (k, omega (arith, within), at)

not_on : (a s : ℕ) → (a == s) ≡ false → s ≢ a
not_on a s e = elim (eqb_tells a s) [ inl t ↦ absurd (true-false (sym t.0 ∙ e)) | inr t ↦ λ same. t.1 (sym same) ]

or_left : (a b : Bool) → (a || b) ≡ false → a ≡ false
or_left true b e = e
or_left false b e = refl

or_right : (a b : Bool) → (a || b) ≡ false → b ≡ false
or_right true b e = absurd (true-false e)
or_right false b e = e

closed-number : (r : Result ℕ SessionError) (s : ℕ) → times (closed_by (of_number r)) s ≡ 0
closed-number (Ok n) s = refl
closed-number (Err e) s = refl

closed-done : (r : Result ⊤ SessionError) (s : ℕ) → times (closed_by (of_done r)) s ≡ 0
closed-done (Ok x) s = refl
closed-done (Err e) s = refl

closed-first : (r : Result Bool SessionError) (s : ℕ) → times (closed_by (of_first r)) s ≡ 0
closed-first (Ok true) s = refl
closed-first (Ok false) s = refl
closed-first (Err e) s = refl

closed-owner : (r : Option ℕ) (s : ℕ) → times (closed_by (of_owner r)) s ≡ 0
closed-owner None s = refl
closed-owner (Some o) s = refl

none_closed : (a b : Answer) (s : ℕ) → a ≡ b → times (closed_by b) s ≡ 0 → times (closed_by a) s ≡ 0
none_closed a b s same none = ap (λ x. times (closed_by x) s) same ∙ none

-- ---- one step, for a session that is open
abbrev pub StaysOpen : Keeper → ℕ → Session → Answer → Keeper → Type 0
StaysOpen old s session a mid = (value_at mid.sessions s ≡ Some session) × (mid.greatest < closing_tick session) × (times (closed_by a) s ≡ 0)

abbrev pub IsClosed : ℕ → Session → Answer → Keeper → Type 0
IsClosed s session a mid = (value_at mid.sessions s ≡ None) × (s < length mid.sessions) × (closing_tick session ≤ mid.greatest) × (times (closed_by a) s ≡ 1)

module _ (old : Keeper) (s : ℕ) (session : Session) (at : value_at old.sessions s ≡ Some session) (early : old.greatest < closing_tick session) where
  inside_of : s < length old.sessions
  inside_of = given old.sessions s session at

  stays_open : (a : Answer) (mid x : Keeper) → mid ≡ x → Stays old s (Some session) x → times (closed_by a) s ≡ 0 → StaysOpen old s session a mid
  stays_open a mid x same stays none = (ap (λ (k : Keeper). value_at k.sessions s) same ∙ stays.0, omega (arith, ap (λ (k : Keeper). k.greatest) same, stays.1, early), none)

  clock_goes : (n : ℕ) (a : Answer) (mid : Keeper) → ClockStep old n a mid → StaysOpen old s session a mid ⊎ IsClosed s session a mid
  clock_goes n (answer.Closed list) mid step =
      let g : ℕ = greatest_at old n in
      let grown : mid.greatest ≡ g = ap (λ (k : Keeper). k.greatest) step.2 ∙ all_greatest (with_greatest old g) list in
      elim (is_in_or_out list s) [
        | inl c ↦ inr (
          ap (λ (k : Keeper). value_at k.sessions s) step.2 ∙ all_gone (with_greatest old g) list s inside_of c,
          omega (arith, inside_of, ap (λ (k : Keeper). length k.sessions) step.2, all_length (with_greatest old g) list),
          omega (arith, grown, subst (λ w. HasCome g (closing_value w)) at ((step.1.all_due s).0 c)),
          times-once list s step.1.no_doubles c,
        )
        | inr out ↦ inl (
          ap (λ (k : Keeper). value_at k.sessions s) step.2 ∙ all_others (with_greatest old g) list s out ∙ at,
          elim (cases_lt g (closing_tick session)) [
            | inl before ↦ omega (arith, before, grown)
            | inr come ↦ absurd (out ((step.1.all_due s).1 (subst (λ w. HasCome g (closing_value w)) (sym at) come)))
          ],
          times-none list s out,
        )
      ]
  clock_goes n (answer.Refused e) mid step = inl (stays_open (answer.Refused e) mid old step.2 (here old s (Some session) at inside_of) refl)
  clock_goes n (answer.Session q) mid step = absurd step
  clock_goes n answer.Done mid step = absurd step
  clock_goes n answer.Held mid step = absurd step
  clock_goes n answer.Waits mid step = absurd step
  clock_goes n (answer.Owner q) mid step = absurd step
  clock_goes n answer.Free mid step = absurd step

  pub step_goes : (c : Call) (a : Answer) (mid : Keeper) → is_on s c ≡ false → Step old c a mid → StaysOpen old s session a mid ⊎ IsClosed s session a mid
  step_goes (call.Open limit) a mid off step = inl (stays_open a mid _ step.1 (after_open old s (Some session) at inside_of limit) (none_closed a _ s step.0 (closed-number _ s)))
  step_goes (call.Beat o) a mid off step = inl (stays_open a mid _ step.1 (after_beat old s (Some session) at inside_of o (not_on o s off)) (none_closed a _ s step.0 (closed-done _ s)))
  step_goes (call.Close o) a mid off step = inl (stays_open a mid _ step.1 (after_close old s (Some session) at inside_of o (not_on o s off)) (none_closed a _ s step.0 (closed-done _ s)))
  step_goes (call.Acquire o key) a mid off step = inl (stays_open a mid _ step.1 (after_acquire old s (Some session) at inside_of o key) (none_closed a _ s step.0 (closed-first _ s)))
  step_goes (call.Release o key) a mid off step = inl (stays_open a mid _ step.1 (after_release old s (Some session) at inside_of o key) (none_closed a _ s step.0 (closed-done _ s)))
  step_goes (call.Owner key) a mid off step = inl (stays_open a mid _ step.1 (here old s (Some session) at inside_of) (none_closed a _ s step.0 (closed-owner _ s)))
  step_goes (call.Clock n) a mid off step = clock_goes n a mid step

-- ---- one step, for a session that is not open any more
abbrev pub StaysShut : ℕ → Keeper → Type 0
StaysShut s mid = (value_at mid.sessions s ≡ None) × (s < length mid.sessions)

module _ (old : Keeper) (s : ℕ) (at : value_at old.sessions s ≡ None) (inside : s < length old.sessions) where
  shut_here : StaysShut s old
  shut_here = (at, inside)

  shut_beat : (o : ℕ) → StaysShut s (beaten old o)
  shut_beat o = elim (cases_eq s o) [
    | inl same ↦ either_way (StaysShut s) (beat_answer old o) old _ shut_here (subst (λ w. StaysShut s (beaten_value w old o)) (sym (ap (value_at old.sessions) (sym same) ∙ at)) shut_here)
    | inr apart ↦ (let stays = after_beat old s None at inside o apart in (stays.0, stays.2))
  ]

  shut_close : (o : ℕ) → StaysShut s (closed old o)
  shut_close o = either_way (StaysShut s) (close_answer old o) old _ shut_here (none_stays old o s at, omega (arith, inside, length-set old.sessions o None))

  moves : (mid x : Keeper) → mid ≡ x → StaysShut s x → StaysShut s mid
  moves mid x same stays = subst (StaysShut s) (sym same) stays

  shut_clock : (n : ℕ) (a : Answer) (mid : Keeper) → ClockStep old n a mid → StaysShut s mid × (times (closed_by a) s ≡ 0)
  shut_clock n (answer.Closed list) mid step = (
    moves mid _ step.2 (all_none (with_greatest old (greatest_at old n)) list s at, omega (arith, inside, all_length (with_greatest old (greatest_at old n)) list)),
    times-none list s (λ c. subst (λ w. HasCome (greatest_at old n) (closing_value w)) at ((step.1.all_due s).0 c)),
  )
  shut_clock n (answer.Refused e) mid step = (moves mid old step.2 shut_here, refl)
  shut_clock n (answer.Session q) mid step = absurd step
  shut_clock n answer.Done mid step = absurd step
  shut_clock n answer.Held mid step = absurd step
  shut_clock n answer.Waits mid step = absurd step
  shut_clock n (answer.Owner q) mid step = absurd step
  shut_clock n answer.Free mid step = absurd step

  pub step_shut : (c : Call) (a : Answer) (mid : Keeper) → Step old c a mid → StaysShut s mid × (times (closed_by a) s ≡ 0)
  step_shut (call.Open limit) a mid step = (let stays = after_open old s None at inside limit in (moves mid _ step.1 (stays.0, stays.2), none_closed a _ s step.0 (closed-number _ s)))
  step_shut (call.Beat o) a mid step = (moves mid _ step.1 (shut_beat o), none_closed a _ s step.0 (closed-done _ s))
  step_shut (call.Close o) a mid step = (moves mid _ step.1 (shut_close o), none_closed a _ s step.0 (closed-done _ s))
  step_shut (call.Acquire o key) a mid step = (let stays = after_acquire old s None at inside o key in (moves mid _ step.1 (stays.0, stays.2), none_closed a _ s step.0 (closed-first _ s)))
  step_shut (call.Release o key) a mid step = (let stays = after_release old s None at inside o key in (moves mid _ step.1 (stays.0, stays.2), none_closed a _ s step.0 (closed-done _ s)))
  step_shut (call.Owner key) a mid step = (moves mid old step.1 shut_here, none_closed a _ s step.0 (closed-owner _ s))
  step_shut (call.Clock n) a mid step = shut_clock n a mid step

shut_run : (calls : List Call) (answers : List Answer) (old new : Keeper) (s : ℕ) → value_at old.sessions s ≡ None → s < length old.sessions → Run old calls answers new → times_closed s answers ≡ 0
shut_run [] [] old new s at inside run = refl
shut_run [] (a ∷ answers) old new s at inside run = absurd run
shut_run (c ∷ calls) [] old new s at inside run = absurd run
shut_run (c ∷ calls) (a ∷ answers) old new s at inside (mid, step, run) =
    let one = step_shut old s at inside c a mid step in
    omega (arith, one.1, shut_run calls answers mid new s one.0.0 one.0.1 run)

not_some : (v : Option Session) → is_some v ≡ false → v ≡ None
not_some None e = refl
not_some (Some session) e = absurd (true-false e)

pub none_closes_twice : NoneClosesTwice
none_closes_twice calls answers old new s inside shut run = shut_run calls answers old new s (not_some (value_at old.sessions s) shut) inside run

-- ---- the clock only goes on
granted_greatest : {A : Type 0} (old after : Keeper) (r : Result A SessionError) → after.greatest ≡ old.greatest → (if_granted r old after).greatest ≡ old.greatest
granted_greatest old after r same = either_way (λ k. k.greatest ≡ old.greatest) r old after refl same

beat_greatest : (old : Keeper) (o : ℕ) (w : Option Session) → (beaten_value w old o).greatest ≡ old.greatest
beat_greatest old o None = refl
beat_greatest old o (Some session) = refl

clock_grows : (old mid : Keeper) (n : ℕ) (a : Answer) → ClockStep old n a mid → old.greatest ≤ mid.greatest
clock_grows old mid n (answer.Closed list) step = omega (arith, ap (λ (k : Keeper). k.greatest) step.2, all_greatest (with_greatest old (greatest_at old n)) list)
clock_grows old mid n (answer.Refused e) step = omega (arith, ap (λ (k : Keeper). k.greatest) step.2)
clock_grows old mid n (answer.Session q) step = absurd step
clock_grows old mid n answer.Done step = absurd step
clock_grows old mid n answer.Held step = absurd step
clock_grows old mid n answer.Waits step = absurd step
clock_grows old mid n (answer.Owner q) step = absurd step
clock_grows old mid n answer.Free step = absurd step

same_tick : (old mid x : Keeper) → mid ≡ x → x.greatest ≡ old.greatest → old.greatest ≤ mid.greatest
same_tick old mid x same tick = omega (arith, ap (λ (k : Keeper). k.greatest) same, tick)

pub step_grows : (old mid : Keeper) (c : Call) (a : Answer) → Step old c a mid → old.greatest ≤ mid.greatest
step_grows old mid (call.Open limit) a step = same_tick old mid _ step.1 (granted_greatest old _ (open_answer old limit) refl)
step_grows old mid (call.Beat o) a step = same_tick old mid _ step.1 (granted_greatest old _ (beat_answer old o) (beat_greatest old o (value_at old.sessions o)))
step_grows old mid (call.Close o) a step = same_tick old mid _ step.1 (granted_greatest old _ (close_answer old o) refl)
step_grows old mid (call.Acquire o key) a step = same_tick old mid _ step.1 (granted_greatest old _ _ refl)
step_grows old mid (call.Release o key) a step = same_tick old mid _ step.1 (granted_greatest old _ _ refl)
step_grows old mid (call.Owner key) a step = same_tick old mid old step.1 refl
step_grows old mid (call.Clock n) a step = clock_grows old mid n a step

run_grows : (calls : List Call) (answers : List Answer) (old new : Keeper) → Run old calls answers new → old.greatest ≤ new.greatest
run_grows [] [] old new run = omega (arith, ap (λ (k : Keeper). k.greatest) run)
run_grows [] (a ∷ answers) old new run = absurd run
run_grows (c ∷ calls) [] old new run = absurd run
run_grows (c ∷ calls) (a ∷ answers) old new (mid, step, run) = omega (arith, step_grows old mid c a step, run_grows calls answers mid new run)

le-tells : (a b : ℕ) → a ≤ b → nat_le a b ≡ true
le-tells a b le = elim (leb_tells a b) [ inl t ↦ t.0 | inr t ↦ absurd (omega (arith, t.1, le)) ]

gt-tells : (a b : ℕ) → b < a → nat_le a b ≡ false
gt-tells a b lt = elim (leb_tells a b) [ inl t ↦ absurd (omega (arith, t.1, lt)) | inr t ↦ t.0 ]

in_time : (calls : List Call) (answers : List Answer) (old new : Keeper) (s : ℕ) (session : Session) → old.greatest < closing_tick session → value_at old.sessions s ≡ Some session
    → has_call_on s calls ≡ false → Run old calls answers new → times_closed s answers ≡ cond (nat_le (closing_tick session) new.greatest) 1 0
in_time [] [] old new s session early at off run =
    sym (ap {B = ℕ} (λ b. cond b 1 0) (gt-tells (closing_tick session) new.greatest (omega (arith, early, ap (λ (k : Keeper). k.greatest) run))))
in_time [] (a ∷ answers) old new s session early at off run = absurd run
in_time (c ∷ calls) [] old new s session early at off run = absurd run
in_time (c ∷ calls) (a ∷ answers) old new s session early at off (mid, step, run) =
    elim (step_goes old s session at early c a mid (or_left (is_on s c) _ off) step) [
      | inl stays ↦ omega (arith, stays.2, in_time calls answers mid new s session stays.1 stays.0 (or_right (is_on s c) _ off) run)
      | inr gone ↦ omega (arith, gone.3, shut_run calls answers mid new s gone.0 gone.1 run, ap {B = ℕ} (λ b. cond b 1 0) (le-tells (closing_tick session) new.greatest (omega (arith, gone.2, run_grows calls answers mid new run))))
    ]

pub closes_in_time : ClosesInTime
closes_in_time calls answers old new s session none_late at off run =
    in_time calls answers old new s session (subst (λ v. IfSome v (λ x. old.greatest < closing_tick x)) at (none_late s)) at off run

-- ---- none is late

pub by_result : {A : Type 0} (P : Keeper → Type 0) (r : Result A SessionError) (before after : Keeper) → P before → ((x : A) → r ≡ Ok x → P after) → P (if_granted r before after)
by_result P (Ok x) before after old new = new x refl
by_result P (Err e) before after old new = old

err-ok : {A : Type 0} (e : SessionError) (x : A) → Err e ≡ Ok x → ⊥
err-ok e x same = cc

limit_given : (full late none : Bool) (e f g : SessionError) (n m : ℕ) → cond full (Err e) (cond late (Err f) (cond none (Err g) (Ok n))) ≡ Ok m → none ≡ false
limit_given true late none e f g n m same = absurd (err-ok e m same)
limit_given false true none e f g n m same = absurd (err-ok f m same)
limit_given false false true e f g n m same = absurd (err-ok g m same)
limit_given false false false e f g n m same = refl

same-session : (x y : Session) → Some x ≡ Some y → x ≡ y
same-session x y e = cc

abbrev IsTimely : ℕ → Session → Type 0
IsTimely g session = (session.last_beat ≤ g) × (g < closing_tick session)

new_timely : (old : Keeper) (limit : ℕ) → limit ≢ 0 → AreTimely old → AreTimely (with_sessions old (with_next old.sessions (record { last_beat = old.greatest; limit = limit })))
new_timely old limit some timely s session at = elim (cases_lt s (length old.sessions)) [
  | inl inside ↦ timely s session (sym (value_before old.sessions _ s inside) ∙ at)
  | inr past ↦ elim (cases_eq s (length old.sessions)) [
    | inl last ↦ subst (IsTimely old.greatest) (same-session _ session (sym (ap (value_at (with_next old.sessions new)) last ∙ value_last old.sessions new) ∙ at)) (omega arith, omega (arith, some))
    | inr later ↦ absurd (none-some session (sym (value_past old.sessions new s (omega (arith, past, later))) ∙ at))
  ]
]
  where
    new : Session
    new = record { last_beat = old.greatest; limit = limit }

pub open_timely : (old : Keeper) (limit : ℕ) → AreTimely old → AreTimely (opened old limit)
open_timely old limit timely =
    by_result AreTimely (open_answer old limit) old _ timely (λ n granted. new_timely old limit (λ none. true-false (sym (eq_tells limit none) ∙ limit_given (is_full old.sessions old.most_sessions) (nat_lt last_tick (old.greatest + limit)) (limit == 0) AtCapacity Invalid ZeroLimit (next_number old.sessions) n granted)) timely)
  where
    eq_tells : (l : ℕ) → l ≡ 0 → (l == 0) ≡ true
    eq_tells l none = elim (eqb_tells l 0) [ inl t ↦ t.0 | inr t ↦ absurd (t.1 none) ]

pub beat_timely : (old : Keeper) (o : ℕ) (w : Option Session) → value_at old.sessions o ≡ w → AreTimely old → AreTimely (beaten_value w old o)
beat_timely old o None is timely s session at = timely s session at
beat_timely old o (Some was) is timely s session at = elim (cases_eq s o) [
  | inl same ↦
      subst (IsTimely old.greatest) (same-session _ session (sym (ap (value_at (beaten_value (Some was) old o).sessions) same ∙ get_or-set_same old.sessions o _ None (given old.sessions o was is)) ∙ at))
      (omega arith, omega (arith, timely o was is))
  | inr apart ↦ timely s session (sym (get_or-set_other old.sessions o s _ None apart) ∙ at)
]

pub close_timely : (old : Keeper) (o : ℕ) → AreTimely old → AreTimely (without_session old o)
close_timely old o timely s session at = elim (cases_eq s o) [
  | inl same ↦ elim (cases_lt o (length old.sessions)) [
    | inl inside ↦ absurd (none-some session (sym (ap (value_at (without_session old o).sessions) same ∙ get_or-set_same old.sessions o None None inside) ∙ at))
    | inr past ↦ absurd (none-some session (sym (get_or_past (without_session old o).sessions s None (omega (arith, past, same, length-set old.sessions o None))) ∙ at))
  ]
  | inr apart ↦ timely s session (sym (get_or-set_other old.sessions o s None None apart) ∙ at)
]

pub clock_timely : (old mid : Keeper) (n : ℕ) (a : Answer) → AreTimely old → ClockStep old n a mid → AreTimely mid
clock_timely old mid n (answer.Closed list) timely step = subst AreTimely (sym step.2) still
  where
    g : ℕ
    g = max old.greatest (down n)

    still : AreTimely (without_all (with_greatest old (greatest_at old n)) list)
    still s session at = elim (is_in_or_out list s) [
      | inl c ↦ (
          let gone : value_at (without_all (with_greatest old (greatest_at old n)) list).sessions s ≡ None = elim (cases_lt s (length old.sessions)) [
            | inl inside ↦ all_gone (with_greatest old (greatest_at old n)) list s inside c
            | inr past ↦ all_none (with_greatest old (greatest_at old n)) list s (get_or_past old.sessions s None past)
          ] in
          absurd (none-some session (sym gone ∙ at)))
      | inr out ↦ (
          let was : value_at old.sessions s ≡ Some session = sym (all_others (with_greatest old (greatest_at old n)) list s out) ∙ at in
          let grown : (without_all (with_greatest old (greatest_at old n)) list).greatest ≡ greatest_at old n = all_greatest (with_greatest old (greatest_at old n)) list in (
            omega (arith, (timely s session was).0, grown),
            elim (cases_lt (greatest_at old n) (closing_tick session)) [
              | inl before ↦ omega (arith, before, grown)
              | inr come ↦ absurd (out ((step.1.all_due s).1 (subst (λ w. HasCome (greatest_at old n) (closing_value w)) (sym was) come)))
            ],
          ))
    ]
clock_timely old mid n (answer.Refused e) timely step = subst AreTimely (sym step.2) timely
clock_timely old mid n (answer.Session q) timely step = absurd step
clock_timely old mid n answer.Done timely step = absurd step
clock_timely old mid n answer.Held timely step = absurd step
clock_timely old mid n answer.Waits timely step = absurd step
clock_timely old mid n (answer.Owner q) timely step = absurd step
clock_timely old mid n answer.Free timely step = absurd step

step_timely : (old mid : Keeper) (c : Call) (a : Answer) → AreTimely old → Step old c a mid → AreTimely mid
step_timely old mid (call.Open limit) a timely step = subst AreTimely (sym step.1) (open_timely old limit timely)
step_timely old mid (call.Beat o) a timely step = subst AreTimely (sym step.1) (either_way AreTimely (beat_answer old o) old _ timely (beat_timely old o (value_at old.sessions o) refl timely))
step_timely old mid (call.Close o) a timely step = subst AreTimely (sym step.1) (either_way AreTimely (close_answer old o) old _ timely (close_timely old o timely))
step_timely old mid (call.Acquire o key) a timely step = subst AreTimely (sym step.1) (either_way AreTimely _ old _ timely timely)
step_timely old mid (call.Release o key) a timely step = subst AreTimely (sym step.1) (either_way AreTimely _ old _ timely timely)
step_timely old mid (call.Owner key) a timely step = subst AreTimely (sym step.1) timely
step_timely old mid (call.Clock n) a timely step = clock_timely old mid n a timely step

run_timely : (calls : List Call) (answers : List Answer) (old new : Keeper) → AreTimely old → Run old calls answers new → AreTimely new
run_timely [] [] old new timely run = subst AreTimely (sym run) timely
run_timely [] (a ∷ answers) old new timely run = absurd run
run_timely (c ∷ calls) [] old new timely run = absurd run
run_timely (c ∷ calls) (a ∷ answers) old new timely (mid, step, run) = run_timely calls answers mid new (step_timely old mid c a timely step) run

each_some : (v : Option Session) (g : ℕ) → ((session : Session) → v ≡ Some session → IsTimely g session) → IfSome v (λ session. g < closing_tick session)
each_some None g timely = tt
each_some (Some session) g timely = (timely session refl).1

pub none_is_ever_late : NoneIsEverLate
none_is_ever_late calls answers most_sessions most_entries new run s =
    each_some (value_at new.sessions s) new.greatest (run_timely calls answers (no_sessions most_sessions most_entries) new (λ q session at. absurd (none-some session at)) run s)
