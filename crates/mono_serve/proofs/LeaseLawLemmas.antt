-- Laws over any calls of leases, from the laws of the sessions.
use Rattle.std.proofs.Common.{◌≡◌, ◌≢◌, ◌<◌, ◌≤◌, ◌⊎◌, inl, inr, ℕ, zero, suc, Bool, true, false, not, cond, List, [], ◌∷◌, ◌++◌, filter, length, get_or, Option, Some, None, Result, Ok, Err, refl, ap, sym, subst, ◌∙◌, arith}
use Rattle.std.specs.Prelude.{◌+◌, ◌==◌, ◌&&◌, ◌||◌, Contains, is_some, nat_lt, nat_le}
use Rattle.std.specs.List.{position_or_len}
use Rattle.std.proofs.lemmas.Bool.Decides.{eqb_tells, nat_tests}
use Rattle.mono_model.specs.Table.{value_at}
use Rattle.mono_session.specs.Answers.{Answer, of_done, of_first}
use Rattle.mono_session.specs.Answers as answer
use Rattle.mono_session.specs.Calls.{Call}
use Rattle.mono_session.specs.Calls as call
use Rattle.mono_session.specs.Expirations.{IsInTime}
use Rattle.mono_session.specs.Holders.{is_number, holds, waits}
use Rattle.mono_session.specs.Keeper.{Session, Keeper, closing_tick, queue_in, queue_of, is_open, stands_in, first_of, owner_answer, of_open, open_answer, beat_answer, beaten_value, close_answer, acquire_answer, acquired, release_answer, released, with_greatest}
use Rattle.mono_session.specs.Laws.{is_on, come_if, leave, leave_if, leave_all}
use Rattle.mono_session.specs.Refinement.{StandsFor}
use Rattle.mono_session.specs.Steps as steps
use Rattle.mono_session.specs.Steps.{greatest_at, without_all}
use Rattle.mono_session.specs.declared.error.SessionError.{SessionError}
use Rattle.mono_session.specs.declared.error.SessionError.TheVariants.{AtCapacity, Doubled}
use Rattle.mono_session.proofs.CallHistoryLemmas.{queue_last, queue_closed, queue_released, queue_all, beat_entries, eq-tells}
use Rattle.mono_session.proofs.CloseLemmas.{StaysShut, step_goes, step_shut, step_grows, either_way, is_in_or_out, all_gone, all_length}
use Rattle.mono_session.proofs.CloseListLemmas.{due_given}
use Rattle.mono_sync.specs.Runs.{Run}
use Rattle.mono_serve.specs.declared.leases.LockWaiter.{LockWaiter}
use Rattle.mono_serve.specs.declared.leases.Leases.{Leases}
use Rattle.mono_serve.specs.declared.leases.Claimed.TheVariants as claim
use Rattle.mono_serve.specs.declared.leases.Looked.TheVariants as look
use Rattle.mono_serve.specs.LeaseCalls.{Shows, CallsAt, told_of, first_served, task_of, is_at, late_one, one_if, ServesAt, ServesAll, is_late, IsNext, Event, shown, called, claimed, looked, gave_up, served, noted, rested, forgot, handed, Step}
use Rattle.mono_serve.specs.Stands.{stands, tasks_in}
use Rattle.mono_serve.specs.LeaseLaws.{call_of, is_such, has_such, ClosesOnTime, ends_hold, TellsHeld, OneHolder, NoWakeIsLost, KeyIsHeld, KeeperIsInTime}
use Rattle.mono_serve.proofs.StandLemmas.{or_split, and_left, same_number}

-- ---- the steps of the sessions in one event: maybe a clock step, and then maybe a call
abbrev MayShow : Keeper → Keeper → Type 0
MayShow k m = ((n : ℕ) × (due : List ℕ) × steps.ClockStep k n (answer.Closed due) m) ⊎ (m ≡ k)

abbrev MayDo : Option Call → Keeper → Keeper → Type 0
MayDo None m l = l ≡ m
MayDo (Some c) m l = ((a : Answer) × steps.Step m c a l) ⊎ (l ≡ m)

record Goes (o : Option Call) (k l : Keeper) : Type 0 where
  middle : Keeper
  shows : MayShow k middle
  does : MayDo o middle l

goes_by_calls : (nanos : ℕ) (c : Call) (told : Answer) (k l : Keeper) → CallsAt nanos c told k l → Goes (Some c) k l
goes_by_calls nanos c told k l (inl (m, (due, clock), inl step)) = record { middle = m; shows = inl (nanos, due, clock); does = inl (told, step) }
goes_by_calls nanos c told k l (inl (m, (due, clock), inr (lack, same))) = record { middle = m; shows = inl (nanos, due, clock); does = inr same }
goes_by_calls nanos c told k l (inr (lack, same)) = record { middle = k; shows = inr refl; does = inr same }

goes_by_release : (k l : Keeper) (s key : ℕ) → l ≡ released k s key → Goes (Some (call.Release s key)) k l
goes_by_release k l s key same = record { middle = k; shows = inr refl; does = inl (of_done (release_answer k s key), (refl, same)) }

goes_by_loss : (nanos : ℕ) (k l : Keeper) (s key : ℕ) → ((m : Keeper) × Shows nanos k m × (l ≡ released m s key)) ⊎ (l ≡ released k s key) → Goes (Some (call.Release s key)) k l
goes_by_loss nanos k l s key (inl (m, (due, clock), same)) = record { middle = m; shows = inl (nanos, due, clock); does = inl (of_done (release_answer m s key), (refl, same)) }
goes_by_loss nanos k l s key (inr same) = goes_by_release k l s key same

goes_nowhere : (k : Keeper) → Goes None k k
goes_nowhere k = record { middle = k; shows = inr refl; does = refl }

goes_by_clock : (n : ℕ) (due : List ℕ) (k l : Keeper) → steps.ClockStep k n (answer.Closed due) l → Goes None k l
goes_by_clock n due k l step = record { middle = l; shows = inl (n, due, step); does = refl }

abbrev After : Event → Keeper → Leases → Type 0
After e k b = (l : Keeper) × StandsFor b.sessions l × Goes (call_of e) k l

after_same : (e : Event) (k : Keeper) (a b : Leases) → b.sessions ≡ a.sessions → StandsFor a.sessions k → Goes (call_of e) k k → After e k b
after_same e k a b same stands goes = (k, subst (λ x. StandsFor x k) (sym same) stands, goes)

event_goes : (e : Event) (a b : Leases) (k : Keeper) → StandsFor a.sessions k → Step a e b → After e k b
event_goes (shown nanos (Ok done)) a b k stands s = let x = s.0 k stands in (x.0, x.1, goes_by_clock nanos x.2.0 k x.0 x.2.1)
event_goes (shown nanos (Err lack)) a b k stands s = let x = s.0 k stands in (x.0, x.1, subst (λ l. Goes None k l) (sym x.2) (goes_nowhere k))
event_goes (called nanos c r) a b k stands s = let x = s.0 k stands in (x.0, x.1, goes_by_calls nanos c r k x.0 x.2)
event_goes (claimed nanos t key task r) a b k stands s = let x = s.0 k stands in (x.0, x.1, goes_by_calls nanos (call.Acquire t key) (told_of r) k x.0 x.2)
event_goes (looked nanos ticket t key task (look.Waits u)) a b k stands s = let x = s.0 k stands in (x.0, x.1, goes_by_clock nanos x.2.0.0 k x.0 x.2.0.1)
event_goes (looked nanos ticket t key task look.Held) a b k stands s = let x = s.0 k stands in (x.0, x.1, goes_by_clock nanos x.2.0.0 k x.0 x.2.0.1)
event_goes (looked nanos ticket t key task look.Lost) a b k stands s = let x = s.0 k stands in (x.0, x.1, goes_by_clock nanos x.2.0.0 k x.0 x.2.0.1)
event_goes (looked nanos ticket t key task look.Memory) a b k stands s = let x = s.0 k stands in (x.0, x.1, goes_by_loss nanos k x.0 t key x.2)
event_goes (gave_up ticket t key me) a b k stands s = let x = s.0 k stands in (x.0, x.1, goes_by_release k x.0 t key x.2)
event_goes (served task) a b k stands s = after_same (served task) k a b s.3 stands (goes_nowhere k)
event_goes noted a b k stands s = after_same noted k a b s.3 stands (goes_nowhere k)
event_goes (rested task tick) a b k stands s = after_same (rested task tick) k a b s.4 stands (goes_nowhere k)
event_goes (forgot task) a b k stands s = after_same (forgot task) k a b s.3 stands (goes_nowhere k)
event_goes (handed task) a b k stands s = after_same (handed task) k a b s.2 stands (goes_nowhere k)

or_left : (a b : Bool) → (a || b) ≡ false → a ≡ false
or_left true b e = e
or_left false b e = refl

or_right : (a b : Bool) → (a || b) ≡ false → b ≡ false
or_right true b e = cc
or_right false b e = e

-- ---- what each clock step and each other call keeps
module _ (P : Keeper → Type 0) (such : Call → Bool)
    (by_clock : (k l : Keeper) (n : ℕ) (due : List ℕ) → P k → steps.ClockStep k n (answer.Closed due) l → P l)
    (by_call : (c : Call) (k l : Keeper) (a : Answer) → such c ≡ false → P k → steps.Step k c a l → P l) where
  after_show : (k m : Keeper) → P k → MayShow k m → P m
  after_show k m p (inl (n, due, step)) = by_clock k m n due p step
  after_show k m p (inr same) = subst P (sym same) p

  after_goes : (o : Option Call) → is_such such o ≡ false → (k l : Keeper) → P k → Goes o k l → P l
  after_goes None off k l p goes = subst P (sym goes.does) (after_show k goes.middle p goes.shows)
  after_goes (Some c) off k l p goes = by goes.does
    where
      by : MayDo (Some c) goes.middle l → P l
      by (inl (a, step)) = by_call c goes.middle l a off (after_show k goes.middle p goes.shows) step
      by (inr same) = subst P (sym same) (after_show k goes.middle p goes.shows)

  keeps : (es : List Event) (u v : Leases) (k : Keeper) → StandsFor u.sessions k → P k → has_such such es ≡ false → Run Step u es v → (l : Keeper) × StandsFor v.sessions l × P l
  keeps [] u v k stands p off run = (k, subst (λ (x : Leases). StandsFor x.sessions k) (sym run) stands, p)
  keeps (e ∷ es) u v k stands p off (m, step, rest) =
      let x = event_goes e u m k stands step in
      keeps es m v x.0 x.1 (after_goes (call_of e) (or_left (is_such such (call_of e)) (has_such such es) off) k x.0 p x.2) (or_right (is_such such (call_of e)) (has_such such es) off) rest

-- ---- a session is closed on time
abbrev IsOpenUntil : ℕ → Session → Keeper → Type 0
IsOpenUntil s session l = ((value_at l.sessions s ≡ Some session) × (l.greatest < closing_tick session)) ⊎ ((value_at l.sessions s ≡ None) × (s < length l.sessions) × (closing_tick session ≤ l.greatest))

until_call : (s : ℕ) (session : Session) (c : Call) (k l : Keeper) (a : Answer) → is_on s c ≡ false → IsOpenUntil s session k → steps.Step k c a l → IsOpenUntil s session l
until_call s session c k l a off (inl (at, early)) step = elim (step_goes k s session at early c a l off step) [
  | inl stays ↦ inl (stays.0, stays.1)
  | inr gone ↦ inr (gone.0, gone.1, gone.2)
]
until_call s session c k l a off (inr (none, inside, late)) step = let x = step_shut k s none inside c a l step in inr (x.0.0, x.0.1, omega (arith, late, step_grows k l c a step))

lt_true : (a b : ℕ) → a < b → nat_lt a b ≡ true
lt_true a b less = grind (arith, nat_tests)

lt_false : (a b : ℕ) → b ≤ a → nat_lt a b ≡ false
lt_false a b most = grind (arith, nat_tests)

not_less : (a b : ℕ) → nat_lt a b ≡ false → b ≤ a
not_less a b e = grind (arith, nat_tests)

until_tells : (s : ℕ) (session : Session) (l : Keeper) → IsOpenUntil s session l → is_open l s ≡ nat_lt l.greatest (closing_tick session)
until_tells s session l (inl (at, early)) = ap is_some at ∙ sym (lt_true l.greatest (closing_tick session) early)
until_tells s session l (inr (none, inside, late)) = ap is_some none ∙ sym (lt_false l.greatest (closing_tick session) late)

pub closes_on_time : ClosesOnTime
closes_on_time es u v k s session stands at off run =
    let x = keeps (IsOpenUntil s session) (is_on s) (λ k l n due p step. until_call s session (call.Clock n) k l (answer.Closed due) refl p step) (until_call s session) es u v k stands (inl (at, (stands.timely s session at).1)) off run in
    (x.0, x.1, until_tells s session x.0 x.2)

-- ---- the first of a queue stays the first
first_last : (s t : ℕ) (q : List ℕ) → first_of q ≡ Some s → first_of (q ++ t ∷ []) ≡ Some s
first_last s t [] is = cc
first_last s t (x ∷ q) is = is

same_some : (a b : ℕ) → Some a ≡ Some b → a ≡ b
same_some a b e = cc

apart_false : (a b : ℕ) → a ≢ b → (a == b) ≡ false
apart_false a b apart = elim (eqb_tells a b) [ inl t ↦ absurd (apart t.1) | inr t ↦ t.0 ]

first_leave : (s t : ℕ) (q : List ℕ) → s ≢ t → first_of q ≡ Some s → first_of (leave t q) ≡ Some s
first_leave s t [] apart is = cc
first_leave s t (x ∷ q) apart is =
    ap (λ b. first_of (cond (not b) (x ∷ leave t q) (leave t q))) (apart_false x t (λ same. apart (sym (same_some x s is) ∙ same))) ∙ is

first_all : (s : ℕ) (due q : List ℕ) → (Contains due s → ⊥) → first_of q ≡ Some s → first_of (leave_all due q) ≡ Some s
first_all s [] q out is = is
first_all s (x ∷ due) q out is =
    first_all s due (leave x q) (λ c. out (suc c.0, omega (arith, c.1), c.2)) (first_leave s x q (λ same. out (0, omega arith, sym same)) is)

first_come : (s t key at : ℕ) (q : List ℕ) → first_of q ≡ Some s → first_of (come_if key t at q) ≡ Some s
first_come s t key at q is = by (at == key)
  where
    by : (b : Bool) → first_of (cond b (q ++ t ∷ []) q) ≡ Some s
    by true = first_last s t q is
    by false = is

not_equal : (t s : ℕ) → (t == s) ≡ false → s ≢ t
not_equal t s e = elim (eqb_tells t s) [ inl both ↦ absurd (true_false (sym both.0 ∙ e)) | inr both ↦ λ same. both.1 (sym same) ]
  where
    true_false : true ≡ false → ⊥
    true_false f = cc

first_leave_if : (s t key at : ℕ) (q : List ℕ) → ((t == s) && (at == key)) ≡ false → first_of q ≡ Some s → first_of (leave_if key t at q) ≡ Some s
first_leave_if s t key at q off is = by (t == s) (at == key) refl off
  where
    by : (b c : Bool) → (t == s) ≡ b → (b && c) ≡ false → first_of (cond c (leave t q) q) ≡ Some s
    by b false e f = is
    by true true e f = cc
    by false true e f = first_leave s t q (not_equal t s e) is

-- ---- a holder stays the only holder
abbrev IsFirst : ℕ → ℕ → Keeper → Type 0
IsFirst s key l = first_of (queue_of l key) ≡ Some s

first_by : (s key : ℕ) (k l : Keeper) (q : List ℕ) → queue_of l key ≡ q → first_of q ≡ Some s → IsFirst s key l
first_by s key k l q same is = ap first_of same ∙ is

first_clock : (s key n : ℕ) (k l : Keeper) (due : List ℕ) → IsFirst s key k → steps.ClockStep k n (answer.Closed due) l → IsFirst s key l ⊎ StaysShut s l
first_clock s key n k l due first step =
    let g : ℕ = greatest_at k n in
    elim (is_in_or_out due s) [
      | inl c ↦ inr (
          subst (StaysShut s) (sym step.2)
          (let inside : s < length k.sessions = due_given k.sessions g s ((step.1.all_due s).0 c) in
          (all_gone (with_greatest k g) due s inside c, omega (arith, inside, all_length (with_greatest k g) due))))
      | inr out ↦ inl (subst (IsFirst s key) (sym step.2) (first_by s key k (without_all (with_greatest k g) due) (leave_all due (queue_of k key)) (queue_all (with_greatest k g) due key) (first_all s due (queue_of k key) out first)))
    ]

first_call : (s key : ℕ) (c : Call) (k l : Keeper) (a : Answer) → ends_hold s key c ≡ false → IsFirst s key k → steps.Step k c a l → IsFirst s key l ⊎ StaysShut s l
first_call s key (call.Open limit) k l a off first step = inl (subst (IsFirst s key) (sym step.1) (either_way (IsFirst s key) (open_answer k limit) k _ first first))
first_call s key (call.Beat t) k l a off first step =
    inl (subst (IsFirst s key) (sym step.1) (either_way (IsFirst s key) (beat_answer k t) k _ first (ap (λ es. first_of (queue_in es key)) (beat_entries (value_at k.sessions t) k t) ∙ first)))
first_call s key (call.Close t) k l a off first step =
    inl (subst (IsFirst s key) (sym step.1) (either_way (IsFirst s key) (close_answer k t) k _ first (ap first_of (queue_closed k.entries t key) ∙ first_leave s t (queue_of k key) (not_equal t s off) first)))
first_call s key (call.Acquire t at) k l a off first step =
    inl (subst (IsFirst s key) (sym step.1) (either_way (IsFirst s key) (acquire_answer k t at) k _ first (ap first_of (queue_last k.entries t at key) ∙ first_come s t key at (queue_of k key) first)))
first_call s key (call.Release t at) k l a off first step =
    inl (subst (IsFirst s key) (sym step.1) (either_way (IsFirst s key) (release_answer k t at) k _ first (ap first_of (queue_released k.entries t at key) ∙ first_leave_if s t key at (queue_of k key) off first)))
first_call s key (call.Owner at) k l a off first step = inl (subst (IsFirst s key) (sym step.1) first)
first_call s key (call.Clock n) k l (answer.Closed due) off first step = first_clock s key n k l due first step
first_call s key (call.Clock n) k l (answer.Refused e) off first step = inl (subst (IsFirst s key) (sym step.2) first)
first_call s key (call.Clock n) k l (answer.Session q) off first step = absurd step
first_call s key (call.Clock n) k l answer.Done off first step = absurd step
first_call s key (call.Clock n) k l answer.Held off first step = absurd step
first_call s key (call.Clock n) k l answer.Waits off first step = absurd step
first_call s key (call.Clock n) k l (answer.Owner q) off first step = absurd step
first_call s key (call.Clock n) k l answer.Free off first step = absurd step

abbrev HoldsWhileOpen : ℕ → ℕ → Keeper → Type 0
HoldsWhileOpen s key l = IsFirst s key l ⊎ StaysShut s l

hold_call : (s key : ℕ) (c : Call) (k l : Keeper) (a : Answer) → ends_hold s key c ≡ false → HoldsWhileOpen s key k → steps.Step k c a l → HoldsWhileOpen s key l
hold_call s key c k l a off (inl first) step = first_call s key c k l a off first step
hold_call s key c k l a off (inr shut) step = inr (step_shut k s shut.0 shut.1 c a l step).0

hold_tells : (s key : ℕ) (l : Keeper) → HoldsWhileOpen s key l → is_open l s ≡ true → owner_answer l key ≡ Some s
hold_tells s key l (inl first) still = first
hold_tells s key l (inr shut) still = absurd (none_open (value_at l.sessions s) shut.0 still)
  where
    none_open : (v : Option Session) → v ≡ None → is_some v ≡ true → ⊥
    none_open None e f = cc
    none_open (Some x) e f = cc

-- ---- a future that was told so holds the key
empty_tells : (n : ℕ) → (n == 0) ≡ true → n ≡ 0
empty_tells n e = grind (arith, nat_tests)

granted_empty : (full doubled empty : Bool) (v : Option Session) → cond full (Err AtCapacity) (of_open v (λ session. cond doubled (Err Doubled) (Ok empty))) ≡ Ok true → empty ≡ true
granted_empty true doubled empty v e = cc
granted_empty false doubled empty None e = cc
granted_empty false true empty (Some session) e = cc
granted_empty false false empty (Some session) e = cc

held_ok : (r : Result Bool SessionError) → answer.Held ≡ of_first r → r ≡ Ok true
held_ok (Ok true) e = refl
held_ok (Ok false) e = cc
held_ok (Err error) e = cc

first_empty : (q : List ℕ) (s : ℕ) → (length q == 0) ≡ true → first_of (q ++ s ∷ []) ≡ Some s
first_empty [] s e = refl
first_empty (x ∷ q) s e = absurd (omega (arith, empty_tells (length (x ∷ q)) e))

held_first : (k : Keeper) (s key : ℕ) → answer.Held ≡ of_first (acquire_answer k s key) → IsFirst s key (acquired k s key)
held_first k s key told =
    let ok : acquire_answer k s key ≡ Ok true = held_ok (acquire_answer k s key) told in
    let empty : (length (queue_of k key) == 0) ≡ true = granted_empty (nat_le k.most_entries (length k.entries)) (stands_in k.entries s key) (length (queue_of k key) == 0) (value_at k.sessions s) ok in
    ap (λ r. first_of (queue_of (Rattle.mono_session.specs.Keeper.if_granted r k (Rattle.mono_session.specs.Keeper.with_entries k (k.entries ++ record { session = s; key = key } ∷ []))) key)) ok
    ∙ ap first_of (queue_last k.entries s key key)
    ∙ ap (λ b. first_of (cond b (queue_of k key ++ s ∷ []) (queue_of k key))) (eq-tells key key refl)
    ∙ first_empty (queue_of k key) s empty

holds_first : (k : Keeper) (s key : ℕ) → holds k s key ≡ true → IsFirst s key k
holds_first k s key is = by (owner_answer k key) refl is
  where
    by : (o : Option ℕ) → owner_answer k key ≡ o → is_number o s ≡ true → owner_answer k key ≡ Some s
    by None e f = cc
    by (Some t) e f = elim (eqb_tells t s) [ inl both ↦ e ∙ ap Some both.1 | inr both ↦ cc ]

claim_first : (nanos s key : ℕ) (k l : Keeper) → CallsAt nanos (call.Acquire s key) answer.Held k l → IsFirst s key l
claim_first nanos s key k l (inl (m, clock, inl (told, same))) = subst (IsFirst s key) (sym same) (held_first m s key told)
claim_first nanos s key k l (inl (m, clock, inr (lack, same))) = cc
claim_first nanos s key k l (inr (lack, same)) = cc

-- A future was told that its session holds the key.
told_first : (s key : ℕ) (e : Event) (a b : Leases) (k : Keeper) → StandsFor a.sessions k → TellsHeld s key e → Step a e b → (l : Keeper) × StandsFor b.sessions l × IsFirst s key l
told_first s key (claimed nanos t at task claim.Held) a b k stands tells step =
    let x = step.0 k stands in
    (x.0, x.1, subst (λ z. IsFirst z key x.0) tells.0 (subst (λ z. IsFirst t z x.0) tells.1 (claim_first nanos t at k x.0 x.2)))
told_first s key (looked nanos ticket t at task look.Held) a b k stands tells step =
    let x = step.0 k stands in
    (x.0, x.1, subst (λ z. IsFirst z key x.0) tells.0 (subst (λ z. IsFirst t z x.0) tells.1 (holds_first x.0 t at x.2.1.1)))
told_first s key (claimed nanos t at task (claim.Waits ticket)) a b k stands tells step = absurd tells
told_first s key (claimed nanos t at task (claim.Refused refusal)) a b k stands tells step = absurd tells
told_first s key (looked nanos ticket t at task (look.Waits u)) a b k stands tells step = absurd tells
told_first s key (looked nanos ticket t at task look.Lost) a b k stands tells step = absurd tells
told_first s key (looked nanos ticket t at task look.Memory) a b k stands tells step = absurd tells
told_first s key (shown nanos r) a b k stands tells step = absurd tells
told_first s key (called nanos c r) a b k stands tells step = absurd tells
told_first s key (gave_up ticket t at me) a b k stands tells step = absurd tells
told_first s key (served task) a b k stands tells step = absurd tells
told_first s key noted a b k stands tells step = absurd tells
told_first s key (rested task tick) a b k stands tells step = absurd tells
told_first s key (forgot task) a b k stands tells step = absurd tells
told_first s key (handed task) a b k stands tells step = absurd tells

pub one_holder : OneHolder
one_holder e es u m v k s key stands tells step off run =
    let x = told_first s key e u m k stands tells step in
    let y = keeps (HoldsWhileOpen s key) (ends_hold s key) (λ k l n due p clock. hold_call s key (call.Clock n) k l (answer.Closed due) refl p clock) (hold_call s key) es m v x.0 x.1 (inl x.2) off run in
    (y.0, y.1, hold_tells s key y.0 y.2)

-- ---- no wake is lost
-- No element passes if the first place that passes is past the end.
pub none_passes : {X : Type 0} (p : X → Bool) (xs : List X) → length xs ≤ position_or_len p xs → (i : ℕ) (d : X) → i < length xs → p (get_or xs i d) ≡ false
none_passes p [] past i d inside = absurd (omega (arith, inside))
none_passes {X} p (x ∷ xs) past i d inside = by (p x) refl (none_passes p xs) i inside
  where
    first : (b : Bool) → p x ≡ b → position_or_len p (x ∷ xs) ≡ cond (not b) (1 + position_or_len p xs) 0
    first b e = ap (λ c. cond (not c) (1 + position_or_len p xs) 0) e

    by : (b : Bool) → p x ≡ b → (length xs ≤ position_or_len p xs → (j : ℕ) (y : X) → j < length xs → p (get_or xs j y) ≡ false) → (j : ℕ) → j < length (x ∷ xs) → p (get_or (x ∷ xs) j d) ≡ false
    by true e later j within = absurd (omega (arith, past, first true e))
    by false e later zero within = e
    by false e later (suc j) within = later (omega (arith, past, first false e)) j d (omega (arith, within))

none_found : (k : Keeper) (ws : List LockWaiter) → first_served k ws ≡ None → (i : ℕ) (d : LockWaiter) → i < length ws → waits k (get_or ws i d).session (get_or ws i d).key ≡ true
none_found k ws none i d inside = not_false (waits k (get_or ws i d).session (get_or ws i d).key) (none_passes test ws (past (position_or_len test ws) (length ws) none) i d inside)
  where
    test : LockWaiter → Bool
    test w = not (waits k w.session w.key)

    past : (a b : ℕ) → cond (nat_lt a b) (Some a) None ≡ None → b ≤ a
    past a b e = by (nat_lt a b) refl e
      where
        by : (c : Bool) → nat_lt a b ≡ c → cond c (Some a) None ≡ None → b ≤ a
        by true f g = cc
        by false f g = not_less a b f

    not_false : (b : Bool) → not b ≡ false → b ≡ true
    not_false true e = refl
    not_false false e = cc

abbrev AllWait : Keeper → List LockWaiter → Type 0
AllWait k ws = (i : ℕ) (w : LockWaiter) → i < length ws → w ≡ get_or ws i w → waits k w.session w.key ≡ true

none_served : (k : Keeper) (a b : Leases) (place : Option ℕ) → place ≡ first_served k a.waiters.items → ServesAt place a None b → AllWait k b.waiters.items
none_served k a b None is (told, line, due) i w inside at =
    subst (λ (v : LockWaiter). waits k v.session v.key ≡ true) (sym at)
    (subst (λ ws. waits k (get_or ws i w).session (get_or ws i w).key ≡ true) (sym line) (none_found k a.waiters.items (sym is) i w (omega (arith, inside, ap length line))))
none_served k a b (Some n) is (v, here, told, line, due) i w inside at = cc

all_served : (k : Keeper) (tasks : List ℕ) (a b : Leases) → StandsFor a.sessions k → ServesAll a tasks b → AllWait k b.waiters.items
all_served k [] a b stands s = none_served k a b s.0 (s.1 k stands) s.2
all_served k (task ∷ tasks) a b stands (m, s, rest) = all_served k tasks m b (subst (λ x. StandsFor x k) (sym s.3) stands) rest

same_sessions : (tasks : List ℕ) (a b : Leases) → ServesAll a tasks b → b.sessions ≡ a.sessions
same_sessions [] a b s = s.3
same_sessions (task ∷ tasks) a b (m, s, rest) = same_sessions tasks m b rest ∙ s.3

pub no_wake_is_lost : NoWakeIsLost
no_wake_is_lost a b k stands (m, (tasks, all), notes) = subst (AllWait k) (sym notes.4.0) (all_served k tasks a m stands all)

-- ---- a task that waits while nothing is owed waits at a key that is held
nil_second : (ts us : List ℕ) → ts ++ us ≡ [] → us ≡ []
nil_second [] us is = is
nil_second (t ∷ ts) us is = cc

no_due : (ws : List LockWaiter) → tasks_in task_of ws ≡ [] → ws ≡ []
no_due [] is = refl
no_due (w ∷ ws) is = cc

nothing_more : (ws : List LockWaiter) → ws ++ [] ≡ ws
nothing_more [] = refl
nothing_more (w ∷ ws) = ap (λ us. w ∷ us) (nothing_more ws)

waits_here : (k : Keeper) (key ticket t : ℕ) (w : LockWaiter) → ((w.task == t) && ((w.key == key) && (w.ticket == ticket))) ≡ true → waits k w.session w.key ≡ true → (s : ℕ) × (waits k s key ≡ true)
waits_here k key ticket t w is waiting =
    (w.session, subst (λ n. waits k w.session n ≡ true) (same_number w.key key (and_left (w.key == key) (w.ticket == ticket) (and_second (w.task == t) ((w.key == key) && (w.ticket == ticket)) is))) waiting)
  where
    and_second : (a b : Bool) → (a && b) ≡ true → b ≡ true
    and_second true b e = e
    and_second false b e = cc

held_for : (k : Keeper) (key ticket t : ℕ) (ws : List LockWaiter) → AllWait k ws → stands task_of is_at ws (key ∷ ticket ∷ []) t ≡ true → (s : ℕ) × (waits k s key ≡ true)
held_for k key ticket t [] all is = cc
held_for k key ticket t (w ∷ ws) all is = elim (or_split ((w.task == t) && ((w.key == key) && (w.ticket == ticket))) (stands task_of is_at ws (key ∷ ticket ∷ []) t) is) [
  | inl here ↦ waits_here k key ticket t w here (all 0 w (omega arith) refl)
  | inr later ↦ held_for k key ticket t ws (λ i v inside at. all (suc i) v (omega (arith, inside)) at) later
]

pub key_is_held : KeyIsHeld
key_is_held a b k stands_for settles nothing key ticket t listed =
    let none : b.due.items ≡ [] = no_due b.due.items (nil_second (one_if (late_one b.late b.keeper)) (tasks_in task_of b.due.items) nothing) in
    held_for k key ticket t b.waiters.items (no_wake_is_lost a b k stands_for settles) (ap (λ ws. stands task_of is_at ws (key ∷ ticket ∷ []) t) (sym (ap (λ ds. b.waiters.items ++ ds) none ∙ nothing_more b.waiters.items)) ∙ listed)

-- ---- the keeper is in time
in_time_by : (k : Keeper) (alarm next : Option ℕ) → is_late alarm next ≡ false → IsInTime k next → IsInTime k alarm
in_time_by k None None late is = is
in_time_by k (Some tick) None late is = λ s session at. absurd (some_closed (value_at k.sessions s) session at (is s))
  where
    some_closed : (v : Option Session) (session : Session) → v ≡ Some session → is_some v ≡ false → ⊥
    some_closed None session e f = cc
    some_closed (Some x) session e f = cc
in_time_by k None (Some next) late is = cc
in_time_by k (Some tick) (Some next) late is = λ s session at. omega (arith, is s session at, not_less next tick late)

not_late : (late : Bool) (keeper : Option ℕ) (ts : List ℕ) → one_if (late_one late keeper) ++ ts ≡ [] → (late ≡ false) ⊎ (keeper ≡ None)
not_late false keeper ts is = inl refl
not_late true None ts is = inr refl
not_late true (Some t) ts is = cc

pub keeper_is_in_time : KeeperIsInTime
keeper_is_in_time a b k stands (m, (tasks, all), ((next, is, late), keeper, alarm, sessions, line)) nothing = elim (not_late b.late b.keeper (tasks_in task_of b.due.items) nothing) [
  | inl early ↦ inr (subst (IsInTime k) (sym alarm) (in_time_by k m.alarm next (sym late ∙ early) (is.1 k (subst (λ x. StandsFor x k) (sym (same_sessions tasks a m all)) stands))))
  | inr none ↦ inl none
]
