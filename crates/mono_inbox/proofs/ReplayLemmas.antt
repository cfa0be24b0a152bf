-- A history grows by one call, and each call on the state corresponds to a call of its replay.
use Rattle.std.proofs.Common.{◌≡◌, ◌≢◌, ◌<◌, ◌≤◌, ℕ, ◌+◌, Bool, true, false, List, [], ◌∷◌, ◌++◌, length, refl, ap, sym, ◌∙◌, arith, eq-eqb}
use Rattle.std.specs.Prelude.{◌==◌, ◌||◌, ◌&&◌, not, if◌then◌else◌, slice_index_or, Option, Some, None, MatchOption}
use Rattle.mono_model.specs.Inbox.{is_waiting, with_waiting}
use Rattle.mono_inbox.specs.declared.log.CallEntry.{CallEntry}
use Rattle.mono_inbox.specs.declared.log.CallEntry.TheVariants.{Know, Put, DrainOne, Drain, Retire}
use Rattle.mono_inbox.specs.State.{State, is_known, is_unlisted, put_answer, after_put, with_list, AlsoKnows, Forgets}
use Rattle.mono_inbox.specs.History.{Replay, at_first, is_listed, is_right, after, replay_from, replies_from, replay, is_history, Agrees, put_in, count_puts}
use Rattle.mono_inbox.specs.Log.{Log, is_full, IsFaithful}

true-false : true ≡ false → ⊥
true-false e = cc

pub put_in-within : (e : CallEntry) → put_in e ≤ 1
put_in-within (Know t) = omega arith
put_in-within (Put t listed) = omega arith
put_in-within (DrainOne task) = omega arith
put_in-within (Drain tasks) = omega arith
put_in-within (Retire t) = omega arith

pub count_puts-within : (es : List CallEntry) → count_puts es ≤ length es
count_puts-within [] = omega arith
count_puts-within (e ∷ es) = omega (arith, put_in-within e, count_puts-within es)

pub room_left : (n m : ℕ) → n ≢ m → n ≤ m → n < m
room_left n m apart within = omega (arith, apart, within)

pub count_puts-push : (es : List CallEntry) (e : CallEntry) → count_puts (es ++ e ∷ []) ≡ count_puts es + put_in e
count_puts-push [] e = omega arith
count_puts-push (x ∷ es) e = omega (arith, count_puts-push es e)

replay-push : (r : Replay) (es : List CallEntry) (e : CallEntry) → replay_from r (es ++ e ∷ []) ≡ after (replay_from r es) e
replay-push r [] e = refl
replay-push r (x ∷ es) e = replay-push (after r x) es e

and-both : (a b : Bool) → (a && b) ≡ true → (a ≡ true) × (b ≡ true)
and-both true b e = (refl, e)
and-both false b e = absurd (true-false (sym e))

replies-push : (r : Replay) (es : List CallEntry) (e : CallEntry) → replies_from r es ≡ true → is_right (replay_from r es) e ≡ true → replies_from r (es ++ e ∷ []) ≡ true
replies-push r [] e before right = rw right refl
replies-push r (x ∷ es) e before right =
    let both = and-both (is_right r x) (replies_from (after r x) es) before in
    rw both.0 (replies-push (after r x) es e both.1 right)

-- The call has its reply, and the replay continues to the state after the call.
abbrev pub GoesOn : State → State → CallEntry → Type 0
GoesOn old new e = (r : Replay) → Agrees r old → (is_right r e ≡ true) × Agrees (after r e) new

pub faithful-with : (b : Bool) (old new : State) (log more : Log) (e : CallEntry) → is_full log ≡ b → more.entries ≡ log.entries ++ e ∷ []
    → IsFaithful old log → GoesOn old new e → IsFaithful new (if b then log else more)
faithful-with true old new log more e full entries faithful goes = record {
  replies = faithful.replies;
  stands = λ room. absurd (true-false (sym full ∙ room));
}
faithful-with false old new log more e full entries faithful goes =
    let stood = faithful.stands full in
    let next = goes (replay log.entries) stood.left in
    let replies : is_history more.entries ≡ true = rw entries (replies-push at_first log.entries e stood.replies next.0) in
    let left : Agrees (replay more.entries) new = rw (entries, replay-push at_first log.entries e) next.1 in
    record { replies = replies; stands = λ room. record { replies = replies; left = left } }

pub know-goes_on : (old new : State) (t : ℕ) → AlsoKnows old new t → GoesOn old new (Know t)
know-goes_on old new t knows r agrees = (
  refl,
  record {
    waiting = knows.waiting ∙ agrees.waiting;
    known = λ u. knows.known u ∙ ap (λ b. (u == t) || b) (agrees.known u);
  },
)

pub retire-goes_on : (old new : State) (t : ℕ) → Forgets old new t → GoesOn old new (Retire t)
retire-goes_on old new t forgets r agrees = (
  refl,
  record {
    waiting = forgets.waiting ∙ agrees.waiting;
    known = λ u. forgets.known u ∙ ap (λ b. not (u == t) && b) (agrees.known u);
  },
)

listed-if : (known waits : Bool) → (known && not waits) ≡ not (not known || waits)
listed-if true true = refl
listed-if true false = refl
listed-if false waits = refl

is_listed-is : (r : Replay) (state : State) (t : ℕ) → Agrees r state → is_listed r t ≡ not (is_unlisted state t)
is_listed-is r state t agrees =
    ap (λ b. b && not (is_waiting r.waiting t)) (sym (agrees.known t))
    ∙ ap (λ w. is_known state t && not (is_waiting w t)) (sym agrees.waiting)
    ∙ listed-if (is_known state t) (is_waiting state.waiting t)

put_by : (b : Bool) (state : State) (t : ℕ) (r : Replay) → is_listed r t ≡ not b → Agrees r state
    → (is_right r (Put t (if b then false else true)) ≡ true) × Agrees (after r (Put t (if b then false else true))) (if b then state else with_list state (with_waiting state.waiting t))
put_by true state t r listed agrees = rw listed (refl, agrees)
put_by false state t r listed agrees = rw listed (
  refl,
  record {
    waiting = ap (λ w. with_waiting w t) agrees.waiting;
    known = agrees.known;
  },
)

pub put-goes_on : (old new : State) (t : ℕ) (listed : Bool) → listed ≡ put_answer old t → new ≡ after_put old t → GoesOn old new (Put t listed)
put-goes_on old new t listed answer state r agrees = rw (answer, state) (put_by (is_unlisted old t) old t r (is_listed-is r old t agrees) agrees)

pub drain-goes_on : (old new : State) (tasks : ℕ) → tasks ≡ length old.waiting → new ≡ with_list old [] → GoesOn old new (Drain tasks)
drain-goes_on old new tasks count state r agrees = (
  eq-eqb tasks (length r.waiting) (count ∙ ap length agrees.waiting),
  rw state (record { waiting = refl; known = agrees.known }),
)

pub drain_one-goes_on : (old new : State) (task : Option ℕ)
    → MatchOption task ((old.waiting ≡ []) × (new ≡ old)) (λ t. (old.waiting ≡ t ∷ new.waiting) × (new.known ≡ old.known))
    → GoesOn old new (DrainOne task)
drain_one-goes_on old new None left r agrees =
    let none : r.waiting ≡ [] = sym agrees.waiting ∙ left.0 in
    rw (left.1, none) (refl, record { waiting = left.0; known = agrees.known })
drain_one-goes_on old new (Some t) left r agrees =
    let some : r.waiting ≡ t ∷ new.waiting = sym agrees.waiting ∙ left.0 in
    rw some (eq-eqb t t refl, record { waiting = refl; known = λ u. ap (λ k. slice_index_or k u false) left.1 ∙ agrees.known u })
