-- Each request is answered once or waits.
use Rattle.std.proofs.Common.{◌≡◌, ◌==◌, ◌+◌, ℕ, not, cond, List, [], ◌∷◌, ◌++◌, Option, Some, None, refl, ap, ◌∙◌, arith}
use Rattle.std.specs.Prelude.{is_some}
use Rattle.mono_model.specs.Valid.{times, once_if}
use Rattle.mono_session.specs.Keeper.{Keeper}
use Rattle.mono_session.specs.Entries.{keys_in}
use Rattle.mono_session.specs.Holders.{leaves}
use Rattle.mono_session.specs.Answers as lease_answer
use Rattle.mono_actor.specs.Answers as mail_answer
use Rattle.mono_actor.specs.Actors.{Actors}
use Rattle.lease_core.specs.declared.ends.Waiter.{Waiter}
use Rattle.lease_core.specs.declared.requests.Call.{Call}
use Rattle.lease_core.specs.declared.requests.Call.TheVariants as call
use Rattle.lease_core.specs.declared.requests.Outcome.{Outcome}
use Rattle.lease_core.specs.declared.requests.Outcome.TheVariants as outcome
use Rattle.lease_core.specs.declared.requests.Reply.{Reply}
use Rattle.lease_core.specs.Waits.{left_in, closed_end, end_reply, ended, still, ended_by, still_by, input_end}
use Rattle.lease_core.specs.Cores.{CoreState, at_once}
use Rattle.lease_core.specs.Steps.{Handles, HeldOrWaits, HeldOrBusy, Frees, TurnEnds, Event, Advance, Handle, Finish, Step}
use Rattle.lease_core.specs.Laws.{asked, answered, waited, AnsweredOnce, NoneWaitAtTheEnd}

abbrev answers : List Reply → ℕ → ℕ
answers replies n = times (answered replies) n

abbrev waits : List Waiter → ℕ → ℕ
waits waiting n = times (waited waiting) n

answers_on : (xs ys : List Reply) (n : ℕ) → answers (xs ++ ys) n ≡ answers xs n + answers ys n
answers_on [] ys n = omega arith
answers_on (x ∷ xs) ys n = omega (arith, answers_on xs ys n)

waits_end : (ws : List Waiter) (w : Waiter) (n : ℕ) → waits (ws ++ w ∷ []) n ≡ waits ws n + once_if (w.number == n)
waits_end [] w n = omega arith
waits_end (v ∷ ws) w n = omega (arith, waits_end ws w n)

one_ends : (o : Option Outcome) (tick : ℕ) (w : Waiter) (replies : List Reply) (left : List Waiter) (n : ℕ)
    → answers (end_reply tick w o ++ replies) n + waits (cond (not (is_some o)) (w ∷ left) left) n ≡ once_if (w.number == n) + (answers replies n + waits left n)
one_ends None tick w replies left n = omega arith
one_ends (Some outcome) tick w replies left n = omega arith

ends_count : (e : Waiter → Option Outcome) (tick : ℕ) (ws : List Waiter) (n : ℕ) → answers (ended e tick ws) n + waits (still e ws) n ≡ waits ws n
ends_count e tick [] n = refl
ends_count e tick (w ∷ ws) n = omega (arith, one_ends (e w) tick w (ended e tick ws) (still e ws) n, ends_count e tick ws n)

key_ends_count : {A : Type 0} (e : A → Waiter → Option Outcome) (tick : ℕ) (keys : List A) (ws : List Waiter) (n : ℕ) → answers (ended_by e tick keys ws) n + waits (still_by e keys ws) n ≡ waits ws n
key_ends_count e tick [] ws n = omega arith
key_ends_count e tick (key ∷ keys) ws n =
    omega (arith, answers_on (ended (e key) tick ws) (ended_by e tick keys (still (e key) ws)) n, ends_count (e key) tick ws n, key_ends_count e tick keys (still (e key) ws) n)

-- What a step answers and what waits after it, with the number that it asked, if any.
abbrev Counts : ℕ → CoreState → ℕ → List Reply → CoreState → Type 0
Counts n old count replies new = answers replies n + waits new.waiting n ≡ waits old.waiting n + count

at_once_counts : (n number : ℕ) (told : Outcome) (old new : CoreState) (replies : List Reply) → replies ≡ at_once old number told ∷ [] → new.waiting ≡ old.waiting
    → Counts n old (once_if (number == n)) replies new
at_once_counts n number told old new replies is same = rw (is, same) (omega arith)

held_counts : (n number s key : ℕ) (old new : CoreState) (a : lease_answer.Answer) (k : Keeper) (replies : List Reply) → HeldOrWaits old number s key a k replies new
    → Counts n old (once_if (number == n)) replies new
held_counts n number s key old new lease_answer.Waits k replies h =
    let w : Waiter = record { number = number; session = s; key = key; arrived = old.keeper.greatest } in
    rw (h.0, ap (λ (c : CoreState). c.waiting) h.1) (omega (arith, waits_end old.waiting w n))
held_counts n number s key old new (lease_answer.Session x) k replies h = at_once_counts n number h.0 old new replies h.2 (ap (λ (c : CoreState). c.waiting) h.3)
held_counts n number s key old new lease_answer.Done k replies h = at_once_counts n number h.0 old new replies h.2 (ap (λ (c : CoreState). c.waiting) h.3)
held_counts n number s key old new lease_answer.Held k replies h = at_once_counts n number h.0 old new replies h.2 (ap (λ (c : CoreState). c.waiting) h.3)
held_counts n number s key old new (lease_answer.Owner x) k replies h = at_once_counts n number h.0 old new replies h.2 (ap (λ (c : CoreState). c.waiting) h.3)
held_counts n number s key old new lease_answer.Free k replies h = at_once_counts n number h.0 old new replies h.2 (ap (λ (c : CoreState). c.waiting) h.3)
held_counts n number s key old new (lease_answer.Closed x) k replies h = at_once_counts n number h.0 old new replies h.2 (ap (λ (c : CoreState). c.waiting) h.3)
held_counts n number s key old new (lease_answer.Refused x) k replies h = at_once_counts n number h.0 old new replies h.2 (ap (λ (c : CoreState). c.waiting) h.3)

busy_counts : (n number : ℕ) (old new : CoreState) (a : lease_answer.Answer) (k : Keeper) (replies : List Reply) → HeldOrBusy old number a k replies new → Counts n old (once_if (number == n)) replies new
busy_counts n number old new lease_answer.Waits k replies h = at_once_counts n number outcome.Busy old new replies h.0 (ap (λ (c : CoreState). c.waiting) h.1)
busy_counts n number old new (lease_answer.Session x) k replies h = at_once_counts n number h.0 old new replies h.2 (ap (λ (c : CoreState). c.waiting) h.3)
busy_counts n number old new lease_answer.Done k replies h = at_once_counts n number h.0 old new replies h.2 (ap (λ (c : CoreState). c.waiting) h.3)
busy_counts n number old new lease_answer.Held k replies h = at_once_counts n number h.0 old new replies h.2 (ap (λ (c : CoreState). c.waiting) h.3)
busy_counts n number old new (lease_answer.Owner x) k replies h = at_once_counts n number h.0 old new replies h.2 (ap (λ (c : CoreState). c.waiting) h.3)
busy_counts n number old new lease_answer.Free k replies h = at_once_counts n number h.0 old new replies h.2 (ap (λ (c : CoreState). c.waiting) h.3)
busy_counts n number old new (lease_answer.Closed x) k replies h = at_once_counts n number h.0 old new replies h.2 (ap (λ (c : CoreState). c.waiting) h.3)
busy_counts n number old new (lease_answer.Refused x) k replies h = at_once_counts n number h.0 old new replies h.2 (ap (λ (c : CoreState). c.waiting) h.3)

frees_count : (n number : ℕ) (e : ℕ → Waiter → Option Outcome) (keys : List ℕ) (old new : CoreState) (a : lease_answer.Answer) (k : Keeper) (replies : List Reply) → Frees old number e keys a k replies new
    → Counts n old (once_if (number == n)) replies new
frees_count n number e keys old new lease_answer.Done k replies h = rw (h.0, ap (λ (c : CoreState). c.waiting) h.1) (omega (arith, key_ends_count e k.greatest keys old.waiting n))
frees_count n number e keys old new lease_answer.Waits k replies h = at_once_counts n number h.0 old new replies h.2 (ap (λ (c : CoreState). c.waiting) h.3)
frees_count n number e keys old new (lease_answer.Session x) k replies h = at_once_counts n number h.0 old new replies h.2 (ap (λ (c : CoreState). c.waiting) h.3)
frees_count n number e keys old new lease_answer.Held k replies h = at_once_counts n number h.0 old new replies h.2 (ap (λ (c : CoreState). c.waiting) h.3)
frees_count n number e keys old new (lease_answer.Owner x) k replies h = at_once_counts n number h.0 old new replies h.2 (ap (λ (c : CoreState). c.waiting) h.3)
frees_count n number e keys old new lease_answer.Free k replies h = at_once_counts n number h.0 old new replies h.2 (ap (λ (c : CoreState). c.waiting) h.3)
frees_count n number e keys old new (lease_answer.Closed x) k replies h = at_once_counts n number h.0 old new replies h.2 (ap (λ (c : CoreState). c.waiting) h.3)
frees_count n number e keys old new (lease_answer.Refused x) k replies h = at_once_counts n number h.0 old new replies h.2 (ap (λ (c : CoreState). c.waiting) h.3)

turn_counts : (n number : ℕ) (old new : CoreState) (a : mail_answer.Answer ℕ) (mid : Actors ℕ) (replies : List Reply) → TurnEnds old number a mid replies new
    → Counts n old (once_if (number == n)) replies new
turn_counts n number old new (mail_answer.Turn x got) mid replies h = at_once_counts n number _ old new replies h.3 (ap (λ (c : CoreState). c.waiting) h.4)
turn_counts n number old new (mail_answer.Actor x) mid replies h = at_once_counts n number h.0 old new replies h.2 (ap (λ (c : CoreState). c.waiting) h.3)
turn_counts n number old new (mail_answer.Posted x) mid replies h = at_once_counts n number h.0 old new replies h.2 (ap (λ (c : CoreState). c.waiting) h.3)
turn_counts n number old new mail_answer.Done mid replies h = at_once_counts n number h.0 old new replies h.2 (ap (λ (c : CoreState). c.waiting) h.3)
turn_counts n number old new (mail_answer.Ended x) mid replies h = at_once_counts n number h.0 old new replies h.2 (ap (λ (c : CoreState). c.waiting) h.3)
turn_counts n number old new (mail_answer.Due x) mid replies h = at_once_counts n number h.0 old new replies h.2 (ap (λ (c : CoreState). c.waiting) h.3)
turn_counts n number old new (mail_answer.Refused x) mid replies h = at_once_counts n number h.0 old new replies h.2 (ap (λ (c : CoreState). c.waiting) h.3)
turn_counts n number old new mail_answer.Invalid mid replies h = at_once_counts n number h.0 old new replies h.2 (ap (λ (c : CoreState). c.waiting) h.3)

handles_count : (n number key : ℕ) (c : Call) (old new : CoreState) (replies : List Reply) → Handles old number key c replies new → Counts n old (once_if (number == n)) replies new
handles_count n number key (call.Open limit) old new replies h = at_once_counts n number h.told old new replies h.replies_are (ap (λ (c : CoreState). c.waiting) h.becomes)
handles_count n number key (call.Beat s) old new replies h = at_once_counts n number h.told old new replies h.replies_are (ap (λ (c : CoreState). c.waiting) h.becomes)
handles_count n number key (call.Close s) old new replies h = frees_count n number (left_in s outcome.Closed h.keeper) (keys_in old.keeper.entries s) old new h.answer h.keeper replies h.rest
handles_count n number key (call.Acquire s) old new replies h = held_counts n number s key old new h.answer h.keeper replies h.rest
handles_count n number key (call.Release s) old new replies h = frees_count n number (left_in s outcome.Left h.keeper) (key ∷ []) old new h.answer h.keeper replies h.rest
handles_count n number key (call.Try s) old new replies h = busy_counts n number old new h.answer h.keeper replies h.rest
handles_count n number key call.Owner old new replies h = at_once_counts n number h.told old new replies h.replies_are (ap (λ (c : CoreState). c.waiting) h.becomes)
handles_count n number key call.Count old new replies h = at_once_counts n number _ old new replies h.0 (ap (λ (c : CoreState). c.waiting) h.1)
handles_count n number key (call.Bucket burst period) old new replies h = at_once_counts n number h.told old new replies h.replies_are (ap (λ (c : CoreState). c.waiting) h.becomes)
handles_count n number key (call.Take b m) old new replies h = at_once_counts n number h.told old new replies h.replies_are (ap (λ (c : CoreState). c.waiting) h.becomes)
handles_count n number key call.Spawn old new replies h = at_once_counts n number h.told old new replies h.replies_are (ap (λ (c : CoreState). c.waiting) h.becomes)
handles_count n number key (call.Send from to message) old new replies h = at_once_counts n number h.told old new replies h.replies_are (ap (λ (c : CoreState). c.waiting) h.becomes)
handles_count n number key call.Receive old new replies h = turn_counts n number old new h.answer h.mid replies h.rest

all_end : (tick : ℕ) (ws : List Waiter) (n : ℕ) → answers (ended input_end tick ws) n ≡ waits ws n
all_end tick [] n = refl
all_end tick (w ∷ ws) n = omega (arith, all_end tick ws n)

step_counts : (n : ℕ) (e : Event) (old new : CoreState) (replies : List Reply) → Step old e replies new → Counts n old (times (asked (e ∷ [])) n) replies new
step_counts n (Advance m) old new replies h =
    rw (h.replies_are, h.waiting) (omega (arith, key_ends_count (closed_end new.keeper) new.keeper.greatest (leaves old.keeper h.closed) old.waiting n))
step_counts n (Handle r) old new replies h = omega (arith, handles_count n r.number r.key r.call old new replies h)
step_counts n Finish old new replies h = rw (h.replies_are, ap (λ (c : CoreState). c.waiting) h.becomes) (omega (arith, all_end old.keeper.greatest old.waiting n))

asked_on : (e : Event) (events : List Event) (n : ℕ) → times (asked (e ∷ events)) n ≡ times (asked (e ∷ [])) n + times (asked events) n
asked_on (Advance m) events n = omega arith
asked_on (Handle r) events n = omega arith
asked_on Finish events n = omega arith

pub answered_once : AnsweredOnce
answered_once [] replies old new n run = rw (run.0, run.1) (omega arith)
answered_once (e ∷ events) replies old new n (first, rest, mid, step, more, is) =
    rw is (omega (arith, answers_on first rest n, step_counts n e old mid first step, answered_once events rest mid new n more, asked_on e events n))

pub none_wait : NoneWaitAtTheEnd
none_wait replies old new (first, rest, mid, step, more, is) = ap (λ (c : CoreState). c.waiting) more.1 ∙ ap (λ (c : CoreState). c.waiting) step.becomes
