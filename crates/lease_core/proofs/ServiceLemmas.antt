-- A core after a call on its buckets or its mailboxes, after a clock step, and at the end of the input.
use Rattle.std.proofs.Common.{◌≡◌, ◌≤◌, ℕ, max, Bool, true, false, if◌then◌else◌, List, [], ◌∷◌, ◌++◌, length, ◌==◌, Option, Some, None, Result, Ok, Err, refl, sym, ap, subst, ◌∙◌, inl, inr, arith}
use Rattle.mono_model.specs.Memory.{OrLacksMemory}
use Rattle.mono_model.specs.Table.{value_at}
use Rattle.mono_model.specs.Ticks.{max_nanos, down}
use Rattle.mono_model.specs.Due.{ListsDue}
use Rattle.mono_session.specs.Keeper.{Keeper, with_greatest}
use Rattle.mono_session.specs.Steps.{closing_value, greatest_at, without_all}
use Rattle.mono_session.specs.Holders.{leaves}
use Rattle.mono_session.specs.Refinement.{StandsFor}
use Rattle.mono_limit.specs.Limiter.{Limits, bucket_answer, with_bucket, TakeAnswers}
use Rattle.mono_limit.specs.Limits.{limits_of, ListsInto}
use Rattle.mono_limit.specs.Calls as limit
use Rattle.mono_limit.specs.Answers as limit_answer
use Rattle.mono_limit.specs.declared.LimitError.{LimitError}
use Rattle.mono_limit.specs.declared.LimitError.TheVariants as limit_error
use Rattle.mono_limit.specs.declared.Take.{Take}
use Rattle.mono_actor.specs.Actors.{Actor, Actors, if_granted, spawn_answer, spawned, send_answer, sent, received_value, is_idle, ended, ended_value, no_turn, begin_for, begin_answer, begun_for, begun, end_answer}
use Rattle.mono_actor.specs.Callers as callers
use Rattle.mono_actor.specs.Callers.{actors_of}
use Rattle.mono_actor.specs.Calls as mail
use Rattle.mono_actor.specs.Answers as mail_answer
use Rattle.mono_actor.specs.Steps.{Step, EndStep}
use Rattle.mono_actor.specs.declared.answers.ActorError.{ActorError}
use Rattle.mono_actor.specs.declared.answers.Got.{Got}
use Rattle.mono_actor.specs.declared.answers.Sent.{Sent}
use Rattle.mono_actor.specs.declared.answers.After.{After}
use Rattle.lease_core.specs.declared.cores.Core.{Core}
use Rattle.lease_core.specs.declared.requests.Outcome.{Outcome}
use Rattle.lease_core.specs.declared.requests.Outcome.TheVariants as outcome
use Rattle.lease_core.specs.declared.requests.Reply.{Reply}
use Rattle.lease_core.specs.Waiting.{waits_of}
use Rattle.lease_core.specs.Cores.{CoreState, with_leases, with_limits, with_actors}
use Rattle.lease_core.specs.Waits as waits
use Rattle.lease_core.specs.Waits.{input_end, closed_end}
use Rattle.lease_core.specs.Tells.{LimitTells, MailTells}
use Rattle.lease_core.specs.Steps.{LimitStep, MailStep, Takes, Mails, Receives, Advances, Finishes}
use Rattle.lease_core.specs.Refinement.{Refines}
use Rattle.lease_core.proofs.TickLemmas.{all_closed_tick}
use Rattle.lease_core.proofs.LeaseLemmas.{reply_at}

at_tick : (number m n : ℕ) (told : Outcome) (replies : List Reply) → replies ≡ reply_at m number told ∷ [] → m ≡ n → replies ≡ reply_at n number told ∷ []
at_tick number m n told replies is same = subst (λ k. replies ≡ reply_at k number told ∷ []) same is

-- The leases, the tick and what waits are the same.
pub record SameLeases (old new : Core) : Type 0 where
  pub sessions : new.sessions ≡ old.sessions
  pub tick : new.tick ≡ old.tick
  pub waiting : waits_of new.waiting ≡ waits_of old.waiting

-- ---- buckets

pub bucket_step : (old new : Limits) (burst period : ℕ) (r : Result ℕ LimitError)
    → OrLacksMemory limit_error.Memory (bucket_answer old burst period) old (with_bucket old burst period) (λ limits. new ≡ limits) r → LimitStep old (limit.Bucket burst period) (limit_answer.of_bucket r) new
bucket_step old new burst period r (inl (told, left)) = inl (ap limit_answer.of_bucket told, left)
bucket_step old new burst period r (inr (ok, told, left)) = inr (ok, ap limit_answer.of_bucket told, left)

pub take_step : (old new : Limits) (b n : ℕ) (r : Result Take LimitError) → TakeAnswers old b n r new → LimitStep old (limit.Take b n) (limit_answer.of_take r) new
take_step old new b n r takes = inl (r, refl, takes)

pub takes_told : (old new : Core) (number : ℕ) (c : limit.Call) (a : limit_answer.Answer) (told : Outcome) → LimitTells a told
    → LimitStep (limits_of old.limiter) c a (limits_of new.limiter) → SameLeases old new → actors_of new.actors ≡ actors_of old.actors
    → new.replies.items ≡ reply_at old.tick number told ∷ []
    → (s : CoreState) → Refines old s → (t : CoreState) × Takes s number c new.replies.items t × Refines new t
takes_told old new number c a told tells step same mails replies s r =
    let stepped : LimitStep s.limits c a (limits_of new.limiter) = subst (λ l. LimitStep l c a (limits_of new.limiter)) r.limits step in (
      with_limits s (limits_of new.limiter),
      record { answer = a; limits = limits_of new.limiter; told = told; step = stepped; tells = tells; replies_are = at_tick number _ _ told _ replies r.tick; becomes = refl },
      record {
        leases = subst (λ x. StandsFor x s.keeper) (sym same.sessions) r.leases;
        limits = refl;
        actors = mails ∙ r.actors;
        waiting = same.waiting ∙ r.waiting;
        tick = same.tick ∙ r.tick;
        rests = ap (λ (a : Actors ℕ). a.turn) mails ∙ r.rests;
      },
    )

-- ---- mailboxes

granted_twice : {A : Type 0} (r : Result A ActorError) (old after : Actors ℕ) → if_granted r old (if_granted r old after) ≡ if_granted r old after
granted_twice (Ok x) old after = refl
granted_twice (Err e) old after = refl

pub spawn_step : (old new : Actors ℕ) (r : Result ℕ ActorError) → callers.OrLacksMemory (spawn_answer old) r → new ≡ if_granted r old (spawned old) → MailStep old mail.Spawn (mail_answer.of_number r) new
spawn_step old new r (inl told) after = inl (ap mail_answer.of_number told, after ∙ ap (λ x. if_granted x old (spawned old)) told ∙ granted_twice (spawn_answer old) old _)
spawn_step old new r (inr (told, ok)) after = inr (ok, ap mail_answer.of_number told, after ∙ ap (λ x. if_granted x old (spawned old)) told)

pub send_step : (old new : Actors ℕ) (from to message : ℕ) (r : Result Sent ActorError) → callers.OrLacksMemory (send_answer old from to) r → new ≡ if_granted r old (sent old from to message)
    → MailStep old (mail.Send from to message) (mail_answer.of_send r) new
send_step old new from to message r (inl told) after =
    inl (ap mail_answer.of_send told, after ∙ ap (λ x. if_granted x old (sent old from to message)) told ∙ granted_twice (send_answer old from to) old _)
send_step old new from to message r (inr (told, ok)) after = inr (ok, ap mail_answer.of_send told, after ∙ ap (λ x. if_granted x old (sent old from to message)) told)

granted_turn : {A : Type 0} (r : Result A ActorError) (old new : Actors ℕ) → new.turn ≡ old.turn → (if_granted r old new).turn ≡ old.turn
granted_turn (Ok x) old new e = e
granted_turn (Err x) old new e = refl

pub spawned_turn : (r : Result ℕ ActorError) (old new : Actors ℕ) → new ≡ if_granted r old (spawned old) → new.turn ≡ old.turn
spawned_turn r old new is = ap (λ (a : Actors ℕ). a.turn) is ∙ granted_turn r old (spawned old) (granted_turn (spawn_answer old) old _ refl)

picked_turn : (b : Bool) (x y old : Actors ℕ) → x.turn ≡ old.turn → y.turn ≡ old.turn → (if b then x else y).turn ≡ old.turn
picked_turn true x y old p q = p
picked_turn false x y old p q = q

received_turn : (v : Option (Actor ℕ)) (old : Actors ℕ) (from to message : ℕ) → (received_value v old from to message).turn ≡ old.turn
received_turn None old from to message = refl
received_turn (Some actor) old from to message = picked_turn (is_idle actor.mode) _ _ old refl refl

pub sent_turn : (r : Result Sent ActorError) (old new : Actors ℕ) (from to message : ℕ) → new ≡ if_granted r old (sent old from to message) → new.turn ≡ old.turn
sent_turn r old new from to message is =
    ap (λ (a : Actors ℕ). a.turn) is ∙ granted_turn r old (sent old from to message) (granted_turn (send_answer old from to) old _ (received_turn (value_at old.table to) old from to message))

ended_turn_value : (stop : Bool) (v : Option (Actor ℕ)) (old : Actors ℕ) (a : ℕ) → (ended_value stop v old a).turn ≡ old.turn
ended_turn_value true v old a = refl
ended_turn_value false None old a = refl
ended_turn_value false (Some actor) old a = picked_turn (length actor.mailbox == 0) _ _ old refl refl

pub ended_turn : (stop : Bool) (old : Actors ℕ) (a : ℕ) → (ended stop old a).turn ≡ None
ended_turn stop old a = ended_turn_value stop (value_at old.table a) (no_turn old) a

-- The core refines the state after a step of its mailboxes.
refines_mails : (old new : Core) (s : CoreState) → Refines old s → SameLeases old new → limits_of new.limiter ≡ limits_of old.limiter → (actors_of new.actors).turn ≡ None
    → Refines new (with_actors s (actors_of new.actors))
refines_mails old new s r same limits rests = record {
  leases = subst (λ x. StandsFor x s.keeper) (sym same.sessions) r.leases;
  limits = limits ∙ r.limits;
  actors = refl;
  waiting = same.waiting ∙ r.waiting;
  tick = same.tick ∙ r.tick;
  rests = rests;
}

pub mails_told : (old new : Core) (number : ℕ) (c : mail.Call ℕ) (a : mail_answer.Answer ℕ) (told : Outcome) → MailTells a told
    → MailStep (actors_of old.actors) c a (actors_of new.actors) → (actors_of new.actors).turn ≡ (actors_of old.actors).turn → SameLeases old new
    → limits_of new.limiter ≡ limits_of old.limiter → new.replies.items ≡ reply_at old.tick number told ∷ []
    → (s : CoreState) → Refines old s → (t : CoreState) × Mails s number c new.replies.items t × Refines new t
mails_told old new number c a told tells step turn same limits replies s r =
    let stepped : MailStep s.actors c a (actors_of new.actors) = subst (λ l. MailStep l c a (actors_of new.actors)) r.actors step in (
      with_actors s (actors_of new.actors),
      record { answer = a; actors = actors_of new.actors; told = told; step = stepped; tells = tells; replies_are = at_tick number _ _ told _ replies r.tick; becomes = refl },
      refines_mails old new s r same limits (turn ∙ r.rests),
    )

idle_turn : (queue : List ℕ) (old : Actors ℕ) (e : ActorError) → Err e ≡ begin_for queue old → (begun_for queue old).turn ≡ old.turn
idle_turn [] old e is = refl
idle_turn (front ∷ rest) old e is = cc is

pub begun_turn : (queue : List ℕ) (old : Actors ℕ) (me : ℕ) (got : Got ℕ) → Ok (me, got) ≡ begin_for queue old → (begun_for queue old).turn ≡ Some me
begun_turn [] old me got e = cc e
begun_turn (front ∷ rest) old me got e =
    let k : me ≡ front = grind (arith, e) in
    ap Some (sym k)

pub receive_refused : (old new : Core) (number : ℕ) (e : ActorError) → Err e ≡ begin_answer (actors_of old.actors) → actors_of new.actors ≡ begun (actors_of old.actors) → SameLeases old new
    → limits_of new.limiter ≡ limits_of old.limiter → new.replies.items ≡ reply_at old.tick number (outcome.MailRefused e) ∷ []
    → (s : CoreState) → Refines old s → (t : CoreState) × Receives s number new.replies.items t × Refines new t
receive_refused old new number e begins is same limits replies s r =
    let a = actors_of old.actors in
    let step : Step a mail.Begin (mail_answer.Refused e) (actors_of new.actors) = (r.rests, ap mail_answer.of_begin begins, is) in
    let stepped : Step s.actors mail.Begin (mail_answer.Refused e) (actors_of new.actors) = subst (λ x. Step x mail.Begin (mail_answer.Refused e) (actors_of new.actors)) r.actors step in (
      with_actors s (actors_of new.actors),
      record { answer = mail_answer.Refused e; mid = actors_of new.actors; begins = stepped; rest = (outcome.MailRefused e, refl, at_tick number _ _ _ _ replies r.tick, refl) },
      refines_mails old new s r same limits (ap (λ (x : Actors ℕ). x.turn) is ∙ idle_turn a.queue a e begins ∙ r.rests),
    )

pub receive_ran : (old new : Core) (mid : Actors ℕ) (number me : ℕ) (got : Got ℕ) (how : After) → Ok (me, got) ≡ begin_answer (actors_of old.actors) → mid ≡ begun (actors_of old.actors)
    → ((a : ℕ) → mid.turn ≡ Some a → how ≡ end_answer false (value_at mid.table a))
    → ((a : ℕ) → mid.turn ≡ Some a → actors_of new.actors ≡ ended false mid a) → SameLeases old new
    → limits_of new.limiter ≡ limits_of old.limiter → new.replies.items ≡ reply_at old.tick number (outcome.Ran me got) ∷ []
    → (s : CoreState) → Refines old s → (t : CoreState) × Receives s number new.replies.items t × Refines new t
receive_ran old new mid number me got how begins is answers ends same limits replies s r =
    let a = actors_of old.actors in
    let turn_is : mid.turn ≡ Some me = ap (λ (x : Actors ℕ). x.turn) is ∙ begun_turn a.queue a me got begins in
    let step : Step a mail.Begin (mail_answer.Turn me got) mid = (r.rests, ap mail_answer.of_begin begins, is) in
    let stepped : Step s.actors mail.Begin (mail_answer.Turn me got) mid = subst (λ x. Step x mail.Begin (mail_answer.Turn me got) mid) r.actors step in
    let last : Step mid (mail.End false) (mail_answer.Ended how) (actors_of new.actors) =
    subst (λ t. EndStep t false mid (mail_answer.Ended how) (actors_of new.actors)) (sym turn_is) (ap mail_answer.Ended (answers me turn_is), ends me turn_is) in (
      with_actors s (actors_of new.actors),
      record { answer = mail_answer.Turn me got; mid = mid; begins = stepped; rest = (mail_answer.Ended how, actors_of new.actors, last, at_tick number _ _ _ _ replies r.tick, refl) },
      refines_mails old new s r same limits (ap (λ (x : Actors ℕ). x.turn) (ends me turn_is) ∙ ended_turn false mid me),
    )

-- ---- the clock, and the end of the input

pub clocked : (old new : Core) (n tick : ℕ) (gone empty listed before : List ℕ) (left shown no_pairs : List (ℕ × ℕ)) (out : List Reply) → n ≤ max_nanos → tick ≡ down n
    → empty ≡ [] → no_pairs ≡ [] → out ≡ []
    → ((k : Keeper) → StandsFor old.sessions k → (due : List ℕ) × (gone ≡ empty ++ due) × (left ≡ no_pairs ++ leaves k due) × ListsDue closing_value k.sessions (greatest_at k n) due × StandsFor new.sessions (without_all (with_greatest k (greatest_at k n)) due))
    → ListsInto (limits_of old.limiter) n before listed (limits_of new.limiter)
    → shown ≡ left → ((k : Keeper) → StandsFor new.sessions k → new.replies.items ≡ out ++ waits.ended_by (closed_end k) new.tick shown (waits_of old.waiting))
    → ((k : Keeper) → StandsFor new.sessions k → waits_of new.waiting ≡ waits.still_by (closed_end k) shown (waits_of old.waiting))
    → new.tick ≡ max old.tick tick → actors_of new.actors ≡ actors_of old.actors
    → (s : CoreState) → Refines old s → (t : CoreState) × Advances s n new.replies.items t × Refines new t
clocked old new n tick gone empty listed before left shown no_pairs out fits down_is none_yet no_pairs_yet no_out closes fills show replies kept tick_is mails s r =
    let c = closes s.keeper r.leases in
    let due = c.0 in
    let keeper = without_all (with_greatest s.keeper (greatest_at s.keeper n)) due in
    let pairs = leaves s.keeper due in
    let pairs_are : shown ≡ pairs = show ∙ c.2 ∙ ap (λ ps. ps ++ pairs) no_pairs_yet in
    let greatest : keeper.greatest ≡ greatest_at s.keeper n = all_closed_tick (with_greatest s.keeper (greatest_at s.keeper n)) due in
    let ticks : new.tick ≡ keeper.greatest = tick_is ∙ ap (λ m. max m tick) r.tick ∙ ap (λ m. max s.keeper.greatest m) down_is ∙ sym greatest in
    let told : new.replies.items ≡ waits.ended_by (closed_end keeper) keeper.greatest pairs s.waiting =
    replies keeper c.4 ∙ ap (λ rs. rs ++ waits.ended_by (closed_end keeper) new.tick shown (waits_of old.waiting)) no_out
    ∙ ap (λ m. waits.ended_by (closed_end keeper) m shown (waits_of old.waiting)) ticks ∙ ap (λ ps. waits.ended_by (closed_end keeper) keeper.greatest ps (waits_of old.waiting)) pairs_are
    ∙ ap (waits.ended_by (closed_end keeper) keeper.greatest pairs) r.waiting in
    let stay : waits_of new.waiting ≡ waits.still_by (closed_end keeper) pairs s.waiting =
    kept keeper c.4 ∙ ap (λ ps. waits.still_by (closed_end keeper) ps (waits_of old.waiting)) pairs_are ∙ ap (waits.still_by (closed_end keeper) pairs) r.waiting in
    let l : ListsInto s.limits n before listed (limits_of new.limiter) = subst (λ x. ListsInto x n before listed (limits_of new.limiter)) r.limits fills in (
      record { keeper = keeper; limits = limits_of new.limiter; actors = s.actors; waiting = waits_of new.waiting },
      record { closed = due; due = l.0; leases = (fits, c.3, refl); buckets = l.2; replies_are = told; waiting = stay; mails = refl },
      record { leases = c.4; limits = refl; actors = mails ∙ r.actors; waiting = refl; tick = ticks; rests = ap (λ (a : Actors ℕ). a.turn) mails ∙ r.rests },
    )

pub finished : (old new : Core) (out : List Reply) → out ≡ [] → new.replies.items ≡ out ++ waits.ended input_end old.tick (waits_of old.waiting) → waits_of new.waiting ≡ []
    → new.sessions ≡ old.sessions → new.tick ≡ old.tick → limits_of new.limiter ≡ limits_of old.limiter → actors_of new.actors ≡ actors_of old.actors
    → (s : CoreState) → Refines old s → (t : CoreState) × Finishes s new.replies.items t × Refines new t
finished old new out none_yet replies none sessions tick limits mails s r =
    let told : new.replies.items ≡ waits.ended input_end s.keeper.greatest s.waiting =
    replies ∙ ap (λ xs. xs ++ waits.ended input_end old.tick (waits_of old.waiting)) none_yet ∙ ap (λ m. waits.ended input_end m (waits_of old.waiting)) r.tick
    ∙ ap (λ ws. waits.ended input_end s.keeper.greatest ws) r.waiting in (
      with_leases s s.keeper [],
      record { replies_are = told; becomes = refl },
      record {
        leases = subst (λ x. StandsFor x s.keeper) (sym sessions) r.leases;
        limits = limits ∙ r.limits;
        actors = mails ∙ r.actors;
        waiting = none;
        tick = tick ∙ r.tick;
        rests = ap (λ (a : Actors ℕ). a.turn) mails ∙ r.rests;
      },
    )
