-- Each run can be continued: whatever comes next has replies.
use Rattle.std.proofs.Common.{◌≡◌, ◌≤◌, ◌-◌, ℕ, Bool, true, false, List, [], ◌∷◌, ◌++◌, Option, Some, None, Result, Ok, Err, refl, sym, ap, subst, ◌∙◌, append_assoc, inl, inr}
use Rattle.std.specs.Prelude.{⊤, IfSome, nat_lt}
use Rattle.std.proofs.lemmas.Bool.{cases_lt, ltb-false}
use Rattle.mono_model.specs.Table.{value_at, with_value}
use Rattle.mono_model.specs.Ticks.{max_nanos}
use Rattle.mono_session.specs.Keeper.{Keeper, open_answer, opened, beat_answer, beaten, close_answer, closed, acquire_answer, acquired, release_answer, released, owner_answer, with_greatest}
use Rattle.mono_session.specs.Entries.{keys_in}
use Rattle.mono_session.specs.Holders.{leaves}
use Rattle.mono_session.specs.Steps as lease_step
use Rattle.mono_session.specs.Answers as lease_answer
use Rattle.mono_session.specs.declared.error.SessionError.{SessionError}
use Rattle.mono_limit.specs.Buckets.{Bucket, IsValidBucket, with_tokens, tick_of_enough}
use Rattle.mono_limit.specs.Schedules.{waiting_value}
use Rattle.mono_limit.specs.Limiter.{Limits, no_limits, bucket_answer, with_bucket, with_buckets, TakesFrom}
use Rattle.mono_limit.specs.Calls as limit
use Rattle.mono_limit.specs.Answers as limit_answer
use Rattle.mono_limit.specs.Steps as limit_step
use Rattle.mono_limit.specs.declared.LimitError.{LimitError}
use Rattle.mono_limit.specs.declared.LimitError.TheVariants as limit_error
use Rattle.mono_limit.specs.declared.Take.{Take}
use Rattle.mono_limit.specs.declared.Take.TheVariants.{Granted, Short}
use Rattle.mono_limit.proofs.FillLemmas.{enough_at_tick}
use Rattle.mono_limit.proofs.ValidityLemmas.{are_ever_valid}
use Rattle.mono_actor.specs.Actors.{Actors, got_value, spawn_answer, spawned, send_answer, sent, begin_for, begun_for, end_answer, ended}
use Rattle.mono_actor.specs.Calls as mail
use Rattle.mono_actor.specs.Answers as mail_answer
use Rattle.mono_actor.specs.Steps as mail_step
use Rattle.mono_actor.specs.declared.answers.ActorError.{ActorError}
use Rattle.mono_actor.specs.declared.answers.Sent.{Sent}
use Rattle.mono_actor.specs.declared.answers.Sent.TheVariants.{Queued}
use Rattle.mono_actor.specs.declared.answers.ActorError.TheVariants as mail_error
use Rattle.lease_core.specs.declared.ends.Waiter.{Waiter}
use Rattle.lease_core.specs.declared.requests.Call.{Call}
use Rattle.lease_core.specs.declared.requests.Call.TheVariants as call
use Rattle.lease_core.specs.declared.requests.Outcome.{Outcome}
use Rattle.lease_core.specs.declared.requests.Outcome.TheVariants as outcome
use Rattle.lease_core.specs.declared.requests.Reply.{Reply}
use Rattle.lease_core.specs.declared.sizes.Sizes.{Sizes}
use Rattle.lease_core.specs.Waits.{left_in, closed_end, input_end}
use Rattle.lease_core.specs.Waits as waits
use Rattle.lease_core.specs.Cores.{CoreState, new_core, with_leases, with_limits, with_actors, at_once}
use Rattle.lease_core.specs.Tells.{LeaseTells, LimitTells, MailTells}
use Rattle.lease_core.specs.Steps.{LimitStep, MailStep, HeldOrWaits, HeldOrBusy, Frees, Receives, TurnEnds, Handles, Advances, Finishes, Event, Advance, Handle, Finish, Step, Run}
use Rattle.lease_core.specs.Laws.{AreReadings, RunsContinue}
use Rattle.lease_core.proofs.DueListLemmas.{lists_some}
use Rattle.lease_core.proofs.ServiceLemmas.{spawned_turn, sent_turn, ended_turn}

-- ---- the states that runs reach

limits_on : (calls : List limit.Call) (answers : List limit_answer.Answer) (old mid new : Limits) (c : limit.Call) (a : limit_answer.Answer) → limit_step.Run old calls answers mid → limit_step.Step mid c a new
    → limit_step.Run old (calls ++ c ∷ []) (answers ++ a ∷ []) new
limits_on [] [] old mid new c a run step = (new, subst (λ (m : Limits). limit_step.Step m c a new) run step, refl)
limits_on [] (b ∷ bs) old mid new c a run step = absurd run
limits_on (d ∷ ds) [] old mid new c a run step = absurd run
limits_on (d ∷ ds) (b ∷ bs) old mid new c a (next, first, more) step = (next, first, limits_on ds bs next mid new c a more step)

-- No turn runs, and calls on the buckets lead to these limits.
record IsReached (sizes : Sizes) (state : CoreState) : Type 0 where
  pub rests : state.actors.turn ≡ None
  pub calls : List limit.Call
  pub answers : List limit_answer.Answer
  pub limits : limit_step.Run (no_limits sizes.buckets 0) calls answers state.limits

module _ (sizes : Sizes) where
  new_reached : IsReached sizes (new_core sizes)
  new_reached = record { rests = refl; calls = []; answers = []; limits = refl }

  reached_same : (old new : CoreState) → new ≡ old → IsReached sizes old → IsReached sizes new
  reached_same old new is r = subst (λ (s : CoreState). IsReached sizes s) (sym is) r

  reached_leases : (old new : CoreState) (keeper : Keeper) (waiting : List Waiter) → new ≡ with_leases old keeper waiting → IsReached sizes old → IsReached sizes new
  reached_leases old new keeper waiting is r = reached_same (with_leases old keeper waiting) new is (record { rests = r.rests; calls = r.calls; answers = r.answers; limits = r.limits })

  reached_actors : (old new : CoreState) (actors : Actors ℕ) → new ≡ with_actors old actors → actors.turn ≡ None → IsReached sizes old → IsReached sizes new
  reached_actors old new actors is rests r = reached_same (with_actors old actors) new is (record { rests = rests; calls = r.calls; answers = r.answers; limits = r.limits })

  reached_limits : (old new : CoreState) (limits : Limits) (c : limit.Call) (a : limit_answer.Answer) → new ≡ with_limits old limits → LimitStep old.limits c a limits → IsReached sizes old → IsReached sizes new
  reached_limits old new limits c a is (inl step) r =
      reached_same (with_limits old limits) new is
      (record { rests = r.rests; calls = r.calls ++ c ∷ []; answers = r.answers ++ a ∷ []; limits = limits_on r.calls r.answers (no_limits sizes.buckets 0) old.limits limits c a r.limits step })
  reached_limits old new limits c a is (inr lacks) r =
      reached_same (with_limits old limits) new is
      (record { rests = r.rests; calls = r.calls; answers = r.answers; limits = subst (λ (l : Limits). limit_step.Run (no_limits sizes.buckets 0) r.calls r.answers l) (sym lacks.2) r.limits })

  -- the leases alone have changed
  abbrev ChangesLeases : CoreState → CoreState → Type 0
  ChangesLeases old new = (keeper : Keeper) × (waiting : List Waiter) × (new ≡ with_leases old keeper waiting)

  held_leases : (number s key : ℕ) (old new : CoreState) (a : lease_answer.Answer) (k : Keeper) (replies : List Reply) → HeldOrWaits old number s key a k replies new → ChangesLeases old new
  held_leases number s key old new lease_answer.Waits k replies h = (k, _, h.1)
  held_leases number s key old new (lease_answer.Session x) k replies h = (k, _, h.3)
  held_leases number s key old new lease_answer.Done k replies h = (k, _, h.3)
  held_leases number s key old new lease_answer.Held k replies h = (k, _, h.3)
  held_leases number s key old new (lease_answer.Owner x) k replies h = (k, _, h.3)
  held_leases number s key old new lease_answer.Free k replies h = (k, _, h.3)
  held_leases number s key old new (lease_answer.Closed x) k replies h = (k, _, h.3)
  held_leases number s key old new (lease_answer.Refused x) k replies h = (k, _, h.3)

  tried_leases : (number : ℕ) (old new : CoreState) (a : lease_answer.Answer) (k : Keeper) (replies : List Reply) → HeldOrBusy old number a k replies new → ChangesLeases old new
  tried_leases number old new lease_answer.Waits k replies h = (old.keeper, old.waiting, h.1)
  tried_leases number old new (lease_answer.Session x) k replies h = (k, _, h.3)
  tried_leases number old new lease_answer.Done k replies h = (k, _, h.3)
  tried_leases number old new lease_answer.Held k replies h = (k, _, h.3)
  tried_leases number old new (lease_answer.Owner x) k replies h = (k, _, h.3)
  tried_leases number old new lease_answer.Free k replies h = (k, _, h.3)
  tried_leases number old new (lease_answer.Closed x) k replies h = (k, _, h.3)
  tried_leases number old new (lease_answer.Refused x) k replies h = (k, _, h.3)

  frees_leases : (number : ℕ) (e : ℕ → Waiter → Option Outcome) (keys : List ℕ) (old new : CoreState) (a : lease_answer.Answer) (k : Keeper) (replies : List Reply) → Frees old number e keys a k replies new → ChangesLeases old new
  frees_leases number e keys old new lease_answer.Done k replies h = (k, _, h.1)
  frees_leases number e keys old new lease_answer.Waits k replies h = (k, _, h.3)
  frees_leases number e keys old new (lease_answer.Session x) k replies h = (k, _, h.3)
  frees_leases number e keys old new lease_answer.Held k replies h = (k, _, h.3)
  frees_leases number e keys old new (lease_answer.Owner x) k replies h = (k, _, h.3)
  frees_leases number e keys old new lease_answer.Free k replies h = (k, _, h.3)
  frees_leases number e keys old new (lease_answer.Closed x) k replies h = (k, _, h.3)
  frees_leases number e keys old new (lease_answer.Refused x) k replies h = (k, _, h.3)

  reached_changed : (old new : CoreState) → ChangesLeases old new → IsReached sizes old → IsReached sizes new
  reached_changed old new c r = reached_leases old new c.0 c.1 c.2 r

  -- a step of the mailboxes between turns
  spawn_rests : (old new : Actors ℕ) (a : mail_answer.Answer ℕ) → MailStep old mail.Spawn a new → old.turn ≡ None → new.turn ≡ None
  spawn_rests old new a (inl step) rests = spawned_turn (Ok 0) old new step.1 ∙ rests
  spawn_rests old new a (inr lacks) rests = ap (λ (x : Actors ℕ). x.turn) lacks.2 ∙ rests

  send_rests : (old new : Actors ℕ) (from to message : ℕ) (a : mail_answer.Answer ℕ) → MailStep old (mail.Send from to message) a new → old.turn ≡ None → new.turn ≡ None
  send_rests old new from to message a (inl step) rests = sent_turn (Ok Queued) old new from to message step.1 ∙ rests
  send_rests old new from to message a (inr lacks) rests = ap (λ (x : Actors ℕ). x.turn) lacks.2 ∙ rests

  -- a turn that could not begin leaves the mailboxes as they were
  idle_rests : (queue : List ℕ) (old mid : Actors ℕ) (a : mail_answer.Answer ℕ) → a ≡ mail_answer.of_begin (begin_for queue old) → mid ≡ begun_for queue old → old.turn ≡ None → ((me : ℕ) (got : _) → a ≡ mail_answer.Turn me got → ⊥) → mid.turn ≡ None
  idle_rests [] old mid a told is rests none = ap (λ (x : Actors ℕ). x.turn) is ∙ rests
  idle_rests (front ∷ rest) old mid a told is rests none = absurd (none front _ told)

  ended_rests : (turn : Option ℕ) (mid new : Actors ℕ) (how : mail_answer.Answer ℕ) → mail_step.EndStep turn false mid how new → new.turn ≡ None
  ended_rests None mid new how step = absurd step
  ended_rests (Some me) mid new how step = ap (λ (x : Actors ℕ). x.turn) step.1 ∙ ended_turn false mid me

  turn_reached : (number : ℕ) (old new : CoreState) (a : mail_answer.Answer ℕ) (mid : Actors ℕ) (replies : List Reply) → mail_step.Step old.actors mail.Begin a mid → TurnEnds old number a mid replies new → IsReached sizes old → IsReached sizes new
  turn_reached number old new (mail_answer.Turn x got) mid replies begins h r = reached_actors old new h.1 h.4 (ended_rests mid.turn mid h.1 h.0 h.2) r
  turn_reached number old new (mail_answer.Actor x) mid replies begins h r = reached_actors old new mid h.3 (idle_rests old.actors.queue old.actors mid (mail_answer.Actor x) begins.1 begins.2 r.rests (λ me got e. cc e)) r
  turn_reached number old new (mail_answer.Posted x) mid replies begins h r = reached_actors old new mid h.3 (idle_rests old.actors.queue old.actors mid (mail_answer.Posted x) begins.1 begins.2 r.rests (λ me got e. cc e)) r
  turn_reached number old new mail_answer.Done mid replies begins h r = reached_actors old new mid h.3 (idle_rests old.actors.queue old.actors mid mail_answer.Done begins.1 begins.2 r.rests (λ me got e. cc e)) r
  turn_reached number old new (mail_answer.Ended x) mid replies begins h r = reached_actors old new mid h.3 (idle_rests old.actors.queue old.actors mid (mail_answer.Ended x) begins.1 begins.2 r.rests (λ me got e. cc e)) r
  turn_reached number old new (mail_answer.Due x) mid replies begins h r = reached_actors old new mid h.3 (idle_rests old.actors.queue old.actors mid (mail_answer.Due x) begins.1 begins.2 r.rests (λ me got e. cc e)) r
  turn_reached number old new (mail_answer.Refused x) mid replies begins h r = reached_actors old new mid h.3 (idle_rests old.actors.queue old.actors mid (mail_answer.Refused x) begins.1 begins.2 r.rests (λ me got e. cc e)) r
  turn_reached number old new mail_answer.Invalid mid replies begins h r = reached_actors old new mid h.3 (idle_rests old.actors.queue old.actors mid mail_answer.Invalid begins.1 begins.2 r.rests (λ me got e. cc e)) r

  handled_reached : (number key : ℕ) (c : Call) (old new : CoreState) (replies : List Reply) → Handles old number key c replies new → IsReached sizes old → IsReached sizes new
  handled_reached number key (call.Open limit) old new replies h r = reached_leases old new h.keeper old.waiting h.becomes r
  handled_reached number key (call.Beat s) old new replies h r = reached_leases old new h.keeper old.waiting h.becomes r
  handled_reached number key (call.Close s) old new replies h r = reached_changed old new (frees_leases number (left_in s outcome.Closed h.keeper) (keys_in old.keeper.entries s) old new h.answer h.keeper replies h.rest) r
  handled_reached number key (call.Acquire s) old new replies h r = reached_changed old new (held_leases number s key old new h.answer h.keeper replies h.rest) r
  handled_reached number key (call.Release s) old new replies h r = reached_changed old new (frees_leases number (left_in s outcome.Left h.keeper) (key ∷ []) old new h.answer h.keeper replies h.rest) r
  handled_reached number key (call.Try s) old new replies h r = reached_changed old new (tried_leases number old new h.answer h.keeper replies h.rest) r
  handled_reached number key call.Owner old new replies h r = reached_leases old new h.keeper old.waiting h.becomes r
  handled_reached number key call.Count old new replies h r = reached_same old new h.1 r
  handled_reached number key (call.Bucket burst period) old new replies h r = reached_limits old new h.limits (limit.Bucket burst period) h.answer h.becomes h.step r
  handled_reached number key (call.Take b n) old new replies h r = reached_limits old new h.limits (limit.Take b n) h.answer h.becomes h.step r
  handled_reached number key call.Spawn old new replies h r = reached_actors old new h.actors h.becomes (spawn_rests old.actors h.actors h.answer h.step r.rests) r
  handled_reached number key (call.Send from to message) old new replies h r = reached_actors old new h.actors h.becomes (send_rests old.actors h.actors from to message h.answer h.step r.rests) r
  handled_reached number key call.Receive old new replies h r = turn_reached number old new h.answer h.mid replies h.begins h.rest r

  step_reached : (e : Event) (old new : CoreState) (replies : List Reply) → Step old e replies new → IsReached sizes old → IsReached sizes new
  step_reached (Advance n) old new replies step r = record {
    rests = ap (λ (x : Actors ℕ). x.turn) step.mails ∙ r.rests;
    calls = r.calls ++ limit.Clock n ∷ [];
    answers = r.answers ++ limit_answer.Due step.due ∷ [];
    limits = limits_on r.calls r.answers (no_limits sizes.buckets 0) old.limits new.limits (limit.Clock n) (limit_answer.Due step.due) r.limits step.buckets;
  }
  step_reached (Handle request) old new replies step r = handled_reached request.number request.key request.call old new replies step r
  step_reached Finish old new replies step r = reached_leases old new old.keeper [] step.becomes r

  run_reached : (events : List Event) (replies : List Reply) (old new : CoreState) → Run old events replies new → IsReached sizes old → IsReached sizes new
  run_reached [] replies old new run r = reached_same old new run.1 r
  run_reached (e ∷ events) replies old new (first, rest, mid, step, more, is) r = run_reached events rest mid new more (step_reached e old mid first step r)

-- ---- what is told

abbrev TellsSome : lease_answer.Answer → Type 0
TellsSome a = (told : Outcome) × LeaseTells a told

tells_number : (r : Result ℕ SessionError) → TellsSome (lease_answer.of_number r)
tells_number (Ok s) = (outcome.Opened s, refl)
tells_number (Err e) = (outcome.LeaseRefused e, refl)

tells_done : (r : Result ⊤ SessionError) → TellsSome (lease_answer.of_done r)
tells_done (Ok x) = (outcome.Done, refl)
tells_done (Err e) = (outcome.LeaseRefused e, refl)

tells_owner : (holder : Option ℕ) → TellsSome (lease_answer.of_owner holder)
tells_owner None = (outcome.Free, refl)
tells_owner (Some s) = (outcome.Owned s, refl)

tells_bucket : (r : Result ℕ LimitError) → (told : Outcome) × LimitTells (limit_answer.of_bucket r) told
tells_bucket (Ok b) = (outcome.Added b, refl)
tells_bucket (Err e) = (outcome.LimitRefused e, refl)

tells_take : (r : Result Take LimitError) → (told : Outcome) × LimitTells (limit_answer.of_take r) told
tells_take (Ok t) = (outcome.Took t, refl)
tells_take (Err e) = (outcome.LimitRefused e, refl)

tells_actor : (r : Result ℕ ActorError) → (told : Outcome) × MailTells (mail_answer.of_number r) told
tells_actor (Ok a) = (outcome.Spawned a, refl)
tells_actor (Err e) = (outcome.MailRefused e, refl)

tells_sent : (r : Result Sent ActorError) → (told : Outcome) × MailTells (mail_answer.of_send r) told
tells_sent (Ok what) = (outcome.Posted what, refl)
tells_sent (Err e) = (outcome.MailRefused e, refl)

abbrev SomeStep : (List Reply → CoreState → Type 0) → Type 0
SomeStep P = (replies : List Reply) × (new : CoreState) × P replies new

module _ (old : CoreState) (number : ℕ) where
  holds_or_waits : (s key : ℕ) (keeper : Keeper) (r : Result Bool SessionError) → SomeStep (λ replies new. HeldOrWaits old number s key (lease_answer.of_first r) keeper replies new)
  holds_or_waits s key keeper (Ok true) = (_, _, (outcome.Held, refl, refl, refl))
  holds_or_waits s key keeper (Ok false) = (_, _, (refl, refl))
  holds_or_waits s key keeper (Err e) = (_, _, (outcome.LeaseRefused e, refl, refl, refl))

  holds_or_busy : (keeper : Keeper) (r : Result Bool SessionError) → SomeStep (λ replies new. HeldOrBusy old number (lease_answer.of_first r) keeper replies new)
  holds_or_busy keeper (Ok true) = (_, _, (outcome.Held, refl, refl, refl))
  holds_or_busy keeper (Ok false) = (_, _, (refl, refl))
  holds_or_busy keeper (Err e) = (_, _, (outcome.LeaseRefused e, refl, refl, refl))

  frees : (end_at : ℕ → Waiter → Option Outcome) (keys : List ℕ) (keeper : Keeper) (r : Result ⊤ SessionError) → SomeStep (λ replies new. Frees old number end_at keys (lease_answer.of_done r) keeper replies new)
  frees end_at keys keeper (Ok x) = (_, _, (refl, refl))
  frees end_at keys keeper (Err e) = (_, _, (outcome.LeaseRefused e, refl, refl, refl))

-- ---- a take from a bucket that is valid

abbrev TakesSome : Limits → Option Bucket → ℕ → ℕ → Type 0
TakesSome limits bucket b n = (r : Result Take LimitError) × (new : Limits) × TakesFrom bucket limits b n r new

take_from : (limits : Limits) (b n : ℕ) (bucket : Bucket) (is_more : Bool) → nat_lt bucket.burst n ≡ is_more → IsValidBucket limits.greatest bucket → TakesSome limits (Some bucket) b n
take_from limits b n bucket true is valid = (Err limit_error.TooMany, limits, (is, refl, refl))
take_from limits b n bucket false is valid = elim (cases_lt bucket.tokens n) [
  | inl short ↦ (
    Ok (Short (tick_of_enough limits.greatest bucket n)),
    with_buckets limits (with_value limits.buckets b bucket),
    (is, (bucket, (enough_at_tick limits.greatest bucket n valid short (ltb-false bucket.burst n is), refl), refl)),
  )
  | inr enough ↦ (
    Ok Granted,
    with_buckets limits (with_value limits.buckets b (with_tokens bucket (bucket.tokens - n))),
    (is, (with_tokens bucket (bucket.tokens - n), (enough, refl), refl)),
  )
]

take_some : (limits : Limits) (bucket : Option Bucket) (b n : ℕ) → IfSome bucket (IsValidBucket limits.greatest) → TakesSome limits bucket b n
take_some limits None b n valid = (Err limit_error.NoBucket, limits, (refl, refl))
take_some limits (Some bucket) b n valid = take_from limits b n bucket (nat_lt bucket.burst n) refl valid

-- ---- a turn

turn_some : (old : CoreState) (number : ℕ) (queue : List ℕ) → old.actors.queue ≡ queue → old.actors.turn ≡ None → SomeStep (λ replies new. Receives old number replies new)
turn_some old number [] is rests = (
  at_once old number (outcome.MailRefused mail_error.Idle) ∷ [],
  with_actors old old.actors,
  record {
    answer = mail_answer.Refused mail_error.Idle;
    mid = old.actors;
    begins = (rests, ap (λ q. mail_answer.of_begin (begin_for q old.actors)) (sym is), ap (λ q. begun_for q old.actors) (sym is));
    rest = (outcome.MailRefused mail_error.Idle, refl, refl, refl);
  },
)
turn_some old number (front ∷ rest) is rests =
    let mid = begun_for (front ∷ rest) old.actors in
    let got = got_value (value_at old.actors.table front) in (
      at_once old number (outcome.Ran front got) ∷ [],
      with_actors old (ended false mid front),
      record {
        answer = mail_answer.Turn front got;
        mid = mid;
        begins = (rests, ap (λ q. mail_answer.of_begin (begin_for q old.actors)) (sym is), ap (λ q. begun_for q old.actors) (sym is));
        rest = (mail_answer.Ended (end_answer false (value_at mid.table front)), ended false mid front, (refl, refl), refl, refl);
      },
    )

-- ---- each request has replies

handles_some : (sizes : Sizes) (number key : ℕ) (c : Call) (old : CoreState) → IsReached sizes old → SomeStep (λ replies new. Handles old number key c replies new)
handles_some sizes number key (call.Open limit) old r =
    let a = open_answer old.keeper limit in
    let t = tells_number a in
    (_, _, record { answer = lease_answer.of_number a; keeper = opened old.keeper limit; told = t.0; step = inl (refl, refl); tells = t.1; replies_are = refl; becomes = refl })
handles_some sizes number key (call.Beat s) old r =
    let a = beat_answer old.keeper s in
    let t = tells_done a in
    (_, _, record { answer = lease_answer.of_done a; keeper = beaten old.keeper s; told = t.0; step = inl (refl, refl); tells = t.1; replies_are = refl; becomes = refl })
handles_some sizes number key (call.Close s) old r =
    let a = close_answer old.keeper s in
    let k = closed old.keeper s in
    let f = frees old number (left_in s outcome.Closed k) (keys_in old.keeper.entries s) k a in
    (f.0, f.1, record { answer = lease_answer.of_done a; keeper = k; step = inl (refl, refl); rest = f.2 })
handles_some sizes number key (call.Acquire s) old r =
    let a = acquire_answer old.keeper s key in
    let k = acquired old.keeper s key in
    let h = holds_or_waits old number s key k a in
    (h.0, h.1, record { answer = lease_answer.of_first a; keeper = k; step = inl (refl, refl); rest = h.2 })
handles_some sizes number key (call.Release s) old r =
    let a = release_answer old.keeper s key in
    let k = released old.keeper s key in
    let f = frees old number (left_in s outcome.Left k) (key ∷ []) k a in
    (f.0, f.1, record { answer = lease_answer.of_done a; keeper = k; step = inl (refl, refl); rest = f.2 })
handles_some sizes number key (call.Try s) old r =
    let a = acquire_answer old.keeper s key in
    let k = acquired old.keeper s key in
    let h = holds_or_busy old number k a in
    (h.0, h.1, record { answer = lease_answer.of_first a; keeper = k; step = inl (refl, refl); rest = h.2 })
handles_some sizes number key call.Owner old r =
    let a = owner_answer old.keeper key in
    let t = tells_owner a in
    (_, _, record { answer = lease_answer.of_owner a; keeper = old.keeper; told = t.0; step = inl (refl, refl); tells = t.1; replies_are = refl; becomes = refl })
handles_some sizes number key call.Count old r = (_, _, (refl, refl))
handles_some sizes number key (call.Bucket burst period) old r =
    let a = bucket_answer old.limits burst period in
    let t = tells_bucket a in
    (_, _, record { answer = limit_answer.of_bucket a; limits = with_bucket old.limits burst period; told = t.0; step = inl (refl, refl); tells = t.1; replies_are = refl; becomes = refl })
handles_some sizes number key (call.Take b n) old r =
    let valid = are_ever_valid r.calls r.answers sizes.buckets 0 old.limits r.limits in
    let takes = take_some old.limits (value_at old.limits.buckets b) b n (valid.buckets b) in
    let t = tells_take takes.0 in
    (_, _, record { answer = limit_answer.of_take takes.0; limits = takes.1; told = t.0; step = inl (takes.0, refl, takes.2); tells = t.1; replies_are = refl; becomes = refl })
handles_some sizes number key call.Spawn old r =
    let a = spawn_answer old.actors in
    let t = tells_actor a in
    (_, _, record { answer = mail_answer.of_number a; actors = spawned old.actors; told = t.0; step = inl (refl, refl); tells = t.1; replies_are = refl; becomes = refl })
handles_some sizes number key (call.Send from to message) old r =
    let a = send_answer old.actors from to in
    let t = tells_sent a in
    (_, _, record { answer = mail_answer.of_send a; actors = sent old.actors from to message; told = t.0; step = inl (refl, refl); tells = t.1; replies_are = refl; becomes = refl })
handles_some sizes number key call.Receive old r = turn_some old number old.actors.queue refl r.rests

-- ---- runs

advances_some : (old : CoreState) (n : ℕ) → n ≤ max_nanos → SomeStep (λ replies new. Advances old n replies new)
advances_some old n le =
    let g = lease_step.greatest_at old.keeper n in
    let h = limit_step.greatest_at old.limits n in
    let closed = lists_some lease_step.closing_value old.keeper.sessions g refl in
    let due = lists_some waiting_value old.limits.retries h refl in
    let keeper = lease_step.without_all (with_greatest old.keeper g) closed.0 in
    let pairs = leaves old.keeper closed.0 in (
      waits.ended_by (closed_end keeper) keeper.greatest pairs old.waiting,
      record {
        keeper = keeper;
        limits = limit_step.after_waits (limit_step.at_tick old.limits h) due.0;
        actors = old.actors;
        waiting = waits.still_by (closed_end keeper) pairs old.waiting;
      },
      record { closed = closed.0; due = due.0; leases = (le, closed.1, refl); buckets = (le, due.1, refl); replies_are = refl; waiting = refl; mails = refl },
    )

finishes_some : (old : CoreState) → SomeStep (λ replies new. Finishes old replies new)
finishes_some old = (waits.ended input_end old.keeper.greatest old.waiting, with_leases old old.keeper [], record { replies_are = refl; becomes = refl })

-- a step, and then a run from where it led
run_from : (sizes : Sizes) (e : Event) (events : List Event) (old : CoreState) → SomeStep (λ replies new. Step old e replies new) → ((mid : CoreState) → IsReached sizes mid → SomeStep (λ replies new. Run mid events replies new)) → IsReached sizes old
    → SomeStep (λ replies new. Run old (e ∷ events) replies new)
run_from sizes e events old one more r =
    let rest = more one.1 (step_reached sizes e old one.1 one.0 one.2 r) in
    (one.0 ++ rest.0, rest.1, (one.0, rest.0, one.1, one.2, rest.2, refl))

run_some : (sizes : Sizes) (events : List Event) (old : CoreState) → AreReadings events → IsReached sizes old → SomeStep (λ replies new. Run old events replies new)
run_some sizes [] old are r = ([], old, (refl, refl))
run_some sizes (Advance n ∷ events) old are r = run_from sizes (Advance n) events old (advances_some old n are.0) (λ mid reached. run_some sizes events mid are.1 reached) r
run_some sizes (Handle q ∷ events) old are r = run_from sizes (Handle q) events old (handles_some sizes q.number q.key q.call old r) (λ mid reached. run_some sizes events mid are reached) r
run_some sizes (Finish ∷ events) old are r = run_from sizes Finish events old (finishes_some old) (λ mid reached. run_some sizes events mid are reached) r

run_on : (s t u : CoreState) (xs ys : List Event) (rs qs : List Reply) → Run s xs rs t → Run t ys qs u → Run s (xs ++ ys) (rs ++ qs) u
run_on s t u [] ys rs qs one two = subst (λ r. Run s ys (r ++ qs) u) (sym one.0) (subst (λ (m : CoreState). Run m ys qs u) one.1 two)
run_on s t u (e ∷ xs) ys rs qs (first, rest, mid, step, more, is) two =
    (first, rest ++ qs, mid, step, run_on mid t u xs ys rest qs more two, ap (λ r. r ++ qs) is ∙ append_assoc first rest qs)

pub runs_continue : RunsContinue
runs_continue sizes events later replies last are run =
    let more = run_some sizes later last are (run_reached sizes events replies (new_core sizes) last run (new_reached sizes)) in
    (more.0, more.1, run_on (new_core sizes) last more.1 events later replies more.0 run more.2)
