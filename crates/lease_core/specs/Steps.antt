-- The steps of a core: from old it may perform the event with these replies and become new. Each step is a step of the
-- services' models, or an allocation failed and nothing has changed.
use Rattle.std.specs.Prelude.{◌≡◌, ◌⊎◌, ⊤, ℕ, false, List, [], ◌∷◌, ◌++◌, length, Option, IsOk}
use Rattle.mono_model.specs.Table.{count_of}
use Rattle.mono_session.specs.Keeper.{Keeper, open_answer}
use Rattle.mono_session.specs.Entries.{keys_in}
use Rattle.mono_session.specs.Holders.{leaves}
use Rattle.mono_session.specs.Calls as lease
use Rattle.mono_session.specs.Answers as lease_answer
use Rattle.mono_session.specs.Steps as lease_step
use Rattle.mono_session.specs.declared.error.SessionError.TheVariants as lease_error
use Rattle.mono_limit.specs.Limiter.{Limits, bucket_answer}
use Rattle.mono_limit.specs.Calls as limit
use Rattle.mono_limit.specs.Answers as limit_answer
use Rattle.mono_limit.specs.Steps as limit_step
use Rattle.mono_limit.specs.declared.LimitError.TheVariants as limit_error
use Rattle.mono_actor.specs.Actors.{Actors, spawn_answer, send_answer}
use Rattle.mono_actor.specs.Calls as mail
use Rattle.mono_actor.specs.Answers as mail_answer
use Rattle.mono_actor.specs.Steps as mail_step
use Rattle.mono_actor.specs.declared.answers.ActorError.TheVariants as mail_error
use Rattle.lease_core.specs.declared.ends.Waiter.{Waiter}
use Rattle.lease_core.specs.declared.requests.Call.{Call}
use Rattle.lease_core.specs.declared.requests.Call.TheVariants as call
use Rattle.lease_core.specs.declared.requests.Counts.{Counts}
use Rattle.lease_core.specs.declared.requests.Request.{Request}
use Rattle.lease_core.specs.declared.requests.Outcome.{Outcome}
use Rattle.lease_core.specs.declared.requests.Outcome.TheVariants as outcome
use Rattle.lease_core.specs.declared.requests.Reply.{Reply}
use Rattle.lease_core.specs.Waits.{left_in, closed_end, input_end, ended, ended_by, still_by}
use Rattle.lease_core.specs.Cores.{CoreState, with_leases, with_limits, with_actors, at_once}
use Rattle.lease_core.specs.Tells.{LeaseTells, LimitTells, MailTells}

-- The calls that may run out of memory. An acquire reserves memory before it looks at anything else.
abbrev pub LeaseMayLack : Keeper → lease.Call → Type 0
LeaseMayLack keeper (lease.Open limit) = IsOk (open_answer keeper limit)
LeaseMayLack keeper (lease.Beat s) = ⊥
LeaseMayLack keeper (lease.Close s) = ⊥
LeaseMayLack keeper (lease.Acquire s key) = ⊤
LeaseMayLack keeper (lease.Release s key) = ⊥
LeaseMayLack keeper (lease.Owner key) = ⊥
LeaseMayLack keeper (lease.Clock n) = ⊥

abbrev pub LimitMayLack : Limits → limit.Call → Type 0
LimitMayLack limits (limit.Bucket burst period) = IsOk (bucket_answer limits burst period)
LimitMayLack limits (limit.Take b n) = ⊥
LimitMayLack limits (limit.Retry base cap most) = ⊥
LimitMayLack limits (limit.Fail r) = ⊥
LimitMayLack limits (limit.Done r) = ⊥
LimitMayLack limits (limit.Clock n) = ⊥

abbrev pub MailMayLack : Actors ℕ → mail.Call ℕ → Type 0
MailMayLack actors mail.Spawn = IsOk (spawn_answer actors)
MailMayLack actors (mail.Send from to message) = IsOk (send_answer actors from to)
MailMayLack actors (mail.Timeout a ms) = ⊥
MailMayLack actors mail.Begin = ⊥
MailMayLack actors (mail.End stop) = ⊥
MailMayLack actors (mail.Clock n) = ⊥

abbrev pub LeaseStep : Keeper → lease.Call → lease_answer.Answer → Keeper → Type 0
LeaseStep old c a new = lease_step.Step old c a new ⊎ (LeaseMayLack old c × (a ≡ lease_answer.Refused lease_error.Memory) × (new ≡ old))

abbrev pub LimitStep : Limits → limit.Call → limit_answer.Answer → Limits → Type 0
LimitStep old c a new = limit_step.Step old c a new ⊎ (LimitMayLack old c × (a ≡ limit_answer.Refused limit_error.Memory) × (new ≡ old))

abbrev pub MailStep : Actors ℕ → mail.Call ℕ → mail_answer.Answer ℕ → Actors ℕ → Type 0
MailStep old c a new = mail_step.Step old c a new ⊎ (MailMayLack old c × (a ≡ mail_answer.Refused mail_error.Memory) × (new ≡ old))

-- A call that is answered as it comes.
pub record Leases (old : CoreState) (number : ℕ) (c : lease.Call) (replies : List Reply) (new : CoreState) : Type 0 where
  pub answer : lease_answer.Answer
  pub keeper : Keeper
  pub told : Outcome
  pub step : LeaseStep old.keeper c answer keeper
  pub tells : LeaseTells answer told
  pub replies_are : replies ≡ at_once old number told ∷ []
  pub becomes : new ≡ with_leases old keeper old.waiting

pub record Takes (old : CoreState) (number : ℕ) (c : limit.Call) (replies : List Reply) (new : CoreState) : Type 0 where
  pub answer : limit_answer.Answer
  pub limits : Limits
  pub told : Outcome
  pub step : LimitStep old.limits c answer limits
  pub tells : LimitTells answer told
  pub replies_are : replies ≡ at_once old number told ∷ []
  pub becomes : new ≡ with_limits old limits

pub record Mails (old : CoreState) (number : ℕ) (c : mail.Call ℕ) (replies : List Reply) (new : CoreState) : Type 0 where
  pub answer : mail_answer.Answer ℕ
  pub actors : Actors ℕ
  pub told : Outcome
  pub step : MailStep old.actors c answer actors
  pub tells : MailTells answer told
  pub replies_are : replies ≡ at_once old number told ∷ []
  pub becomes : new ≡ with_actors old actors

-- An acquire whose session does not hold the lock at once waits, and is not answered yet.
abbrev pub HeldOrWaits : CoreState → ℕ → ℕ → ℕ → lease_answer.Answer → Keeper → List Reply → CoreState → Type 0
HeldOrWaits old number s key lease_answer.Waits keeper replies new =
    (replies ≡ []) × (new ≡ with_leases old keeper (old.waiting ++ record { number = number; session = s; key = key; arrived = old.keeper.greatest } ∷ []))
HeldOrWaits old number s key answer keeper replies new =
    (told : Outcome) × LeaseTells answer told × (replies ≡ at_once old number told ∷ []) × (new ≡ with_leases old keeper old.waiting)

pub record Acquires (old : CoreState) (number s key : ℕ) (replies : List Reply) (new : CoreState) : Type 0 where
  pub answer : lease_answer.Answer
  pub keeper : Keeper
  pub step : LeaseStep old.keeper (lease.Acquire s key) answer keeper
  pub rest : HeldOrWaits old number s key answer keeper replies new

-- A try whose session does not hold the lock at once leaves the core as it was.
abbrev pub HeldOrBusy : CoreState → ℕ → lease_answer.Answer → Keeper → List Reply → CoreState → Type 0
HeldOrBusy old number lease_answer.Waits keeper replies new = (replies ≡ at_once old number outcome.Busy ∷ []) × (new ≡ old)
HeldOrBusy old number answer keeper replies new =
    (told : Outcome) × LeaseTells answer told × (replies ≡ at_once old number told ∷ []) × (new ≡ with_leases old keeper old.waiting)

pub record Tries (old : CoreState) (number s key : ℕ) (replies : List Reply) (new : CoreState) : Type 0 where
  pub answer : lease_answer.Answer
  pub keeper : Keeper
  pub step : LeaseStep old.keeper (lease.Acquire s key) answer keeper
  pub rest : HeldOrBusy old number answer keeper replies new

-- How much there is in a core.
abbrev pub counts_of : CoreState → Counts
counts_of core = record { sessions = count_of core.keeper.sessions; entries = length core.keeper.entries; actors = count_of core.actors.table; waiting = length core.waiting }

-- After a call that was performed, the waits end that `end_at` names, key by key.
abbrev pub Frees : CoreState → ℕ → (ℕ → Waiter → Option Outcome) → List ℕ → lease_answer.Answer → Keeper → List Reply → CoreState → Type 0
Frees old number end_at keys lease_answer.Done keeper replies new =
    (replies ≡ at_once old number outcome.Done ∷ ended_by end_at keeper.greatest keys old.waiting) × (new ≡ with_leases old keeper (still_by end_at keys old.waiting))
Frees old number end_at keys answer keeper replies new =
    (told : Outcome) × LeaseTells answer told × (replies ≡ at_once old number told ∷ []) × (new ≡ with_leases old keeper old.waiting)

-- A session leaves the queue of a key.
pub record Releases (old : CoreState) (number s key : ℕ) (replies : List Reply) (new : CoreState) : Type 0 where
  pub answer : lease_answer.Answer
  pub keeper : Keeper
  pub step : LeaseStep old.keeper (lease.Release s key) answer keeper
  pub rest : Frees old number (left_in s outcome.Left keeper) (key ∷ []) answer keeper replies new

-- A session is closed: it leaves the queues of its keys, in the order in which it entered them.
pub record Closes (old : CoreState) (number s : ℕ) (replies : List Reply) (new : CoreState) : Type 0 where
  pub answer : lease_answer.Answer
  pub keeper : Keeper
  pub step : LeaseStep old.keeper (lease.Close s) answer keeper
  pub rest : Frees old number (left_in s outcome.Closed keeper) (keys_in old.keeper.entries s) answer keeper replies new

-- A turn that began ends at once.
abbrev pub TurnEnds : CoreState → ℕ → mail_answer.Answer ℕ → Actors ℕ → List Reply → CoreState → Type 0
TurnEnds old number (mail_answer.Turn a got) mid replies new =
    (how : mail_answer.Answer ℕ) × (actors : Actors ℕ) × mail_step.Step mid (mail.End false) how actors × (replies ≡ at_once old number (outcome.Ran a got) ∷ []) × (new ≡ with_actors old actors)
TurnEnds old number answer mid replies new =
    (told : Outcome) × MailTells answer told × (replies ≡ at_once old number told ∷ []) × (new ≡ with_actors old mid)

-- The turn of the actor that has been queued for the longest time.
pub record Receives (old : CoreState) (number : ℕ) (replies : List Reply) (new : CoreState) : Type 0 where
  pub answer : mail_answer.Answer ℕ
  pub mid : Actors ℕ
  pub begins : mail_step.Step old.actors mail.Begin answer mid
  pub rest : TurnEnds old number answer mid replies new

-- A request is performed.
abbrev pub Handles : CoreState → ℕ → ℕ → Call → List Reply → CoreState → Type 0
Handles old number key (call.Open limit) replies new = Leases old number (lease.Open limit) replies new
Handles old number key (call.Beat s) replies new = Leases old number (lease.Beat s) replies new
Handles old number key (call.Close s) replies new = Closes old number s replies new
Handles old number key (call.Acquire s) replies new = Acquires old number s key replies new
Handles old number key (call.Release s) replies new = Releases old number s key replies new
Handles old number key (call.Try s) replies new = Tries old number s key replies new
Handles old number key call.Owner replies new = Leases old number (lease.Owner key) replies new
Handles old number key call.Count replies new = (replies ≡ at_once old number (outcome.Counted (counts_of old)) ∷ []) × (new ≡ old)
Handles old number key (call.Bucket burst period) replies new = Takes old number (limit.Bucket burst period) replies new
Handles old number key (call.Take b n) replies new = Takes old number (limit.Take b n) replies new
Handles old number key call.Spawn replies new = Mails old number mail.Spawn replies new
Handles old number key (call.Send from to message) replies new = Mails old number (mail.Send from to message) replies new
Handles old number key call.Receive replies new = Receives old number replies new

-- The clocks of the leases and of the buckets show n nanoseconds. The closed sessions leave the queues of their keys, one
-- session after another, each in the order in which it entered them. The waits end key by key.
pub record Advances (old : CoreState) (n : ℕ) (replies : List Reply) (new : CoreState) : Type 0 where
  pub closed : List ℕ
  pub due : List ℕ
  pub leases : lease_step.ClockStep old.keeper n (lease_answer.Closed closed) new.keeper
  pub buckets : limit_step.ClockStep old.limits n (limit_answer.Due due) new.limits
  pub replies_are : replies ≡ ended_by (closed_end new.keeper) new.keeper.greatest (leaves old.keeper closed) old.waiting
  pub waiting : new.waiting ≡ still_by (closed_end new.keeper) (leaves old.keeper closed) old.waiting
  pub mails : new.actors ≡ old.actors

-- The input ends: each wait ends.
pub record Finishes (old : CoreState) (replies : List Reply) (new : CoreState) : Type 0 where
  pub replies_are : replies ≡ ended input_end old.keeper.greatest old.waiting
  pub becomes : new ≡ with_leases old old.keeper []

pub data Event : Type 0 where
  -- The clock shows n nanoseconds.
  Advance : (n : ℕ) → Event
  Handle : (request : Request) → Event
  Finish : Event

abbrev pub Step : CoreState → Event → List Reply → CoreState → Type 0
Step old (Advance n) replies new = Advances old n replies new
Step old (Handle request) replies new = Handles old request.number request.key request.call replies new
Step old Finish replies new = Finishes old replies new

-- One step after another, with all replies in order.
abbrev pub Run : CoreState → List Event → List Reply → CoreState → Type 0
Run old [] replies new = (replies ≡ []) × (new ≡ old)
Run old (e ∷ events) replies new = (first : List Reply) × (rest : List Reply) × (mid : CoreState) × Step old e first mid × Run mid events rest new × (replies ≡ first ++ rest)
