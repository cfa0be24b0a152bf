-- The text of replies.
use Rattle.std.specs.Prelude.{ℕ, List, [], ◌∷◌, ◌++◌, codes, decimal}
use Rattle.mono_session.specs.declared.error.SessionError.{SessionError}
use Rattle.mono_session.specs.declared.error.SessionError.TheVariants as lease
use Rattle.mono_limit.specs.declared.LimitError.{LimitError}
use Rattle.mono_limit.specs.declared.LimitError.TheVariants as limit
use Rattle.mono_limit.specs.declared.Take.{Take}
use Rattle.mono_limit.specs.declared.Take.TheVariants as take
use Rattle.mono_actor.specs.declared.answers.ActorError.{ActorError}
use Rattle.mono_actor.specs.declared.answers.ActorError.TheVariants as mail
use Rattle.mono_actor.specs.declared.answers.Sent.{Sent}
use Rattle.mono_actor.specs.declared.answers.Sent.TheVariants as sent
use Rattle.mono_actor.specs.declared.answers.Got.{Got}
use Rattle.mono_actor.specs.declared.answers.Got.TheVariants as got
use Rattle.lease_core.specs.declared.requests.Counts.{Counts}
use Rattle.lease_core.specs.declared.requests.Outcome.{Outcome}
use Rattle.lease_core.specs.declared.requests.Outcome.TheVariants as outcome
use Rattle.lease_core.specs.declared.requests.Reply.{Reply}

abbrev pub lease_cause : SessionError → List ℕ
lease_cause lease.Memory = codes "refused out-of-memory"
lease_cause lease.AtCapacity = codes "refused at-capacity"
lease_cause lease.Invalid = codes "refused invalid"
lease_cause lease.NoSession = codes "refused no-session"
lease_cause lease.ZeroLimit = codes "refused zero-limit"
lease_cause lease.Doubled = codes "refused doubled"
lease_cause lease.NotIn = codes "refused not-in"

abbrev pub limit_cause : LimitError → List ℕ
limit_cause limit.Memory = codes "refused out-of-memory"
limit_cause limit.AtCapacity = codes "refused at-capacity"
limit_cause limit.Invalid = codes "refused invalid"
limit_cause limit.BadBucket = codes "refused bad-bucket"
limit_cause limit.TooMany = codes "refused too-many"
limit_cause limit.Waiting = codes "refused waiting"
limit_cause limit.BadRetry = codes "refused bad-retry"
limit_cause limit.NoBucket = codes "refused no-bucket"
limit_cause limit.NoRetry = codes "refused no-retry"

abbrev pub mail_cause : ActorError → List ℕ
mail_cause mail.Memory = codes "refused out-of-memory"
mail_cause mail.Idle = codes "refused idle"
mail_cause mail.AtCapacity = codes "refused at-capacity"
mail_cause mail.NoActor = codes "refused no-actor"

abbrev pub take_text : Take → List ℕ
take_text take.Granted = codes "granted"
take_text (take.Short tick) = codes "short " ++ decimal tick

abbrev pub sent_text : Sent → List ℕ
sent_text sent.Queued = codes "queued"
sent_text sent.Waits = codes "waits"

abbrev pub got_text : ℕ → Got ℕ → List ℕ
got_text a (got.Message from message) = codes "message " ++ decimal a ++ codes " " ++ decimal from ++ codes " " ++ decimal message
got_text a got.Timeout = codes "timeout " ++ decimal a

abbrev pub counts_text : Counts → List ℕ
counts_text counts = codes "stats " ++ decimal counts.sessions ++ codes " " ++ decimal counts.entries ++ codes " " ++ decimal counts.actors ++ codes " " ++ decimal counts.waiting

abbrev pub outcome_text : Outcome → List ℕ
outcome_text (outcome.Opened s) = codes "session " ++ decimal s
outcome_text outcome.Done = codes "ok"
outcome_text outcome.Held = codes "held"
outcome_text outcome.Left = codes "left"
outcome_text outcome.Closed = codes "closed"
outcome_text outcome.Ended = codes "ended"
outcome_text outcome.Busy = codes "busy"
outcome_text (outcome.Owned s) = codes "owner " ++ decimal s
outcome_text outcome.Free = codes "free"
outcome_text (outcome.Counted counts) = counts_text counts
outcome_text (outcome.Added b) = codes "bucket " ++ decimal b
outcome_text (outcome.Took t) = take_text t
outcome_text (outcome.Spawned a) = codes "actor " ++ decimal a
outcome_text (outcome.Posted what) = sent_text what
outcome_text (outcome.Ran a input) = got_text a input
outcome_text (outcome.LeaseRefused error) = lease_cause error
outcome_text (outcome.LimitRefused error) = limit_cause error
outcome_text (outcome.MailRefused error) = mail_cause error

-- The line of a reply: the request's number, the core, the ticks at which it came and was answered, and the answer.
abbrev pub reply_text : ℕ → Reply → List ℕ
reply_text core reply =
    decimal reply.number ++ codes " " ++ decimal core ++ codes " " ++ decimal reply.arrived ++ codes " " ++ decimal reply.tick ++ codes " " ++ outcome_text reply.outcome

-- The words between a request's number and its answer, if it is answered at the tick at which it came.
abbrev pub stamp_text : ℕ → ℕ → List ℕ
stamp_text core tick = codes " " ++ decimal core ++ codes " " ++ decimal tick ++ codes " " ++ decimal tick ++ codes " "

-- The lines of replies by a core, in order.
abbrev pub reply_lines : ℕ → List Reply → List ℕ
reply_lines core [] = []
reply_lines core (reply ∷ replies) = (reply_text core reply ++ 10 ∷ []) ++ reply_lines core replies

-- The line of a reply to a line that is no request.
abbrev pub bad_text : ℕ → List ℕ
bad_text number = decimal number ++ codes " bad"
