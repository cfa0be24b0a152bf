-- The outcome of a request that a service answered. The pairs that no request brings about are impossible.
use Rattle.std.specs.Prelude.{◌≡◌, ℕ}
use Rattle.mono_session.specs.Answers as lease
use Rattle.mono_limit.specs.Answers as limit
use Rattle.mono_actor.specs.Answers as mail
use Rattle.lease_core.specs.declared.requests.Outcome.{Outcome}
use Rattle.lease_core.specs.declared.requests.Outcome.TheVariants as outcome

abbrev pub LeaseTells : lease.Answer → Outcome → Type 0
LeaseTells (lease.Session s) told = told ≡ outcome.Opened s
LeaseTells lease.Done told = told ≡ outcome.Done
LeaseTells lease.Held told = told ≡ outcome.Held
LeaseTells lease.Waits told = ⊥
LeaseTells (lease.Owner s) told = told ≡ outcome.Owned s
LeaseTells lease.Free told = told ≡ outcome.Free
LeaseTells (lease.Closed sessions) told = ⊥
LeaseTells (lease.Refused error) told = told ≡ outcome.LeaseRefused error

abbrev pub LimitTells : limit.Answer → Outcome → Type 0
LimitTells (limit.Bucket b) told = told ≡ outcome.Added b
LimitTells (limit.Took take) told = told ≡ outcome.Took take
LimitTells (limit.Retry r) told = ⊥
LimitTells (limit.Failed next) told = ⊥
LimitTells limit.Done told = ⊥
LimitTells (limit.Due due) told = ⊥
LimitTells (limit.Refused error) told = told ≡ outcome.LimitRefused error

abbrev pub MailTells : mail.Answer ℕ → Outcome → Type 0
MailTells (mail.Actor a) told = told ≡ outcome.Spawned a
MailTells (mail.Posted what) told = told ≡ outcome.Posted what
MailTells mail.Done told = ⊥
MailTells (mail.Turn a got) told = told ≡ outcome.Ran a got
MailTells (mail.Ended how) told = ⊥
MailTells (mail.Due due) told = ⊥
MailTells (mail.Refused error) told = told ≡ outcome.MailRefused error
MailTells mail.Invalid told = ⊥
