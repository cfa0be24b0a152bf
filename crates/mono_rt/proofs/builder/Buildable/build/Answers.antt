use Rattle.std.proofs.Common.{◌≡◌, ℕ, [], ap, ◌∙◌, subst, Ok, Err}
use Rattle.std.specs.Prelude.{Result, IfOk, not}
use Rattle.mono_time.specs.Instants.{nanos_of}
use Rattle.mono_time.specs.declared.instant.Instant.{Instant}
use Rattle.mono_rt.proofs.builder.Buildable.build.Goals as goal

both : {A E : Type 0} (P Q : A → Type 0) (r : Result A E) → IfOk r P → IfOk r Q → IfOk r (λ x. P x × Q x)
both P Q (Ok x) p q = (p, q)
both P Q (Err e) p q = tt

at_start : {A E : Type 0} (me : A → ℕ) (now : A → Instant) (start : Instant) (r : Result A E) → nanos_of start ≡ 0 → IfOk r (λ x. (me x ≡ 0) × (now x ≡ start)) → IfOk r (λ x. (me x ≡ 0) × (nanos_of (now x) ≡ 0))
at_start me now start (Ok x) at is = (is.0, ap nanos_of is.1 ∙ at)
at_start me now start (Err e) at is = tt

pub returns-clause-stands : goal.returns-clause-stands
returns-clause-stands g c = c.make.ensures.stands

pub returns-clause-pool : goal.returns-clause-pool
returns-clause-pool g c = c.make.ensures.pool

pub returns-clause-driver : goal.returns-clause-driver
returns-clause-driver g c = c.make.ensures.driver

pub returns-clause-timers : goal.returns-clause-timers
returns-clause-timers g c = subst (λ b. IfOk c.make.result (λ made. made.cx.parts.has_timers ≡ b)) c.has_timers.ensures c.make.ensures.timers

pub returns-clause-journal : goal.returns-clause-journal
returns-clause-journal g c = both (λ made. made.journal.entries.items ≡ []) (λ made. made.journal.is_full ≡ not c.args.this.keeps_journal) c.make.result c.make.ensures.entries c.make.ensures.full

pub returns-clause-rests : goal.returns-clause-rests
returns-clause-rests g c = c.make.ensures.rests

pub returns-clause-me : goal.returns-clause-me
returns-clause-me g c = at_start (λ made. made.cx.parts.me) (λ made. made.cx.parts.now) c.zero.result c.make.result c.zero.ensures c.make.ensures.me

pub returns-clause-registered : goal.returns-clause-registered
returns-clause-registered g c = c.make.ensures.registered

pub returns-clause-shared : goal.returns-clause-shared
returns-clause-shared g c = c.make.ensures.shared

pub returns-clause-history : goal.returns-clause-history
returns-clause-history g c = c.make.ensures.history

pub returns-clause-futures : goal.returns-clause-futures
returns-clause-futures g c = c.make.ensures.futures

pub returns-clause-ended : goal.returns-clause-ended
returns-clause-ended g c = c.make.ensures.ended
