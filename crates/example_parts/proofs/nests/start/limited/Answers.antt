use Rattle.std.proofs.Common.{Ok, Err}
use Rattle.mono_time.specs.Instants.{nanos_of}
use Rattle.example_parts.proofs.DeadlineLemmas.{begins-made, others-made, greatest-made, only-made, none-made}
use Rattle.example_parts.proofs.nests.start.limited.Goals as goal

pub returns-in-Ok-clause-waits : goal.returns-in-Ok-clause-waits
returns-in-Ok-clause-waits g c =
    begins-made (g.C.TimeContext.sleeps c.args.cx.now) (g.C.TimeContext.sleeps c.timeout_at.new.cx) (nanos_of c.args.deadline) c.args.left c.in-Ok.limited c.new.result
    c.in-Ok.ensures.future c.new.ensures.left c.new.ensures.fresh c.requires.counts c.in-Ok.ensures.made c.requires.not_due

pub returns-in-Ok-clause-others : goal.returns-in-Ok-clause-others
returns-in-Ok-clause-others g c = others-made (g.C.TimeContext.sleeps c.args.cx.now) (g.C.TimeContext.sleeps c.timeout_at.new.cx) (nanos_of c.args.deadline) (Ok c.in-Ok.limited.delay) c.in-Ok.ensures.made

pub returns-in-Ok-clause-greatest : goal.returns-in-Ok-clause-greatest
returns-in-Ok-clause-greatest g c = greatest-made (g.C.TimeContext.sleeps c.args.cx.now) (g.C.TimeContext.sleeps c.timeout_at.new.cx) (nanos_of c.args.deadline) (Ok c.in-Ok.limited.delay) c.in-Ok.ensures.made

pub returns-in-Err-clause-others : goal.returns-in-Err-clause-others
returns-in-Err-clause-others g c = others-made (g.C.TimeContext.sleeps c.args.cx.now) (g.C.TimeContext.sleeps c.timeout_at.new.cx) (nanos_of c.args.deadline) (Err c.in-Err.refused.cause) c.in-Err.ensures.made

pub returns-in-Err-clause-greatest : goal.returns-in-Err-clause-greatest
returns-in-Err-clause-greatest g c = greatest-made (g.C.TimeContext.sleeps c.args.cx.now) (g.C.TimeContext.sleeps c.timeout_at.new.cx) (nanos_of c.args.deadline) (Err c.in-Err.refused.cause) c.in-Err.ensures.made

pub returns-in-Ok-clause-only : goal.returns-in-Ok-clause-only
returns-in-Ok-clause-only g c = only-made (g.C.TimeContext.sleeps c.args.cx.now) (g.C.TimeContext.sleeps c.timeout_at.new.cx) (nanos_of c.args.deadline) c.in-Ok.limited.delay c.in-Ok.ensures.made

pub returns-in-Err-clause-none : goal.returns-in-Err-clause-none
returns-in-Err-clause-none g c = none-made (g.C.TimeContext.sleeps c.args.cx.now) (g.C.TimeContext.sleeps c.timeout_at.new.cx) (nanos_of c.args.deadline) c.in-Err.refused.cause c.in-Err.ensures.made
