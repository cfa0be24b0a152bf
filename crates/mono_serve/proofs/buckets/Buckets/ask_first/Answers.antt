use Rattle.std.proofs.Common.{Ok, subst}
use Rattle.mono_time.specs.Instants.{nanos_of}
use Rattle.mono_limit.specs.Limits.{limits_of}
use Rattle.mono_serve.specs.BucketCalls.{TriesAt}
use Rattle.mono_serve.proofs.buckets.Buckets.ask_first.Goals as goal

pub returns-in-Ok-Granted : goal.returns-in-Ok-Granted
returns-in-Ok-Granted c =
    let tries = subst (λ t. TriesAt (limits_of c.args.self.now.limiter) (nanos_of c.args.now) c.args.bucket c.args.n (Ok t) (limits_of c.try_take.new.self.limiter)) c.in-Ok-Granted.field-0-is c.in-Ok-Granted.ensures.tries in
    (c.try_take.new.self, (c.requires, tries, c.in-Ok-Granted.ensures.line), c.give_up.ensures)

pub returns-in-Err : goal.returns-in-Err
returns-in-Err c = (c.try_take.new.self, (c.requires, c.in-Err.ensures.tries, c.in-Err.ensures.line), c.give_up-in-Err.ensures)
