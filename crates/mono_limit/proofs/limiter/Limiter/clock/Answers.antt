use Rattle.std.proofs.Common.{refl}
use Rattle.mono_time.specs.Instants.{nanos_of}
use Rattle.mono_limit.specs.Limits.{limits_of}
use Rattle.mono_limit.specs.Retries.{greatest_of}
use Rattle.mono_limit.proofs.BucketStoreLemmas.{clocked}
use Rattle.mono_limit.proofs.limiter.Limiter.clock.Goals as goal

pub returns-clause-due : goal.returns-clause-due
returns-clause-due g c =
    let t = c.args.self.now in
    let u = c.clock.new.self in
    let ends = c.clock.ensures.due in
    let left = clocked (limits_of t) t.buckets.items (nanos_of c.args.now) ends.due u.rows.table (greatest_of u) u.most (λ b default inside. t.are_stored b default inside) c.clock.ensures.greatest ends.have_ended c.clock.ensures.most refl in
    (ends.due, ends.appended, (c.args.now.in_range, ends.are_due, left))
