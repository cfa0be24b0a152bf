use Rattle.std.proofs.Common.{sym, subst, ◌-◌}
use Rattle.mono_model.specs.Table.{without}
use Rattle.mono_time.specs.Timers.{sleeps_of}
use Rattle.mono_limit.specs.RetryTable.{Holds}
use Rattle.mono_limit.proofs.RetrySleepLemmas.{without_holds}
use Rattle.mono_limit.proofs.retries.Retries.remove.Goals as goal

pub invariant_of-self : goal.invariant_of-self
invariant_of-self c =
    let t = c.args.self.now in
    record {
      holds = rw c.remove-2.ensures (subst (λ x. Holds (without t.rows.table c.args.retry) x (t.live - 1)) (sym c.remove.ensures.sleeps) (without_holds t.rows.table (sleeps_of t.timers) t.live t.holds c.args.retry c.args.schedule c.requires.lives));
    }
