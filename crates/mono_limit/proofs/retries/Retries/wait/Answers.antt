use Rattle.std.proofs.Common.{sym, subst, ◌+◌, ap, ◌∙◌}
use Rattle.std.specs.Prelude.{is_some}
use Rattle.mono_model.specs.Table.{with_value}
use Rattle.mono_time.specs.Sleeps.{with_reset_sleep}
use Rattle.mono_time.specs.Timers.{sleeps_of}
use Rattle.mono_limit.specs.Schedules.{failed_until}
use Rattle.mono_limit.specs.RetryTable.{Holds}
use Rattle.mono_limit.proofs.RetrySleepLemmas.{waiting_holds}
use Rattle.mono_limit.proofs.retries.Retries.wait.Goals as goal

pub invariant_of-self : goal.invariant_of-self
invariant_of-self c =
    let t = c.args.self.now in
    let s = c.args.schedule in
    let same = c.reset.ensures.sleeps ∙ ap (with_reset_sleep (sleeps_of t.timers) c.args.retry) c.instant_of.ensures in
    record {
      holds = rw c.replace.ensures.table (subst (λ x. Holds (with_value t.rows.table c.args.retry (failed_until s (s.failures + 1) c.args.tick)) x t.live) (sym same)
          (waiting_holds t.rows.table (sleeps_of t.timers) t.live t.holds c.args.retry s c.requires.lives c.args.tick c.requires.later c.requires.goes_on));
    }

pub replace-requires : goal.replace-requires
replace-requires c = ap is_some c.requires.lives
