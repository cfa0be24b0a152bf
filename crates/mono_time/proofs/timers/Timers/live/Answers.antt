use Rattle.std.proofs.Common.{sym, subst, ◌≤◌}
use Rattle.mono_time.specs.Sleeps.{armed_count}
use Rattle.mono_time.specs.Timers.{sleeps_of}
use Rattle.mono_time.proofs.NewSleepLemmas.{live-kept}
use Rattle.mono_time.proofs.CountLemmas.{armed_live}
use Rattle.mono_time.proofs.timers.Timers.live.Goals as goal

pub returns-clause-live : goal.returns-clause-live
returns-clause-live c =
    let t = c.args.self.now in
    sym (live-kept t.wheel t.keys t.entries.items t.greatest t.live t.holds)

pub returns-clause-armed : goal.returns-clause-armed
returns-clause-armed c =
    let t = c.args.self.now in
    subst (λ n. armed_count (sleeps_of t) ≤ n) (live-kept t.wheel t.keys t.entries.items t.greatest t.live t.holds) (armed_live (sleeps_of t).table)
