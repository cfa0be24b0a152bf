use Rattle.std.proofs.Common.{◌≡◌, ◌-◌, ◌≤◌, ◌⊎◌}
use Rattle.mono_blocking.specs.Counts.{counted_by}
use Rattle.mono_blocking.proofs.pool.start_workers.Given as goal

abbrev pub invariant-loop : goal.invariant-loop
invariant-loop g l =
    (g.P.Spawner.starts l.spawner ≡ counted_by l.counter (g.P.Spawner.starts l.initial.spawner))
    × (g.P.Spawner.refusals l.spawner ≡ counted_by (l.counter - l.started) (g.P.Spawner.refusals l.initial.spawner))
    × (l.started ≤ l.counter)
    × ((l.started ≡ 0) ⊎ ((s : g.row.P.Denot) × g.P.Spawner.has_admitted s))
