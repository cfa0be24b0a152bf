use Rattle.std.proofs.Common.{ap}
use Rattle.mono_task.specs.Work.{without_outputs}
use Rattle.mono_rt.proofs.ContextLemmas.{noted_job}
use Rattle.mono_rt.proofs.job_calls.CxJobContext.spawn_blocking.Goals as goal

pub returns-clause-spawned : goal.returns-clause-spawned
returns-clause-spawned g c = c.spawn_blocking.ensures.spawned.spawned

pub returns-clause-strategy : goal.returns-clause-strategy
returns-clause-strategy g c = c.spawn_blocking.ensures.spawned.same_strategy

pub returns-clause-memory : goal.returns-clause-memory
returns-clause-memory g c =
    noted_job c.args.self.now.parts.is_out_of_memory _ c.spawn_blocking.result (ap (λ x. x.is_out_of_memory) c.spawn_blocking.ensures.spawned.parts)

pub returns-clause-work : goal.returns-clause-work
returns-clause-work g c = ap (λ x. without_outputs x.tasks.tasks) c.spawn_blocking.ensures.spawned.parts

pub returns-clause-reached : goal.returns-clause-reached
returns-clause-reached g c = c.spawn_blocking.ensures.reached
