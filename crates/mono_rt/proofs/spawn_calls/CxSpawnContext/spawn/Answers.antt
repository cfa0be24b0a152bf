use Rattle.std.proofs.Common.{ap}
use Rattle.mono_rt.proofs.ContextLemmas.{spawns, part_stays, noted_spawn}
use Rattle.mono_rt.proofs.spawn_calls.CxSpawnContext.spawn.Goals as goal

pub returns-clause-spawned : goal.returns-clause-spawned
returns-clause-spawned g c =
    let old = c.args.self.now.parts.tasks in
    let new = c.spawn.new.self.parts.tasks in
    spawns old.tasks new.tasks c.args.future c.spawn.result c.spawn.ensures.number c.spawn.ensures.tasks (part_stays (λ x. x.tasks) old new c.spawn.result c.spawn.ensures.refused) c.spawn.ensures.back c.spawn.ensures.full

pub returns-clause-memory : goal.returns-clause-memory
returns-clause-memory g c =
    noted_spawn c.args.self.now.parts.is_out_of_memory _ c.spawn.result (ap (λ x. x.is_out_of_memory) c.spawn.ensures.kept)

pub returns-clause-reached : goal.returns-clause-reached
returns-clause-reached g c = c.spawn.ensures.reached
