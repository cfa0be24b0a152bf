use Rattle.std.proofs.Common.{ℕ, ap, ◌∙◌, Err}
use Rattle.std.specs.Prelude.{Result}
use Rattle.mono_task.specs.declared.error.SpawnTask.{SpawnTask}
use Rattle.mono_rt.proofs.CallLemmas.{had_room, by_refusal, by_spawn, by_no_place}
use Rattle.mono_rt.proofs.parts.state.Parts.spawn.Goals as goal

abbrev failed : SpawnTask → Result ℕ SpawnTask
failed e = Err e

pub returns-in-Ok-clause-leads : goal.returns-in-Ok-clause-leads
returns-in-Ok-clause-leads g c = λ hosting.
    by_spawn g.O.Outcome.output_number hosting c.args.self.now c.in-Ok.t _ _ c.note.ensures
    (had_room c.spawn.result c.in-Ok.t _ c.in-Ok.is c.spawn.ensures.full.1) c.in-Ok.ensures.number c.in-Ok.ensures.after

pub returns-in-Err-AtCapacity-clause-leads : goal.returns-in-Err-AtCapacity-clause-leads
returns-in-Err-AtCapacity-clause-leads g c = λ hosting.
    by_no_place g.O.Outcome.output_number hosting c.args.self.now _ _ c.note-in-Err-AtCapacity.ensures
    (c.spawn.ensures.full.0 (c.in-Err-AtCapacity.is ∙ ap failed c.in-Err-AtCapacity.field-0-is)) c.in-Err-AtCapacity.ensures.refused

pub returns-in-Err-Memory-clause-leads : goal.returns-in-Err-Memory-clause-leads
returns-in-Err-Memory-clause-leads g c = λ hosting. by_refusal g.O.Outcome.output_number hosting c.args.self.now _ c.in-Err-Memory.ensures.refused
