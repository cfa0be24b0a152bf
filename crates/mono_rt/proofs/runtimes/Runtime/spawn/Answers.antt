use Rattle.std.proofs.Common.{ℕ, refl, ap, sym, ◌∙◌, Err}
use Rattle.std.specs.Prelude.{Result}
use Rattle.mono_task.specs.declared.error.SpawnTask.{SpawnTask}
use Rattle.mono_machine.specs.declared.events.Reply.TheVariants as reply
use Rattle.mono_rt.specs.Refinement.{hosting_of}
use Rattle.mono_rt.proofs.CallLemmas.{had_room, with_all}
use Rattle.mono_rt.proofs.SpawnOutcomeLemmas.{spawn_stands, full_stands}
use Rattle.mono_rt.proofs.PossibleAnswerLemmas.{aligned_spawned, aligned_same}
use Rattle.mono_rt.proofs.runtimes.Runtime.spawn.Goals as goal

abbrev failed : SpawnTask → Result ℕ SpawnTask
failed e = Err e

pub returns-in-Ok-clause-machine : goal.returns-in-Ok-clause-machine
returns-in-Ok-clause-machine g c = λ m st.
    let number = g.O.Outcome.output_number in
    let placed = c.args.self.now.cx.parts in
    let made = with_all number hosting_of placed c.spawn.new.self placed.timers placed.acts in
    let left = spawn_stands number placed made m c.in-Ok.t st
    (had_room c.spawn.result c.in-Ok.t _ c.in-Ok.is c.spawn.ensures.full.1) c.in-Ok.ensures.number c.in-Ok.ensures.after refl refl refl in
    (left.0 ∙ ap reply.Task (sym c.of_task.ensures), left.1)

pub returns-then-has_no_place-clause-machine : goal.returns-then-has_no_place-clause-machine
returns-then-has_no_place-clause-machine g c = λ m st.
    full_stands g.O.Outcome.output_number c.args.self.now.cx.parts _ m st (sym c.has_no_place.ensures ∙ c.if-has_no_place.true) refl refl refl refl

pub returns-in-Err-AtCapacity-clause-machine : goal.returns-in-Err-AtCapacity-clause-machine
returns-in-Err-AtCapacity-clause-machine g c = λ m st.
    full_stands g.O.Outcome.output_number c.args.self.now.cx.parts _ m st
    (c.spawn.ensures.full.0 (c.in-Err-AtCapacity.is ∙ ap failed c.in-Err-AtCapacity.field-0-is)) (rw c.in-Err-AtCapacity.is at c.spawn.ensures.refused) refl refl refl
