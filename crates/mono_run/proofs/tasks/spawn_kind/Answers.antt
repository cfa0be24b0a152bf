use Rattle.std.proofs.Common.{◌≡◌, ap, sym, ◌∙◌, Some, ◌++◌, ◌∷◌, []}
use Rattle.mono_rt.specs.Spawns.{noted_spawn, lacks_spawn}
use Rattle.mono_run.specs.TaskPolls.{new_task, no_own}
use Rattle.mono_run.proofs.TaskCallLemmas.{task_made, task_refused, task_unmade}
use Rattle.mono_run.proofs.FewActsLemmas.{no_act, of_spawn}
use Rattle.mono_run.proofs.tasks.spawn_kind.Goals as goal

pub returns-in_default-clause-goes : goal.returns-in_default-clause-goes
returns-in_default-clause-goes c = λ task k same had. task_unmade task c.args.cx.now c.note_out_of_memory.new.self had k c.args.kind c.note_out_of_memory.ensures.noted

pub returns-in_default-clause-few : goal.returns-in_default-clause-few
returns-in_default-clause-few c = no_act 1 c.args.cx.now.parts.acts c.note_out_of_memory.new.self.parts.acts (ap (λ x. x.parts.acts) c.note_out_of_memory.ensures.noted)

pub returns-in-Ok-spawn-clause-goes : goal.returns-in-Ok-spawn-clause-goes
returns-in-Ok-spawn-clause-goes c = λ task k same had.
    let old = c.args.cx.now in
    let new = c.spawn.new.self in
    let made : c.in-Ok.task ≡ new_task task c.args.kind = c.in-Ok.ensures ∙ ap (λ ks. record { kinds = ks; kind = c.args.kind; at = 0; own = no_own }) (sym same) in
    let futures : new.futures.items ≡ old.futures.items ++ Some c.in-Ok.task ∷ [] = c.in-Ok-spawn.ensures.futures in
    rw c.task.ensures
    (task_made task old new had k c.args.kind c.in-Ok-spawn.handle (ap (λ x. x.acts) c.spawn.ensures.kept ∙ ap (noted_spawn old.parts.acts) c.in-Ok-spawn.is) (futures ∙ ap (λ f. old.futures.items ++ Some f ∷ []) made))

pub returns-in-Err-clause-goes : goal.returns-in-Err-clause-goes
returns-in-Err-clause-goes c = λ task k same had.
    let old = c.args.cx.now in
    let new = c.spawn.new.self in
    task_refused task old new had k c.args.kind c.in-Err._refused (ap (λ x. x.acts) c.spawn.ensures.kept ∙ ap (noted_spawn old.parts.acts) c.in-Err.is)
    (ap (λ x. x.is_out_of_memory) c.spawn.ensures.kept ∙ ap (lacks_spawn old.parts.is_out_of_memory) c.in-Err.is) c.in-Err.ensures.none

pub returns-in-Ok-spawn-clause-few : goal.returns-in-Ok-spawn-clause-few
returns-in-Ok-spawn-clause-few c = of_spawn c.args.cx.now.parts.acts c.spawn.new.self.parts.acts c.spawn.result (ap (λ x. x.acts) c.spawn.ensures.kept)

pub returns-in-Err-clause-few : goal.returns-in-Err-clause-few
returns-in-Err-clause-few c = of_spawn c.args.cx.now.parts.acts c.spawn.new.self.parts.acts c.spawn.result (ap (λ x. x.acts) c.spawn.ensures.kept)
