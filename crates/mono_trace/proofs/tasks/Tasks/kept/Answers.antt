use Rattle.std.proofs.Common.{◌≡◌, ℕ, Bool, List, None, Option, ap, sym, ◌∙◌}
use Rattle.std.specs.Prelude.{Ok, Err, map, if◌then◌else◌, nat_lt}
use Rattle.std.proofs.Math.ListN.{get_or-map}
use Rattle.std.proofs.lemmas.List.{length-map}
use Rattle.mono_model.specs.Table.{value_at, is_issued}
use Rattle.mono_model.specs.Joins.{kept_task, kept_value}
use Rattle.mono_model.specs.declared.task_error.TaskError.TheVariants.{NoTask, NoHandle}
use Rattle.mono_trace.specs.Tables.{task_of, task_place, tasks_of}
use Rattle.mono_trace.specs.declared.tasks.Task.{Task}
use Rattle.mono_trace.proofs.tasks.Tasks.kept.Goals as goal

-- The task if its handle is kept, by the places.
kept_by : (places : List (Option Task)) (queue : List ℕ) (limit t : ℕ) (b : Bool) (v : Option Task) → is_issued places t ≡ b → value_at places t ≡ v → kept_task (tasks_of places queue limit) t ≡ (if b then kept_value (task_place v) else Err NoTask)
kept_by places queue limit t b v issued at = ap (λ n. if nat_lt t n then kept_value (value_at (map task_place places) t) else Err NoTask) (length-map places task_place)
    ∙ ap (λ x. if is_issued places t then kept_value x else Err NoTask) (get_or-map task_place places t None ∙ ap task_place at) ∙ ap (λ x. if x then kept_value (task_place v) else Err NoTask) issued

pub returns-in-None : goal.returns-in-None
returns-in-None c =
    let old = c.self.inside in
    sym (kept_by old.places.now old.queue.now old.limit c.args.t _ _ (sym c.is_issued.ensures ∙ c.if-not-is_issued.false) (sym c.get.ensures ∙ c.in-None.is)) ∙ ap (λ m. kept_task m.now c.args.t) c.self.view_is

pub returns-then-task : goal.returns-then-task
returns-then-task c =
    let old = c.self.inside in
    let task = task_of c.in-Some.task in
    sym (ap (λ b. if b then Ok task else Err NoHandle) c.if-task.true)
    ∙ sym (kept_by old.places.now old.queue.now old.limit c.args.t _ _ (sym c.is_issued.ensures ∙ c.if-not-is_issued.false) (sym c.get.ensures ∙ c.in-Some.is)) ∙ ap (λ m. kept_task m.now c.args.t) c.self.view_is

pub returns-else-task : goal.returns-else-task
returns-else-task c =
    let old = c.self.inside in
    let task = task_of c.in-Some.task in
    sym (ap (λ b. if b then Ok task else Err NoHandle) c.if-task.false)
    ∙ sym (kept_by old.places.now old.queue.now old.limit c.args.t _ _ (sym c.is_issued.ensures ∙ c.if-not-is_issued.false) (sym c.get.ensures ∙ c.in-Some.is)) ∙ ap (λ m. kept_task m.now c.args.t) c.self.view_is
