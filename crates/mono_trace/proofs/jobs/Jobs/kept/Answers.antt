use Rattle.std.proofs.Common.{◌≡◌, ℕ, Bool, List, None, Option, ap, sym, ◌∙◌}
use Rattle.std.specs.Prelude.{Err, map, if◌then◌else◌, nat_lt}
use Rattle.std.proofs.Math.ListN.{get_or-map}
use Rattle.std.proofs.lemmas.List.{length-map}
use Rattle.mono_model.specs.Table.{value_at, is_issued}
use Rattle.mono_machine.specs.JobCalls.{kept_job, kept_value}
use Rattle.mono_machine.specs.declared.events.Refusal.TheVariants.{NoTask}
use Rattle.mono_trace.specs.Tables.{job_place, jobs_of}
use Rattle.mono_trace.specs.declared.jobs.Job.{Job}
use Rattle.mono_trace.proofs.jobs.Jobs.kept.Goals as goal

-- The job if its handle is kept, by the places.
kept_by : (places : List (Option Job)) (limit j : ℕ) (b : Bool) (v : Option Job) → is_issued places j ≡ b → value_at places j ≡ v → kept_job (jobs_of places limit) j ≡ (if b then kept_value (job_place v) else Err NoTask)
kept_by places limit j b v issued at = ap (λ n. if nat_lt j n then kept_value (value_at (map job_place places) j) else Err NoTask) (length-map places job_place)
    ∙ ap (λ x. if is_issued places j then kept_value x else Err NoTask) (get_or-map job_place places j None ∙ ap job_place at) ∙ ap (λ x. if x then kept_value (job_place v) else Err NoTask) issued

pub returns-in-None : goal.returns-in-None
returns-in-None c =
    let old = c.self.inside in
    sym (kept_by old.places.now old.limit c.args.j _ _ (sym c.is_issued.ensures ∙ c.if-not-is_issued.false) (sym c.get.ensures ∙ c.in-None.is)) ∙ ap (λ m. kept_job m.now c.args.j) c.self.view_is

pub returns-in-Some : goal.returns-in-Some
returns-in-Some c =
    let old = c.self.inside in
    sym (kept_by old.places.now old.limit c.args.j _ _ (sym c.is_issued.ensures ∙ c.if-not-is_issued.false) (sym c.get.ensures ∙ c.in-Some.is)) ∙ ap (λ m. kept_job m.now c.args.j) c.self.view_is
