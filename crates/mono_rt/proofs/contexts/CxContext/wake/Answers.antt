use Rattle.std.proofs.Common.{refl, ap, ◌∙◌}
use Rattle.mono_model.specs.Table.{next_number}
use Rattle.mono_task.specs.Work.{without_outputs}
use Rattle.mono_task.proofs.ForgottenOutputLemmas.{without_outputs-woken}
use Rattle.mono_rt.proofs.OutputLemmas.{adds_woken}
use Rattle.mono_rt.specs.Refinement.{hosting_of}
use Rattle.mono_rt.specs.Reaches.{by_parts}
use Rattle.mono_rt.proofs.contexts.CxContext.wake.Goals as goal

pub returns-clause-work : goal.returns-clause-work
returns-clause-work g c = ap (λ s. without_outputs s.tasks) c.wake.ensures.tasks ∙ without_outputs-woken c.args.self.now.parts.tasks.tasks c.args.task

pub returns-clause-reached : goal.returns-clause-reached
returns-clause-reached g c =
    by_parts g.O.Outcome.output_number g.W.SharedState c.args.self.now _ (c.wake.ensures.leads hosting_of)
    (ap (λ s. next_number s.tasks.table) c.wake.ensures.tasks ∙ (adds_woken c.args.self.now.parts.tasks.tasks c.args.task).next) refl refl refl (λ h. h) (g.met.W.SharedState.leads_itself _) refl refl
