use Rattle.std.proofs.Common.{refl, ap, ◌∙◌}
use Rattle.mono_model.specs.Table.{next_number}
use Rattle.mono_task.specs.Work.{without_outputs}
use Rattle.mono_rt.proofs.ForgottenOutputLemmas.{forgotten_if_any}
use Rattle.mono_rt.proofs.OutputLemmas.{adds_woken_if_any}
use Rattle.mono_rt.specs.Refinement.{hosting_of}
use Rattle.mono_rt.specs.Reaches.{by_parts}
use Rattle.mono_rt.proofs.contexts.CxTimeContext.reset_sleep.Goals as goal

pub returns-clause-work : goal.returns-clause-work
returns-clause-work g c = ap (λ s. without_outputs s.tasks) c.reset_sleep.ensures.tasks ∙ forgotten_if_any c.args.self.now.parts.tasks.tasks _

pub returns-clause-reached : goal.returns-clause-reached
returns-clause-reached g c =
    by_parts g.O.Outcome.output_number g.W.SharedState c.args.self.now _ (c.reset_sleep.ensures.leads hosting_of)
    (ap (λ s. next_number s.tasks.table) c.reset_sleep.ensures.tasks ∙ (adds_woken_if_any c.args.self.now.parts.tasks.tasks _).next) refl refl refl (λ h. h) (g.met.W.SharedState.leads_itself _) refl refl
