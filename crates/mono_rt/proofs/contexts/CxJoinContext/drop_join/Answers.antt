use Rattle.std.proofs.Common.{refl, ap, ◌∙◌}
use Rattle.mono_model.specs.Table.{next_number}
use Rattle.mono_rt.proofs.OutputLemmas.{adds_dropped}
use Rattle.mono_rt.specs.Refinement.{hosting_of}
use Rattle.mono_rt.specs.Reaches.{by_parts}
use Rattle.mono_rt.proofs.contexts.CxJoinContext.drop_join.Goals as goal

pub returns-clause-reached : goal.returns-clause-reached
returns-clause-reached g c =
    by_parts g.O.Outcome.output_number g.W.SharedState c.args.self.now _ (c.drop_join.ensures.leads hosting_of)
    (ap (λ s. next_number s.tasks.table) c.drop_join.ensures.tasks ∙ (adds_dropped c.args.self.now.parts.tasks.tasks c.args.task).next) refl refl refl (λ h. h) (g.met.W.SharedState.leads_itself _) refl refl
