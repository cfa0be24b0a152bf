use Rattle.std.proofs.Common.{refl, ap}
use Rattle.mono_model.specs.Table.{next_number}
use Rattle.mono_rt.specs.Reaches.{by_parts}
use Rattle.mono_rt.proofs.contexts.Cx.job_finished.Goals as goal

pub returns-clause-reached : goal.returns-clause-reached
returns-clause-reached g c =
    by_parts g.O.Outcome.output_number g.W.SharedState c.args.self.now _ c.has_job_ended.ensures.leads (ap (λ p. next_number p.tasks.tasks.table) c.has_job_ended.ensures.asks.parts) refl refl refl (λ h. h) (g.met.W.SharedState.leads_itself _) refl refl
