use Rattle.std.proofs.Common.{true, refl}
use Rattle.mono_rt.proofs.JobActLemmas.{by_no_job, made_none}
use Rattle.mono_rt.proofs.parts.job_acts.Parts+O+Blockings+P.spawn_blocking.Goals as goal

pub returns-in-Err-Memory-clause-leads : goal.returns-in-Err-Memory-clause-leads
returns-in-Err-Memory-clause-leads g c =
    by_no_job g.O.Outcome.output_number c.args.self.now c.spawn-answer.new.self true
    (made_none g.P.Job.Outcome.output_number c.args.job _ _ _ _ _ c.spawn-answer.result c.in-Err-Memory.field-0 c.in-Err-Memory.is c.spawn-answer.ensures.spawned) c.spawn-answer.ensures.strategy (λ h. refl)

pub returns-in-Err-PoolFault-clause-leads : goal.returns-in-Err-PoolFault-clause-leads
returns-in-Err-PoolFault-clause-leads g c =
    by_no_job g.O.Outcome.output_number c.args.self.now c.spawn-answer.new.self c.args.self.now.is_out_of_memory
    (made_none g.P.Job.Outcome.output_number c.args.job _ _ _ _ _ c.spawn-answer.result c.in-Err-PoolFault.field-0 c.in-Err-PoolFault.is c.spawn-answer.ensures.spawned) c.spawn-answer.ensures.strategy (λ h. h)
