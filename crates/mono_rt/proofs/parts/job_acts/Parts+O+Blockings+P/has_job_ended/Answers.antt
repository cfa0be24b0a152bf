use Rattle.std.proofs.Common.{ap}
use Rattle.mono_blocking.specs.JobSpawns.{strategy_of}
use Rattle.mono_rt.proofs.JobActLemmas.{by_no_job}
use Rattle.mono_rt.proofs.parts.job_acts.Parts+O+Blockings+P.has_job_ended.Goals as goal

pub returns-clause-leads : goal.returns-clause-leads
returns-clause-leads g c =
    by_no_job g.O.Outcome.output_number c.args.self.now c.has_ended.new.self c.args.self.now.is_out_of_memory c.has_ended.ensures.jobs (ap strategy_of c.has_ended.ensures.pool) (λ h. h)
