use Rattle.std.proofs.Common.{refl}
use Rattle.mono_machine.specs.Machine.{start_machine}
use Rattle.mono_blocking.specs.JobSpawns.{strategy_of}
use Rattle.mono_rt.proofs.PossibleAnswerLemmas.{aligned_new}
use Rattle.mono_rt.proofs.builder.RuntimeBuilder.build.Goals as goal

pub returns-clause-aligned : goal.returns-clause-aligned
returns-clause-aligned g c =
    aligned_new g.O.Outcome.output_number c.in_ok-made.made.cx (start_machine c.args.self.limits (strategy_of c.args.self.pool)) c.in_ok-made.ensures.stands refl c.in_ok-made.ensures.futures
