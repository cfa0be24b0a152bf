use Rattle.mono_blocking.specs.JobSpawns.{strategy_of}
use Rattle.mono_machine.proofs.ValidStepLemmas.{start_is_valid}
use Rattle.mono_rt.proofs.builder.RuntimeBuilder.make.Goals as goal

pub returns-clause-stands : goal.returns-clause-stands
returns-clause-stands g c = record { matches = c.in-Ok-starting.ensures.stands; valid = start_is_valid c.args.self.limits (strategy_of c.args.self.pool) }

pub returns-clause-pool : goal.returns-clause-pool
returns-clause-pool g c = c.in-Ok-starting.ensures.pool

pub returns-clause-timers : goal.returns-clause-timers
returns-clause-timers g c = c.in-Ok-starting.ensures.timers

pub returns-clause-rests : goal.returns-clause-rests
returns-clause-rests g c = c.in-Ok-starting.ensures.rests

pub returns-clause-me : goal.returns-clause-me
returns-clause-me g c = c.in-Ok-starting.ensures.me

pub returns-clause-registered : goal.returns-clause-registered
returns-clause-registered g c = c.in-Ok-starting.ensures.registered
