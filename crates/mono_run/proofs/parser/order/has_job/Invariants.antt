use Rattle.mono_run.specs.Script.{makes_job, ends_job}
use Rattle.mono_run.proofs.BodyCountLemmas.{Counted}
use Rattle.mono_run.proofs.parser.order.has_job.Given as goal

abbrev pub invariant-lines : goal.invariant-lines
invariant-lines l = Counted makes_job (ends_job l.i) l.before l.at l.made
