use Rattle.mono_run.specs.Script.{makes_task, ends_task}
use Rattle.mono_run.proofs.BodyCountLemmas.{Counted}
use Rattle.mono_run.proofs.parser.order.has_task.Given as goal

abbrev pub invariant-lines : goal.invariant-lines
invariant-lines l = Counted makes_task (ends_task l.i) l.before l.at l.made
