use Rattle.std.proofs.Common.{Some}
use Rattle.std.proofs.lemmas.List.{map-set}
use Rattle.mono_trace.specs.Tables.{task_place}
use Rattle.mono_trace.proofs.AnswerLemmas.{on_ok}
use Rattle.mono_trace.proofs.tasks.Tasks.set.Goals as goal

pub returns : goal.returns
returns c = on_ok c.set.result _ _ c.set.ensures.changed (λ is. rw (← c.self.view_is, is, map-set task_place c.self.inside.places.now c.args.t (Some c.args.task)))
