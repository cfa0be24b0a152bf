use Rattle.std.proofs.Common.{Some}
use Rattle.std.proofs.lemmas.List.{map-set}
use Rattle.mono_trace.specs.Tables.{sleep_place}
use Rattle.mono_trace.proofs.AnswerLemmas.{on_ok}
use Rattle.mono_trace.proofs.sleeps.Sleeps.set.Goals as goal

pub returns : goal.returns
returns c = on_ok c.set.result _ _ c.set.ensures (λ is. rw (← c.self.view_is, is, map-set sleep_place c.self.inside.places.now c.args.s (Some c.args.value)))
