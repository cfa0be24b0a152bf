use Rattle.mono_trace.proofs.AnswerLemmas.{on_ok}
use Rattle.mono_trace.proofs.sleeps.Sleeps.take_back.Goals as goal

pub returns : goal.returns
returns c = on_ok c.take_back.result _ _ c.take_back.ensures (λ is. rw (← c.self.view_is, is))
