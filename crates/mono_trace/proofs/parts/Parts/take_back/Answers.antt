use Rattle.mono_trace.proofs.AnswerLemmas.{on_ok}
use Rattle.mono_trace.proofs.parts.Parts.take_back.Goals as goal

pub returns : goal.returns
returns c = on_ok c.take_back-3.result _ _ c.take_back-3.ensures (λ is. rw (← c.self.view_is, is, c.take_back-2.ensures, c.in_ok-take_back.ensures))
