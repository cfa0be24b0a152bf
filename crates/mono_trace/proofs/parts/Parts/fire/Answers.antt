use Rattle.mono_trace.proofs.AnswerLemmas.{on_ok}
use Rattle.mono_trace.proofs.parts.Parts.fire.Goals as goal

pub returns : goal.returns
returns c = on_ok c.wake_if_any.result _ _ c.wake_if_any.ensures (λ is. rw (← c.self.view_is, is, c.in_ok-fire.ensures, c.waker_at-waker.ensures))
