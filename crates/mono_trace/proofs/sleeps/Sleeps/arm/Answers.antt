use Rattle.mono_trace.proofs.AnswerLemmas.{on_ok}
use Rattle.mono_trace.proofs.sleeps.Sleeps.arm.Goals as goal

pub returns : goal.returns
returns c = on_ok c.set.result _ _ c.set.ensures (λ is. rw (← c.self.view_is) is)
