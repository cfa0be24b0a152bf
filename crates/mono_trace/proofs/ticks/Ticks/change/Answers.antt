use Rattle.mono_trace.specs.TickCounts.{more_at}
use Rattle.mono_trace.proofs.TickCountLemmas.{recounted}
use Rattle.mono_trace.proofs.AnswerLemmas.{on_ok}
use Rattle.mono_trace.proofs.ticks.Ticks.change.Goals as goal

pub returns : goal.returns
returns c = on_ok c.leave.result _ _ c.leave.ensures (λ so now after before same are.
    so after before (recounted (more_at now c.args.to) (more_at after c.args.from) before c.take.new.self same (c.in_ok-take.ensures now before are)))
