use Rattle.std.proofs.Common.{ap, sym, ◌∙◌}
use Rattle.mono_trace.specs.TickCounts.{all_more}
use Rattle.mono_trace.proofs.ticks.Ticks.take_back.Goals as goal

pub returns : goal.returns
returns c = λ now before are.
    let counts = c.in_ok-raise_all.ensures.counts (all_more before c.args.self.now.taken.items) (now, are.0, are.1) in
    (c.lower_all.ensures.counts before counts, λ t. ap (λ xs. all_more before xs t) (c.lower_all.ensures.taken ∙ sym c.in_ok-raise_all.ensures.left))
