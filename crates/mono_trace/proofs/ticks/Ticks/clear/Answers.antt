use Rattle.std.proofs.Common.{ap, sym, ◌∙◌}
use Rattle.mono_trace.specs.TickCounts.{all_more, none_at}
use Rattle.mono_trace.proofs.TickCountLemmas.{nothing}
use Rattle.mono_trace.proofs.ticks.Ticks.clear.Goals as goal

pub returns : goal.returns
returns c = (nothing c.clear.new.self c.clear.ensures.empty, λ t. ap (λ xs. all_more none_at xs t) (c.clear-3.ensures.items ∙ sym c.clear-2.ensures.items))
