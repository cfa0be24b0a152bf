use Rattle.mono_groups.proofs.LawLemmas.{below}
use Rattle.mono_groups.proofs.laws.tokens_below_are_cancelled.Goals as goal

pub returns : goal.returns
returns c = below
