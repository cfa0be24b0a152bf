use Rattle.mono_groups.proofs.LawLemmas.{parent}
use Rattle.mono_groups.proofs.laws.a_parent_is_not_below.Goals as goal

pub returns : goal.returns
returns c = parent
