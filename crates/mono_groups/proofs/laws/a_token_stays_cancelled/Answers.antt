use Rattle.mono_groups.proofs.LawLemmas.{stays}
use Rattle.mono_groups.proofs.laws.a_token_stays_cancelled.Goals as goal

pub returns : goal.returns
returns c = stays
