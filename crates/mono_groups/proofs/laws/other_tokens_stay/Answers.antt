use Rattle.mono_groups.proofs.LawLemmas.{others}
use Rattle.mono_groups.proofs.laws.other_tokens_stay.Goals as goal

pub returns : goal.returns
returns c = others
