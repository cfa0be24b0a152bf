use Rattle.mono_groups.proofs.LawLemmas.{idle}
use Rattle.mono_groups.proofs.laws.no_token_lies_idle.Goals as goal

pub returns : goal.returns
returns c = idle
