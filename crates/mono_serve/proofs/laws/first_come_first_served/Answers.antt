use Rattle.mono_serve.proofs.LineLemmas.{first_served}
use Rattle.mono_serve.proofs.laws.first_come_first_served.Goals as goal

pub returns : goal.returns
returns c = first_served
