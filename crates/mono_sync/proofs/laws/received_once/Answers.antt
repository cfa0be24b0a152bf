use Rattle.mono_sync.proofs.OnceLemmas.{once}
use Rattle.mono_sync.proofs.laws.received_once.Goals as goal

pub returns : goal.returns
returns g c = once
