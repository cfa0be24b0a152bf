use Rattle.mono_sync.proofs.OwnLemmas.{takes_out_its_own}
use Rattle.mono_sync.proofs.laws.a_future_takes_out_its_own.Goals as goal

pub returns : goal.returns
returns c = takes_out_its_own
