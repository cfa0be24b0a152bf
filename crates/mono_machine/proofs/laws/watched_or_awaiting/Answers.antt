use Rattle.mono_machine.proofs.WatchLemmas.{watched_or_awaiting}
use Rattle.mono_machine.proofs.laws.watched_or_awaiting.Goals as goal

pub returns : goal.returns
returns c = watched_or_awaiting
