use Rattle.mono_machine.proofs.WatchLemmas.{held_stays, held_waits}
use Rattle.mono_machine.proofs.laws.what_is_held_stays.Goals as goal

pub returns-clause-stays : goal.returns-clause-stays
returns-clause-stays c = held_stays

pub returns-clause-waits : goal.returns-clause-waits
returns-clause-waits c = held_waits
