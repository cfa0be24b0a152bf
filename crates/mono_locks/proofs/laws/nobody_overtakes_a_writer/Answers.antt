use Rattle.mono_locks.proofs.RwLockLawLemmas.{not_overtaken}
use Rattle.mono_locks.proofs.laws.nobody_overtakes_a_writer.Goals as goal

pub returns : goal.returns
returns g c = not_overtaken
