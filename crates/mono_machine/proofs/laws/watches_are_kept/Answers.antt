use Rattle.mono_machine.proofs.WatchLemmas.{run_watch}
use Rattle.mono_machine.proofs.laws.watches_are_kept.Goals as goal

pub returns : goal.returns
returns c = run_watch
