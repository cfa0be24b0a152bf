use Rattle.mono_machine.proofs.WatchLemmas.{event_watch}
use Rattle.mono_machine.proofs.laws.a_watch_stands.Goals as goal

pub returns : goal.returns
returns c = event_watch
