use Rattle.mono_sync.proofs.WatchLemmas.{changes_keeps}
use Rattle.mono_sync.proofs.watch.Watch.changed.Goals as goal

pub returns-clause-keeps : goal.returns-clause-keeps
returns-clause-keeps g c = changes_keeps c.args.self.now c.ask.new.self c.args.seen c.args.ticket c.args.me c.ask.result c.ask.ensures
