use Rattle.mono_sync.proofs.BelowLemmas.{starts_at}
use Rattle.mono_sync.proofs.lines.Line.starts_below.Goals as goal

pub returns : goal.returns
returns c = starts_at c.args.low c.index.result.now c.args.self.now.waiters.items c.if-is_empty.ensures c.index.ensures
