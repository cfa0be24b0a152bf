use Rattle.std.proofs.Common.{sym, ◌∙◌}
use Rattle.mono_locks.proofs.PlaceLemmas.{holder_at, holder_nowhere}
use Rattle.mono_locks.proofs.queues.Queue.holder_of.Goals as goal

pub returns-in-None : goal.returns-in-None
returns-in-None c = holder_nowhere c.args.ticket c.args.self.now.waiters.items (rw c.number.ensures at (sym c.place_of.ensures ∙ c.in-None.is))

pub returns-in-Some : goal.returns-in-Some
returns-in-Some c = holder_at c.args.ticket c.index.result.now c.args.self.now.waiters.items c.in-Some.place (rw c.number.ensures at (sym c.place_of.ensures ∙ c.in-Some.is)) c.index.ensures
