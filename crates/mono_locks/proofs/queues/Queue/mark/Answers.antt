use Rattle.std.proofs.Common.{sym, ◌∙◌, refl}
use Rattle.mono_locks.proofs.PlaceLemmas.{marked_at, marked_nowhere}
use Rattle.mono_locks.proofs.queues.Queue.mark.Goals as goal

pub returns-in-Some : goal.returns-in-Some
returns-in-Some c = (marked_at c.args.ticket c.args.task c.args.self.now.waiters.items c.in-Some.place (sym c.place_of.ensures ∙ c.in-Some.is), refl, refl)

pub returns-in_default : goal.returns-in_default
returns-in_default c = (marked_nowhere c.args.ticket c.args.task c.args.self.now.waiters.items (sym c.place_of.ensures ∙ c.in_default.is), refl, refl)
