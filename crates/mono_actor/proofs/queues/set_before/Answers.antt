use Rattle.mono_actor.proofs.QueueLemmas.{sets-before}
use Rattle.mono_actor.proofs.queues.set_before.Goals as goal

pub returns-else-number-eq-END : goal.returns-else-number-eq-END
returns-else-number-eq-END c = rw c.replace.ensures.table (sets-before c.args.seats.now.table c.args.ends.now c.args.number c.requires c.if-number-eq-END.false c.args.before c.after-after.result c.after-after.ensures)
