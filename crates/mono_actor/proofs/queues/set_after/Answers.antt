use Rattle.mono_actor.proofs.QueueLemmas.{sets-after}
use Rattle.mono_actor.proofs.queues.set_after.Goals as goal

pub returns-else-number-eq-END : goal.returns-else-number-eq-END
returns-else-number-eq-END c = rw c.replace.ensures.table (sets-after c.args.seats.now.table c.args.ends.now c.args.number c.requires c.if-number-eq-END.false c.before-before.result c.args.after c.before-before.ensures)
