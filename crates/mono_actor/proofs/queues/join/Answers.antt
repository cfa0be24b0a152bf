use Rattle.mono_actor.proofs.QueueLemmas.{place-kept}
use Rattle.mono_actor.proofs.queues.join.Goals as goal

pub set_before-requires : goal.set_before-requires
set_before-requires c = place-kept c.args.seats.now.table c.set_after.new.seats.table c.args.after c.set_after.ensures.seats c.requires.after
