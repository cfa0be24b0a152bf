use Rattle.mono_session.specs.Keeper.{queue_in}
use Rattle.mono_session.specs.Entries.{queue_chains}
use Rattle.mono_session.proofs.QueueLemmas.{first_is_none, first_is_some}
use Rattle.mono_session.proofs.entries.Entries.owner.Goals as goal

pub returns-in-None : goal.returns-in-None
returns-in-None c = λ entries entered. first_is_none (queue_chains c.args.self.now) (queue_in entries) c.args.key c.in-None.ensures.value entered.queues

pub returns-in-Some : goal.returns-in-Some
returns-in-Some c = λ entries entered. first_is_some (queue_chains c.args.self.now) (queue_in entries) c.args.key c.in-Some.ends.now c.in-Some.ensures.value entered.queues
