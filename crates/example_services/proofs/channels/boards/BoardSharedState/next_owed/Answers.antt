use Rattle.std.proofs.Common.{refl}
use Rattle.mono_sync.specs.Mpsc as messages
use Rattle.mono_sync.specs.Semaphores as permit
use Rattle.mono_sync.specs.Parts.{first_next, second_next, none_next}
use Rattle.example_services.specs.Boards.{numbers, permits}
use Rattle.example_services.proofs.channels.boards.BoardSharedState.next_owed.Goals as goal

pub returns-in-Some-clause-hands : goal.returns-in-Some-clause-hands
returns-in-Some-clause-hands c = first_next numbers permits messages.listed_by permit.listed_by messages.owed_by permit.owed_by c.args.self.now (record c.args.self.now { numbers = c.next_owed.new.self }) c.in-Some.task c.in-Some.ensures.hands refl
