use Rattle.mono_session.proofs.CallHistoryLemmas as law
use Rattle.mono_session.proofs.laws.queues_are_told.Goals as goal

pub returns : goal.returns
returns c = law.queues_are_told
