use Rattle.std.proofs.Common.{Some}
use Rattle.mono_sync.specs.Runs.{leads_by}
use Rattle.mono_locks.specs.MutexRuns.{served, Step}
use Rattle.mono_locks.proofs.MutexLemmas.{none_hands, first_hands}
use Rattle.mono_locks.proofs.mutex.MutexSharedState.next_owed.Goals as goal

pub returns-in-None-clause-hands : goal.returns-in-None-clause-hands
returns-in-None-clause-hands g c = none_hands c.args.self.now c.pay.new.self c.in-None.ensures

pub returns-in-Some-clause-hands : goal.returns-in-Some-clause-hands
returns-in-Some-clause-hands g c = first_hands c.args.self.now c.pay.new.self c.in-Some.first c.in-Some.ensures

pub returns-in-Some-clause-leads : goal.returns-in-Some-clause-leads
returns-in-Some-clause-leads g c = leads_by Step (served (Some c.in-Some.first)) c.args.self.now c.pay.new.self c.in-Some.ensures
