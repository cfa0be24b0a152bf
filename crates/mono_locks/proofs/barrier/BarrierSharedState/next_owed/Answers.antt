use Rattle.std.proofs.Common.{Some}
use Rattle.mono_sync.specs.Runs.{leads_by}
use Rattle.mono_locks.specs.BarrierRuns.{served, Step}
use Rattle.mono_locks.proofs.BarrierLemmas.{none_hands, first_hands}
use Rattle.mono_locks.proofs.barrier.BarrierSharedState.next_owed.Goals as goal

pub returns-in-None-clause-hands : goal.returns-in-None-clause-hands
returns-in-None-clause-hands c = none_hands c.args.self.now c.pay.new.self c.in-None.ensures

pub returns-in-Some-clause-hands : goal.returns-in-Some-clause-hands
returns-in-Some-clause-hands c = first_hands c.args.self.now c.pay.new.self c.in-Some.first c.in-Some.ensures

pub returns-in-Some-clause-leads : goal.returns-in-Some-clause-leads
returns-in-Some-clause-leads c = leads_by Step (served (Some c.in-Some.first)) c.args.self.now c.pay.new.self c.in-Some.ensures
