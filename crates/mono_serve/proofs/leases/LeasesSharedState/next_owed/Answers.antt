use Rattle.std.proofs.Common.{refl, sym}
use Rattle.mono_serve.proofs.LeaseWaits.{keeper_leads, due_leads, late_none}
use Rattle.mono_serve.proofs.leases.LeasesSharedState.next_owed.Goals as goal

pub returns-in-Some-clause-leads : goal.returns-in-Some-clause-leads
returns-in-Some-clause-leads c = keeper_leads _ _ c.in-Some.task (sym c.in-Some.ensures) (late_none c.args.self.now.late) (refl, refl, refl) refl

pub returns-in-None-clause-leads : goal.returns-in-None-clause-leads
returns-in-None-clause-leads c = due_leads _ _ c.next_due.result (sym c.in-None.ensures) c.next_due.ensures
