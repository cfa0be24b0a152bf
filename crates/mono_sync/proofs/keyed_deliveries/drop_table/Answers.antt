use Rattle.std.proofs.Common.{inl, inr}
use Rattle.mono_sync.specs.Oneshot.{owed_by, waiting_in}
use Rattle.mono_sync.specs.OneshotRuns.{Step}
use Rattle.mono_sync.specs.Runs.{Leads, leads_on}
use Rattle.mono_sync.specs.ManyLeads.{each_on}
use Rattle.mono_sync.proofs.keyed_deliveries.drop_table.Goals as goal

pub returns-clause-leads : goal.returns-clause-leads
returns-clause-leads g c = each_on (Leads Step) waiting_in owed_by (leads_on Step) c.args.channels.now c.leave_table.new.channels c.remove_idle.new.parts c.leave_table.ensures.leads c.remove_idle.ensures.leads

pub returns-clause-keeps : goal.returns-clause-keeps
returns-clause-keeps g c p t listed = elim (c.leave_table.ensures.keeps p t listed) [
  | inl still ↦ c.remove_idle.ensures.keeps c.args.me p t still
  | inr mine ↦ inr mine
]
