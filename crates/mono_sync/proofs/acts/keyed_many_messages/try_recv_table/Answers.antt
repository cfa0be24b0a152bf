use Rattle.std.proofs.Common.{refl, inl}
use Rattle.mono_sync.specs.Mpsc.{listed_by, owed_by, waiting_in}
use Rattle.mono_sync.specs.MpscRuns.{Leads, leads_itself}
use Rattle.mono_sync.specs.ManyLeads.{each_itself, each_with, keeps_with}
use Rattle.mono_sync.proofs.acts.keyed_many_messages.try_recv_table.Goals as goal

pub returns-clause-answer : goal.returns-clause-answer
returns-clause-answer g c = inl (c.part_mut.result.now, c.try_recv_new.new.channel, c.part_mut.ensures.value, c.try_recv_new.ensures.answer, refl)

pub returns-clause-leads : goal.returns-clause-leads
returns-clause-leads g c = each_with Leads waiting_in owed_by leads_itself c.args.channels.now c.args.key c.part_mut.result.now c.try_recv_new.new.channel c.part_mut.ensures.value c.try_recv_new.ensures.leads

pub returns-clause-keeps : goal.returns-clause-keeps
returns-clause-keeps g c me = keeps_with listed_by me c.part_mut.result.now c.try_recv_new.new.channel (c.try_recv_new.ensures.keeps me) c.args.channels.now c.args.key c.part_mut.ensures.value

pub returns-then-is_none-clause-leads : goal.returns-then-is_none-clause-leads
returns-then-is_none-clause-leads g c = each_itself Leads waiting_in owed_by leads_itself c.args.channels.now
