use Rattle.std.proofs.Common.{refl, inl}
use Rattle.mono_sync.specs.Mpsc.{listed_by, owed_by, waiting_in}
use Rattle.mono_sync.specs.MpscRuns.{asked_to_send, Leads, leads_itself, leads_by}
use Rattle.mono_sync.specs.ManyLeads.{each_itself, each_with, keeps_with}
use Rattle.mono_sync.proofs.keyed_messages.send_table.Goals as goal

pub returns-clause-answer : goal.returns-clause-answer
returns-clause-answer g c = inl (c.part_mut.result.now, c.send.new.self, c.part_mut.ensures.value, c.send.ensures.answer, refl)

pub returns-clause-leads : goal.returns-clause-leads
returns-clause-leads g c = each_with Leads waiting_in owed_by leads_itself c.args.channels.now c.args.key c.part_mut.result.now c.send.new.self c.part_mut.ensures.value (leads_by (asked_to_send c.args.ticket c.args.message c.args.me c.send.result) _ _ c.send.ensures.answer)

pub returns-clause-keeps : goal.returns-clause-keeps
returns-clause-keeps g c = keeps_with listed_by c.args.me c.part_mut.result.now c.send.new.self c.send.ensures.keeps c.args.channels.now c.args.key c.part_mut.ensures.value

pub returns-then-is_none-clause-leads : goal.returns-then-is_none-clause-leads
returns-then-is_none-clause-leads g c = each_itself Leads waiting_in owed_by leads_itself c.args.channels.now
