use Rattle.std.proofs.Common.{refl, inl}
use Rattle.mono_sync.specs.Semaphores.{listed_by, owed_by, waiting_in}
use Rattle.mono_sync.specs.SemaphoreRuns.{gave_up, Leads, leads_itself, leads_by}
use Rattle.mono_sync.specs.ManyLeads.{each_itself, each_with, keeps_with}
use Rattle.mono_sync.proofs.keyed_permits.leave_table.Goals as goal

pub returns-clause-answer : goal.returns-clause-answer
returns-clause-answer c = inl (c.part_mut.result.now, c.give_up.new.self, c.part_mut.ensures.value, c.give_up.ensures.answer, refl)

pub returns-clause-leads : goal.returns-clause-leads
returns-clause-leads c = each_with Leads waiting_in owed_by leads_itself c.args.semaphores.now c.args.key c.part_mut.result.now c.give_up.new.self c.part_mut.ensures.value (leads_by (gave_up c.args.ticket c.args.me) _ _ c.give_up.ensures.answer)

pub returns-clause-keeps : goal.returns-clause-keeps
returns-clause-keeps c = keeps_with listed_by c.args.me c.part_mut.result.now c.give_up.new.self c.give_up.ensures.keeps c.args.semaphores.now c.args.key c.part_mut.ensures.value

pub returns-then-is_none-clause-leads : goal.returns-then-is_none-clause-leads
returns-then-is_none-clause-leads c = each_itself Leads waiting_in owed_by leads_itself c.args.semaphores.now
