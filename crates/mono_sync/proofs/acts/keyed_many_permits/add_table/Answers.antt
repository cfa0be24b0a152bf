use Rattle.std.proofs.Common.{refl, inl}
use Rattle.mono_sync.specs.Semaphores.{listed_by, owed_by, waiting_in}
use Rattle.mono_sync.specs.SemaphoreRuns.{Leads, leads_itself}
use Rattle.mono_sync.specs.ManyLeads.{each_itself, each_with, keeps_with}
use Rattle.mono_sync.proofs.acts.keyed_many_permits.add_table.Goals as goal

pub returns-clause-answer : goal.returns-clause-answer
returns-clause-answer c = inl (c.part_mut.result.now, c.add_permits.new.self, c.part_mut.ensures.value, c.add_permits.ensures.answer, refl)

pub returns-clause-leads : goal.returns-clause-leads
returns-clause-leads c = each_with Leads waiting_in owed_by leads_itself c.args.semaphores.now c.args.key c.part_mut.result.now c.add_permits.new.self c.part_mut.ensures.value c.add_permits.ensures.leads

pub returns-clause-keeps : goal.returns-clause-keeps
returns-clause-keeps c me = keeps_with listed_by me c.part_mut.result.now c.add_permits.new.self (c.add_permits.ensures.keeps me) c.args.semaphores.now c.args.key c.part_mut.ensures.value

pub returns-then-is_none-clause-leads : goal.returns-then-is_none-clause-leads
returns-then-is_none-clause-leads c = each_itself Leads waiting_in owed_by leads_itself c.args.semaphores.now
