use Rattle.std.proofs.Common.{refl}
use Rattle.mono_groups.proofs.SetLemmas.{same_tasks_keep, tries_next_leads}
use Rattle.mono_groups.proofs.join_set.JoinSet.try_join_next.Goals as goal

pub returns-clause-leads : goal.returns-clause-leads
returns-clause-leads g c = tries_next_leads c.args.self.now (record c.args.self.now { answers = c.take.new.self }) c.take.result (c.take.ensures, (refl, refl))

pub returns-clause-keeps : goal.returns-clause-keeps
returns-clause-keeps g c = same_tasks_keep c.args.self.now (record c.args.self.now { answers = c.take.new.self }) (refl, refl)
