use Rattle.std.proofs.Common.{refl}
use Rattle.mono_groups.proofs.SetLemmas.{finishes_leads, same_tasks_keep}
use Rattle.mono_groups.proofs.join_set.JoinSet.end.Goals as goal

pub returns-clause-leads : goal.returns-clause-leads
returns-clause-leads g c = finishes_leads c.args.self.now (record c.args.self.now { answers = c.end.new.self }) c.args.key c.args.answer (c.end.ensures, (refl, refl))

pub returns-clause-keeps : goal.returns-clause-keeps
returns-clause-keeps g c = same_tasks_keep c.args.self.now (record c.args.self.now { answers = c.end.new.self }) (refl, refl)
