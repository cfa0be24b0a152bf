use Rattle.std.proofs.Common.{refl}
use Rattle.std.specs.Prelude.{Ok}
use Rattle.mono_groups.proofs.SetLemmas.{enters_leads, same_tasks_keep}
use Rattle.mono_groups.proofs.join_set.JoinSet.enter.Goals as goal

pub returns-clause-leads : goal.returns-clause-leads
returns-clause-leads g c = enters_leads c.args.self.now (record c.args.self.now { answers = c.come.new.self }) (Ok c.in_ok-come.field-0) (c.in_ok-come.ensures, (refl, refl))

pub returns-clause-keeps : goal.returns-clause-keeps
returns-clause-keeps g c = same_tasks_keep c.args.self.now (record c.args.self.now { answers = c.come.new.self }) (refl, refl)
