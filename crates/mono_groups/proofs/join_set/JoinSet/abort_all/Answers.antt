use Rattle.std.proofs.Common.{refl, true}
use Rattle.mono_groups.proofs.SetLemmas.{aborts_keeps, aborts_leads}
use Rattle.mono_groups.proofs.join_set.JoinSet.abort_all.Goals as goal

pub returns-clause-leads : goal.returns-clause-leads
returns-clause-leads g c = aborts_leads c.args.self.now (record c.args.self.now { abort = record c.args.self.now.abort { is_cancelled = true } }) (refl, refl, refl)

pub returns-clause-keeps : goal.returns-clause-keeps
returns-clause-keeps g c = aborts_keeps c.args.self.now (record c.args.self.now { abort = record c.args.self.now.abort { is_cancelled = true } }) (refl, refl, refl)
