use Rattle.std.proofs.Common.{refl}
use Rattle.mono_groups.proofs.SetLemmas.{leaves_abort_keeps, leaves_abort_leads}
use Rattle.mono_groups.proofs.join_set.JoinSet.run_on.Goals as goal

pub returns-clause-leads : goal.returns-clause-leads
returns-clause-leads g c = leaves_abort_leads c.args.self.now (record c.args.self.now { abort = c.leave.new.self }) c.args.ticket c.args.me (c.leave.ensures, refl, refl)

pub returns-clause-keeps : goal.returns-clause-keeps
returns-clause-keeps g c = leaves_abort_keeps c.args.self.now (record c.args.self.now { abort = c.leave.new.self }) c.args.ticket c.args.me (c.leave.ensures, refl, refl)
