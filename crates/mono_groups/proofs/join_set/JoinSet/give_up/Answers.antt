use Rattle.std.proofs.Common.{refl}
use Rattle.mono_groups.proofs.SetLemmas.{leaves_join_keeps, leaves_join_leads}
use Rattle.mono_groups.proofs.join_set.JoinSet.give_up.Goals as goal

pub returns-clause-leads : goal.returns-clause-leads
returns-clause-leads g c = leaves_join_leads c.args.self.now (record c.args.self.now { joiners = c.leave.new.self }) c.args.ticket c.args.me (c.leave.ensures, (refl, refl))

pub returns-clause-keeps : goal.returns-clause-keeps
returns-clause-keeps g c = leaves_join_keeps c.args.self.now (record c.args.self.now { joiners = c.leave.new.self }) c.args.ticket c.args.me (c.leave.ensures, (refl, refl))
