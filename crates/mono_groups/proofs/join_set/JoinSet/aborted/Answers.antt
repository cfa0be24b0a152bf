use Rattle.std.proofs.Common.{refl}
use Rattle.mono_groups.proofs.SetLemmas.{asks_abort_keeps, asks_abort_leads}
use Rattle.mono_groups.proofs.join_set.JoinSet.aborted.Goals as goal

pub returns-clause-leads : goal.returns-clause-leads
returns-clause-leads g c = asks_abort_leads c.args.self.now (record c.args.self.now { abort = c.ask.new.self }) c.args.ticket c.args.me c.ask.result (c.ask.ensures, refl, refl)

pub returns-clause-keeps : goal.returns-clause-keeps
returns-clause-keeps g c = asks_abort_keeps c.args.self.now (record c.args.self.now { abort = c.ask.new.self }) c.args.ticket c.args.me c.ask.result (c.ask.ensures, refl, refl)
