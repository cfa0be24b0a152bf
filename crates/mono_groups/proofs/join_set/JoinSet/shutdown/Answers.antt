use Rattle.mono_groups.proofs.SetLemmas.{shuts_keeps, shuts_leads}
use Rattle.mono_groups.proofs.join_set.JoinSet.shutdown.Goals as goal

pub returns-clause-leads : goal.returns-clause-leads
returns-clause-leads g c = shuts_leads c.args.self.now c.ask_shutdown.new.self c.args.ticket c.args.me c.ask_shutdown.result c.ask_shutdown.ensures

pub returns-clause-keeps : goal.returns-clause-keeps
returns-clause-keeps g c = shuts_keeps c.args.self.now c.ask_shutdown.new.self c.args.ticket c.args.me c.ask_shutdown.result c.ask_shutdown.ensures
