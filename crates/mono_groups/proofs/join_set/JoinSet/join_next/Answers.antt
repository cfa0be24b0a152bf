use Rattle.mono_groups.proofs.SetLemmas.{joins_next_keeps, joins_next_leads}
use Rattle.mono_groups.proofs.join_set.JoinSet.join_next.Goals as goal

pub returns-clause-leads : goal.returns-clause-leads
returns-clause-leads g c = joins_next_leads c.args.self.now c.ask_next.new.self c.args.ticket c.args.me c.ask_next.result c.ask_next.ensures

pub returns-clause-keeps : goal.returns-clause-keeps
returns-clause-keeps g c = joins_next_keeps c.args.self.now c.ask_next.new.self c.args.ticket c.args.me c.ask_next.result c.ask_next.ensures
