use Rattle.mono_sync.proofs.MadeLemmas.{made_leads, made_keeps}
use Rattle.mono_sync.proofs.making.make_table.Goals as goal

pub returns-clause-leads : goal.returns-clause-leads
returns-clause-leads g c =
    made_leads g.X.SharedState.leads g.X.SharedState.waiting g.X.SharedState.owes g.met.X.SharedState.leads_itself c.args.parts.now c.make.new.self c.args.part c.make.result c.make.ensures.made

pub returns-clause-keeps : goal.returns-clause-keeps
returns-clause-keeps g c me =
    made_keeps g.X.SharedState.lists me c.args.parts.now c.make.new.self c.args.part c.make.result c.make.ensures.made
