use Rattle.mono_sync.proofs.MadeLemmas.{removed_leads, removed_keeps}
use Rattle.mono_sync.proofs.making.remove_idle.Goals as goal

pub returns-clause-leads : goal.returns-clause-leads
returns-clause-leads g c =
    removed_leads g.X.SharedState.leads g.X.SharedState.waiting g.X.SharedState.owes g.met.X.SharedState.leads_itself c.args.parts.now c.remove.new.self c.args.key c.remove.result c.remove.ensures.removed

pub returns-clause-keeps : goal.returns-clause-keeps
returns-clause-keeps g c me =
    removed_keeps g.X.SharedState.lists me g.X.SharedState.waiting g.X.SharedState.owes g.met.X.SharedState.lists_some c.args.parts.now c.remove.new.self c.args.key c.remove.result c.remove.ensures.removed
