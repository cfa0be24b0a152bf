use Rattle.mono_sync.proofs.waiting.ask_part.Goals as goal

pub returns-clause-leads : goal.returns-clause-leads
returns-clause-leads g c = g.met.W.Holds.leads_with _ _ (rw c.part_mut.ensures.value at c.wait_for.ensures.leads)

pub returns-clause-keeps : goal.returns-clause-keeps
returns-clause-keeps g c = g.met.W.Holds.keeps_with c.args.me _ _ (rw c.part_mut.ensures.value at c.wait_for.ensures.keeps)
