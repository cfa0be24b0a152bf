use Rattle.mono_sync.proofs.acts.many_messages.try_recv_part.Goals as goal

pub returns-clause-leads : goal.returns-clause-leads
returns-clause-leads g c = g.met.W.Holds.leads_with _ _ (rw c.part_mut.ensures.value at c.try_recv_new.ensures.leads)

pub returns-clause-keeps : goal.returns-clause-keeps
returns-clause-keeps g c me = g.met.W.Holds.keeps_with me _ _ (rw c.part_mut.ensures.value at c.try_recv_new.ensures.keeps me)
