use Rattle.std.proofs.Common.{◌≡◌, ◌<◌, ℕ, [], Some, sym, subst}
use Rattle.mono_model.specs.Table.{value_at}
use Rattle.mono_task.specs.Owed.{Hands}
use Rattle.mono_sync.specs.Many.{parts_of, lists_each, tasks_in, tasks_each, LeadsEach}
use Rattle.mono_sync.specs.ManyLeads.{each_itself}
use Rattle.mono_sync.proofs.ManyLemmas.{owes_nothing, owes_none, none_each, hands_each, leads_each}
use Rattle.mono_sync.proofs.tables.hand_out.Goals as goal

pub returns-in-Some-hand_at-clause-hands : goal.returns-in-Some-hand_at-clause-hands
returns-in-Some-hand_at-clause-hands g c =
    subst (λ xs. Hands (lists_each g.X.SharedState.lists) (tasks_each g.X.SharedState.owes) xs (Some c.in-Some-hand_at.task) (parts_of c.hand_at.new.places)) c.loop-key.invariant.same
    (hands_each g.X.SharedState.owes g.X.SharedState.leads g.X.SharedState.lists g.X.SharedState.waiting (parts_of c.loop-key.places) (parts_of c.hand_at.new.places) c.in-Some.key c.in-Some-hand_at.task
    (λ j less. owes_nothing g.X.SharedState.owes c.loop-key.places c.loop-key.touched c.loop-key.invariant.noted j (c.in-Some.ensures.least j less))
    c.in-Some-hand_at.ensures.hands)

pub returns-in-Some-hand_at-clause-leads : goal.returns-in-Some-hand_at-clause-leads
returns-in-Some-hand_at-clause-leads g c =
    subst (λ xs. LeadsEach g.X.SharedState.leads g.X.SharedState.waiting g.X.SharedState.owes xs (parts_of c.hand_at.new.places)) c.loop-key.invariant.same
    (leads_each g.X.SharedState.owes g.X.SharedState.leads g.X.SharedState.lists g.X.SharedState.waiting g.met.X.SharedState.leads_itself (parts_of c.loop-key.places) (parts_of c.hand_at.new.places) c.in-Some.key c.in-Some-hand_at.task c.in-Some-hand_at.ensures.hands)

pub returns-clause-hands : goal.returns-clause-hands
returns-clause-hands g c =
    let nothing : (j : ℕ) → tasks_in g.X.SharedState.owes (value_at (parts_of c.loop-key.places) j) ≡ [] =
    owes_none g.X.SharedState.owes c.loop-key.places c.loop-key.touched c.loop-key.invariant.noted (λ j less. c.in_default.ensures.none j (subst (λ n. j < n) (sym c.len.ensures) less)) in
    (subst (λ xs. tasks_each g.X.SharedState.owes xs ≡ []) c.loop-key.invariant.same (none_each g.X.SharedState.owes (parts_of c.loop-key.places) nothing), c.loop-key.invariant.same)

pub returns-clause-leads : goal.returns-clause-leads
returns-clause-leads g c =
    subst (λ xs. LeadsEach g.X.SharedState.leads g.X.SharedState.waiting g.X.SharedState.owes xs (parts_of c.loop-key.places)) c.loop-key.invariant.same
    (each_itself g.X.SharedState.leads g.X.SharedState.waiting g.X.SharedState.owes g.met.X.SharedState.leads_itself (parts_of c.loop-key.places))
