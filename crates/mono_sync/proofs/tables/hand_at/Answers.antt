use Rattle.std.proofs.Common.{ap, ◌∙◌, Some}
use Rattle.mono_sync.proofs.ManyLemmas.{hands_at}
use Rattle.mono_sync.proofs.tables.hand_at.Goals as goal

pub returns-clause-hands : goal.returns-clause-hands
returns-clause-hands g c =
    hands_at g.X.SharedState.owes g.X.SharedState.leads g.X.SharedState.lists g.X.SharedState.waiting c.args.places.now c.args.key c.in_place.result.now c.next_owed.new.self c.next_owed.result (c.value_mut.ensures.value ∙ ap (λ x. Some x) c.in_place.ensures.value) c.next_owed.ensures.hands c.next_owed.ensures.leads
