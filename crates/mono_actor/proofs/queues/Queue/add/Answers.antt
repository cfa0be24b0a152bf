use Rattle.std.proofs.Common.{◌<◌, ◌-◌, ◌^◌, length, ap, ◌∙◌, arith}
use Rattle.std.specs.Prelude.{is_some}
use Rattle.std.proofs.lemmas.List.{length-map}
use Rattle.mono_actor.specs.Queues.{Queue, items_in}
use Rattle.mono_actor.proofs.QueueLemmas.{added-items, added-ring}
use Rattle.mono_actor.proofs.queues.Queue.add.Goals as goal

pub invariant_of-self : goal.invariant_of-self
invariant_of-self c =
    let few : length c.self.inside.seats.table < 2 ^ 64 - 1 = omega (arith, c.requires.few, ap (λ (q : Queue). length q.seats) c.self.view_is, length-map c.self.inside.seats.table is_some) in
    rw c.add.ensures.table (added-ring c.self.inside.seats.table c.self.inside.ends (items_in c.self.inside.seats.table c.self.inside.ends) c.self.invariant _ few)

pub returns-clause-items : goal.returns-clause-items
returns-clause-items c =
    let few : length c.self.inside.seats.table < 2 ^ 64 - 1 = omega (arith, c.requires.few, ap (λ (q : Queue). length q.seats) c.self.view_is, length-map c.self.inside.seats.table is_some) in
    rw c.add.ensures.table (added-items c.self.inside.seats.table c.self.inside.ends (items_in c.self.inside.seats.table c.self.inside.ends) c.self.invariant _ few ∙ ap (λ (q : Queue). q.items) c.self.view_is)
