use Rattle.std.proofs.Common.{◌≡◌, [], ◌∷◌, inl, refl, sym, subst, ap, ◌∙◌}
use Rattle.mono_actor.specs.Queues.{Queue, HasPlace, items_in}
use Rattle.mono_actor.proofs.QueueLemmas.{first-items, front-in, front-joined, after-place, removed-parts, removed-ring}
use Rattle.mono_actor.proofs.queues.Queue.pop_front.Goals as goal

pub join-requires-clause-after : goal.join-requires-clause-after
join-requires-clause-after c =
    let i = c.self.inside in
    let found = (first-items i.seats.table i.ends (items_in i.seats.table i.ends) c.self.invariant).1 c.if-front.false in
    subst (HasPlace i.seats.table) (sym c.after-next.ensures) (after-place i.seats.table i.ends (items_in i.seats.table i.ends) c.self.invariant i.ends.after (front-in (items_in i.seats.table i.ends) i.ends.after found.0 found.1))

pub invariant_of-self : goal.invariant_of-self
invariant_of-self c =
    let i = c.self.inside in
    let found = (first-items i.seats.table i.ends (items_in i.seats.table i.ends) c.self.invariant).1 c.if-front.false in
    let within = front-in (items_in i.seats.table i.ends) i.ends.after found.0 found.1 in
    let joined = front-joined i.seats.table c.join.new.seats.table i.ends c.join.new.ends (items_in i.seats.table i.ends) c.self.invariant i.ends.after c.after-next.result found.0 found.1 c.after-next.ensures c.join.ensures in
    removed-ring i.seats.table i.ends (items_in i.seats.table i.ends) c.self.invariant i.ends.after within c.join.new.seats.table c.join.new.ends joined

pub returns-clause-items : goal.returns-clause-items
returns-clause-items c =
    let i = c.self.inside in
    let found = (first-items i.seats.table i.ends (items_in i.seats.table i.ends) c.self.invariant).1 c.if-front.false in
    let within = front-in (items_in i.seats.table i.ends) i.ends.after found.0 found.1 in
    let joined = front-joined i.seats.table c.join.new.seats.table i.ends c.join.new.ends (items_in i.seats.table i.ends) c.self.invariant i.ends.after c.after-next.result found.0 found.1 c.after-next.ensures c.join.ensures in
    sym (ap (λ (q : Queue). q.items) c.self.view_is) ∙ found.1
    ∙ ap (λ rest. i.ends.after ∷ rest) (sym (removed-parts i.seats.table i.ends (items_in i.seats.table i.ends) c.self.invariant i.ends.after within c.join.new.seats.table c.join.new.ends joined [] found.0 found.1))
