use Rattle.std.proofs.Common.{not, subst, sym, ◌∙◌, ap}
use Rattle.std.specs.Prelude.{◌==◌, filter}
use Rattle.mono_wheel.specs.Lists.{IsIn}
use Rattle.mono_actor.specs.Queues.{Queue, HasPlace, Joined, items_in, after_in, before_in}
use Rattle.mono_actor.proofs.QueueLemmas.{before-place, after-place, removed-parts, removed-filter, removed-ring}
use Rattle.mono_actor.proofs.queues.Queue.remove.Goals as goal

pub join-requires-clause-before : goal.join-requires-clause-before
join-requires-clause-before c =
    let within = subst (λ (q : Queue). IsIn c.args.number q.items) (sym c.self.view_is) c.requires in
    subst (HasPlace c.self.inside.seats.table) (sym c.before-before.ensures) (before-place c.self.inside.seats.table c.self.inside.ends (items_in c.self.inside.seats.table c.self.inside.ends) c.self.invariant c.args.number within)

pub join-requires-clause-after : goal.join-requires-clause-after
join-requires-clause-after c =
    let within = subst (λ (q : Queue). IsIn c.args.number q.items) (sym c.self.view_is) c.requires in
    subst (HasPlace c.self.inside.seats.table) (sym c.after-after.ensures) (after-place c.self.inside.seats.table c.self.inside.ends (items_in c.self.inside.seats.table c.self.inside.ends) c.self.invariant c.args.number within)

pub invariant_of-self : goal.invariant_of-self
invariant_of-self c =
    let within = subst (λ (q : Queue). IsIn c.args.number q.items) (sym c.self.view_is) c.requires in
    let joined : Joined c.self.inside.seats.table c.join.new.seats.table c.self.inside.ends c.join.new.ends (before_in c.self.inside.seats.table c.self.inside.ends c.args.number) (after_in c.self.inside.seats.table c.self.inside.ends c.args.number) =
    subst (λ z. Joined c.self.inside.seats.table c.join.new.seats.table c.self.inside.ends c.join.new.ends z (after_in c.self.inside.seats.table c.self.inside.ends c.args.number)) c.before-before.ensures
    (subst (λ z. Joined c.self.inside.seats.table c.join.new.seats.table c.self.inside.ends c.join.new.ends c.before-before.result z) c.after-after.ensures c.join.ensures) in
    removed-ring c.self.inside.seats.table c.self.inside.ends (items_in c.self.inside.seats.table c.self.inside.ends) c.self.invariant c.args.number within c.join.new.seats.table c.join.new.ends joined

pub returns-clause-items : goal.returns-clause-items
returns-clause-items c =
    let within = subst (λ (q : Queue). IsIn c.args.number q.items) (sym c.self.view_is) c.requires in
    let joined : Joined c.self.inside.seats.table c.join.new.seats.table c.self.inside.ends c.join.new.ends (before_in c.self.inside.seats.table c.self.inside.ends c.args.number) (after_in c.self.inside.seats.table c.self.inside.ends c.args.number) =
    subst (λ z. Joined c.self.inside.seats.table c.join.new.seats.table c.self.inside.ends c.join.new.ends z (after_in c.self.inside.seats.table c.self.inside.ends c.args.number)) c.before-before.ensures
    (subst (λ z. Joined c.self.inside.seats.table c.join.new.seats.table c.self.inside.ends c.join.new.ends c.before-before.result z) c.after-after.ensures c.join.ensures) in
    removed-filter c.self.inside.seats.table c.self.inside.ends (items_in c.self.inside.seats.table c.self.inside.ends) c.self.invariant c.args.number within c.join.new.seats.table c.join.new.ends joined
    ∙ ap (λ (q : Queue). filter (λ other. not (other == c.args.number)) q.items) c.self.view_is

pub returns-clause-parts : goal.returns-clause-parts
returns-clause-parts c front back is =
    let within = subst (λ (q : Queue). IsIn c.args.number q.items) (sym c.self.view_is) c.requires in
    let joined : Joined c.self.inside.seats.table c.join.new.seats.table c.self.inside.ends c.join.new.ends (before_in c.self.inside.seats.table c.self.inside.ends c.args.number) (after_in c.self.inside.seats.table c.self.inside.ends c.args.number) =
    subst (λ z. Joined c.self.inside.seats.table c.join.new.seats.table c.self.inside.ends c.join.new.ends z (after_in c.self.inside.seats.table c.self.inside.ends c.args.number)) c.before-before.ensures
    (subst (λ z. Joined c.self.inside.seats.table c.join.new.seats.table c.self.inside.ends c.join.new.ends c.before-before.result z) c.after-after.ensures c.join.ensures) in
    removed-parts c.self.inside.seats.table c.self.inside.ends (items_in c.self.inside.seats.table c.self.inside.ends) c.self.invariant c.args.number within c.join.new.seats.table c.join.new.ends joined front back
    (ap (λ (q : Queue). q.items) c.self.view_is ∙ is)
