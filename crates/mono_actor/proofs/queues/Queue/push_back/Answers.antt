use Rattle.std.proofs.Common.{◌≡◌, ◌++◌, ◌∷◌, [], Some, set, ap, sym, subst, ◌∙◌}
use Rattle.mono_actor.specs.Queues.{Queue, HasPlace, SetsAfter, items_in}
use Rattle.mono_actor.proofs.QueueLemmas.{known-seat, out-of, placed-place, put-last-items, put-last-ring, put-last-seats}
use Rattle.mono_actor.proofs.queues.Queue.push_back.Goals as goal

pub set_after-requires : goal.set_after-requires
set_after-requires c =
    let i = c.self.inside in
    let known = known-seat i.seats.table i.ends i.seats.room c.args.self.now c.args.number c.self.view_is c.requires.seat in
    let out = out-of i.seats.table i.ends i.seats.room c.args.self.now c.args.number c.self.view_is c.requires.out in
    subst (λ t. HasPlace t i.ends.before) (sym c.replace.ensures.table) (placed-place i.seats.table i.ends (items_in i.seats.table i.ends) c.self.invariant c.args.number out known)

pub invariant_of-self : goal.invariant_of-self
invariant_of-self c =
    let i = c.self.inside in
    let known = known-seat i.seats.table i.ends i.seats.room c.args.self.now c.args.number c.self.view_is c.requires.seat in
    let out = out-of i.seats.table i.ends i.seats.room c.args.self.now c.args.number c.self.view_is c.requires.out in
    put-last-ring i.seats.table i.ends (items_in i.seats.table i.ends) c.self.invariant c.args.number out known c.set_after.new.seats.table c.set_after.new.ends
    (subst (λ t. SetsAfter t c.set_after.new.seats.table i.ends c.set_after.new.ends i.ends.before c.args.number) c.replace.ensures.table c.set_after.ensures)

pub returns-clause-items : goal.returns-clause-items
returns-clause-items c =
    let i = c.self.inside in
    let known = known-seat i.seats.table i.ends i.seats.room c.args.self.now c.args.number c.self.view_is c.requires.seat in
    let out = out-of i.seats.table i.ends i.seats.room c.args.self.now c.args.number c.self.view_is c.requires.out in
    put-last-items i.seats.table i.ends (items_in i.seats.table i.ends) c.self.invariant c.args.number out known c.set_after.new.seats.table c.set_after.new.ends
    (subst (λ t. SetsAfter t c.set_after.new.seats.table i.ends c.set_after.new.ends i.ends.before c.args.number) c.replace.ensures.table c.set_after.ensures)
    ∙ ap (λ (q : Queue). q.items ++ c.args.number ∷ []) c.self.view_is

pub returns-clause-seats : goal.returns-clause-seats
returns-clause-seats c =
    let i = c.self.inside in
    let known = known-seat i.seats.table i.ends i.seats.room c.args.self.now c.args.number c.self.view_is c.requires.seat in
    let out = out-of i.seats.table i.ends i.seats.room c.args.self.now c.args.number c.self.view_is c.requires.out in
    put-last-seats i.seats.table i.ends (items_in i.seats.table i.ends) c.self.invariant c.args.number out known c.set_after.new.seats.table c.set_after.new.ends
    (subst (λ t. SetsAfter t c.set_after.new.seats.table i.ends c.set_after.new.ends i.ends.before c.args.number) c.replace.ensures.table c.set_after.ensures)
    ∙ ap (λ (q : Queue). q.seats) c.self.view_is
