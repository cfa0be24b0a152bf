use Rattle.std.proofs.Common.{◌≡◌, ◌<◌, ◌^◌, false, Some, None, set, length, subst, sym, ap, ◌∙◌, arith}
use Rattle.std.specs.Prelude.{is_some}
use Rattle.std.proofs.lemmas.List.{map-set}
use Rattle.mono_actor.specs.Queues.{Queue, items_in}
use Rattle.mono_actor.proofs.QueueLemmas.{out-of, freed-items, freed-ring}
use Rattle.mono_actor.proofs.queues.Queue.free.Goals as goal

pub invariant_of-self : goal.invariant_of-self
invariant_of-self c =
    rw c.remove.ensures (freed-ring c.self.inside.seats.table c.self.inside.ends (items_in c.self.inside.seats.table c.self.inside.ends) c.self.invariant c.args.number
    (out-of c.self.inside.seats.table c.self.inside.ends c.self.inside.seats.room c.args.self.now c.args.number c.self.view_is c.requires.out))

pub returns-clause-items : goal.returns-clause-items
returns-clause-items c =
    rw c.remove.ensures (freed-items c.self.inside.seats.table c.self.inside.ends (items_in c.self.inside.seats.table c.self.inside.ends) c.self.invariant c.args.number
    (out-of c.self.inside.seats.table c.self.inside.ends c.self.inside.seats.room c.args.self.now c.args.number c.self.view_is c.requires.out)
    ∙ ap (λ (q : Queue). q.items) c.self.view_is)

pub returns-clause-seats : goal.returns-clause-seats
returns-clause-seats c =
    ap (λ xs. Rattle.std.proofs.Common.map is_some xs) c.remove.ensures
    ∙ map-set is_some c.self.inside.seats.table c.args.number None
    ∙ ap (λ (q : Queue). set q.seats c.args.number false) c.self.view_is
