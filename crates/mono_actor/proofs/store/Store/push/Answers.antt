use Rattle.std.proofs.Common.{ap}
use Rattle.mono_actor.specs.declared.places.Entry.{Entry}
use Rattle.mono_actor.proofs.StoreLemmas.{pushed-either}
use Rattle.mono_actor.proofs.store.Store.push.Goals as goal

pub invariant_of-self : goal.invariant_of-self
invariant_of-self g c =
    let s = c.args.self.now in
    record { sound = pushed-either s.links.slots _ s.entries s.sound c.new_entry.result (ap (λ (e : Entry). e.mailbox.count) c.new_entry.ensures) c.push.result c.push.new.self c.push.ensures.after c.push.ensures.refused }
