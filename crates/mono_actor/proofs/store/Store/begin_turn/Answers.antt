use Rattle.std.proofs.Common.{ap, Some}
use Rattle.mono_actor.specs.Actors.{Actor, running, in_mode}
use Rattle.mono_actor.specs.Places.{unread}
use Rattle.mono_actor.specs.Store.{places_of}
use Rattle.mono_actor.specs.declared.places.Mode.TheVariants as place
use Rattle.mono_actor.proofs.StoreChangeLemmas.{both}
use Rattle.mono_actor.proofs.StoreLemmas.{changed-there, changed-inside, is-there, read-value, in-mode-sound, in-mode-changes}
use Rattle.mono_actor.proofs.store.Store.begin_turn.Goals as goal

pub value_mut-requires : goal.value_mut-requires
value_mut-requires g c =
    let s = c.take-letter.new.self in
    let there = changed-there unread c.args.actor (places_of c.args.self.now) (places_of s) c.take-letter.ensures.taken in
    is-there s.links.slots _ s.entries s.sound c.args.actor there

pub invariant_of-self : goal.invariant_of-self
invariant_of-self g c =
    let s = c.take-letter.new.self in
    let e = c.value_mut.result.now in
    let there = changed-there unread c.args.actor (places_of c.args.self.now) (places_of s) c.take-letter.ensures.taken in
    record {
      sound = in-mode-sound s.links.slots _ s.entries s.sound c.args.actor there place.Running (Some e) (Some c.start.new.entry)
          (read-value s.links.slots _ s.entries s.sound c.args.actor there e c.value_mut.ensures.value) (ap Some c.start.ensures);
    }

pub returns-clause-becomes : goal.returns-clause-becomes
returns-clause-becomes g c =
    let s = c.take-letter.new.self in
    let e = c.value_mut.result.now in
    let there = changed-there unread c.args.actor (places_of c.args.self.now) (places_of s) c.take-letter.ensures.taken in
    let inside = changed-inside unread c.args.actor (places_of c.args.self.now) (places_of s) c.take-letter.ensures.taken in
    both unread (λ (actor : Actor _). in_mode actor running) c.args.actor (places_of c.args.self.now) (places_of s) _ c.take-letter.ensures.taken
    (in-mode-changes s.links.slots _ s.entries s.sound c.args.actor there place.Running (Some e) (Some c.start.new.entry)
    (read-value s.links.slots _ s.entries s.sound c.args.actor there e c.value_mut.ensures.value) (ap Some c.start.ensures)) inside
