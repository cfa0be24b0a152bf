use Rattle.std.proofs.Common.{ap, ◌∙◌}
use Rattle.mono_model.specs.Table.{value_at}
use Rattle.mono_actor.specs.Places.{unread}
use Rattle.mono_actor.specs.Store.{places_of}
use Rattle.mono_actor.specs.Mailboxes.{places_in}
use Rattle.mono_actor.proofs.StoreLemmas.{changed-there, changed-gone, still-empty, is-there, read-here, gone-sound, gone-places, left-timer, left-letters}
use Rattle.mono_actor.proofs.store.Store.take_away.Goals as goal

pub loop-preserved-in-Some : goal.loop-preserved-in-Some
loop-preserved-in-Some g c = record {
  there = changed-there unread c.args.actor (places_of c.loop.self) (places_of c.take.new.self) c.take.ensures.taken;
  others = changed-gone unread c.args.actor (places_of c.loop.self) (places_of c.take.new.self) c.take.ensures.taken ∙ c.loop.invariant.others;
}

pub invariant_of-self : goal.invariant_of-self
invariant_of-self g c =
    let s = c.take.new.self in
    let there = changed-there unread c.args.actor (places_of c.loop.self) (places_of s) c.take.ensures.taken in
    let empty = still-empty c.args.actor (places_of c.loop.self) (places_of s) c.take.ensures.taken c.in_default.ensures.first in
    record { sound = rw c.remove.ensures (gone-sound s.links.slots _ s.entries s.sound c.args.actor there empty) }

pub returns-clause-gone : goal.returns-clause-gone
returns-clause-gone g c =
    let s = c.take.new.self in
    let there = changed-there unread c.args.actor (places_of c.loop.self) (places_of s) c.take.ensures.taken in
    let empty = still-empty c.args.actor (places_of c.loop.self) (places_of s) c.take.ensures.taken c.in_default.ensures.first in
    ap (places_in s.links.slots) c.remove.ensures
    ∙ gone-places s.links.slots _ s.entries s.sound c.args.actor there empty
    ∙ changed-gone unread c.args.actor (places_of c.loop.self) (places_of s) c.take.ensures.taken
    ∙ c.loop.invariant.others

pub returns-clause-letters : goal.returns-clause-letters
returns-clause-letters g c =
    let s = c.args.self.now in
    left-letters s.links.slots _ s.entries s.sound c.args.actor c.requires (value_at s.entries c.args.actor) c.left-left.result.letters (read-here s.links.slots _ s.entries s.sound c.args.actor c.requires) c.left-left.ensures.letters

pub returns-clause-timer : goal.returns-clause-timer
returns-clause-timer g c =
    let s = c.args.self.now in
    left-timer s.links.slots _ s.entries s.sound c.args.actor c.requires (value_at s.entries c.args.actor) c.left-left.result.timer (read-here s.links.slots _ s.entries s.sound c.args.actor c.requires) c.left-left.ensures.timer

pub left-left-requires : goal.left-left-requires
left-left-requires g c = let s = c.args.self.now in is-there s.links.slots _ s.entries s.sound c.args.actor c.requires

pub remove-requires : goal.remove-requires
remove-requires g c =
    let s = c.take.new.self in
    is-there s.links.slots _ s.entries s.sound c.args.actor (changed-there unread c.args.actor (places_of c.loop.self) (places_of s) c.take.ensures.taken)
