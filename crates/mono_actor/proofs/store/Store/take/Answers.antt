use Rattle.std.proofs.Common.{ap, Some}
use Rattle.mono_model.specs.Table.{value_at}
use Rattle.mono_actor.proofs.StoreLemmas.{is-there, read-here, read-value, first-known, take-sound, take-changes, take-first, none-changes}
use Rattle.mono_actor.proofs.store.Store.take.Goals as goal

pub mailbox-mailbox-requires : goal.mailbox-mailbox-requires
mailbox-mailbox-requires g c = let s = c.args.self.now in is-there s.links.slots _ s.entries s.sound c.args.actor c.requires

pub take-requires : goal.take-requires
take-requires g c =
    let s = c.args.self.now in
    first-known s.links.slots _ s.entries s.sound c.args.actor c.requires (value_at s.entries c.args.actor) c.mailbox-mailbox.result (read-here s.links.slots _ s.entries s.sound c.args.actor c.requires) c.mailbox-mailbox.ensures

pub returns-in_err-taken-clause-taken : goal.returns-in_err-taken-clause-taken
returns-in_err-taken-clause-taken g c =
    let s = c.args.self.now in
    let none = c.in_err-taken.ensures.taken in
    none-changes s.links.slots _ s.entries s.sound c.args.actor c.requires (value_at s.entries c.args.actor) c.mailbox-mailbox.result (read-here s.links.slots _ s.entries s.sound c.args.actor c.requires) c.mailbox-mailbox.ensures none.0 c.take.new.links.slots none.1

pub value_mut-requires : goal.value_mut-requires
value_mut-requires g c = let s = c.args.self.now in is-there s.links.slots _ s.entries s.sound c.args.actor c.requires

pub invariant_of-self-2 : goal.invariant_of-self-2
invariant_of-self-2 g c =
    let s = c.args.self.now in
    let e = c.value_mut.result.now in
    record {
      sound = take-sound s.links.slots _ s.entries s.sound c.args.actor c.requires (value_at s.entries c.args.actor) c.mailbox-mailbox.result (read-here s.links.slots _ s.entries s.sound c.args.actor c.requires) c.mailbox-mailbox.ensures
          c.take.new.links.slots _ c.in_ok-taken.taken.letter c.in_ok-taken.taken.rest c.in_ok-taken.ensures.taken c.in_ok-taken.ensures.len (Some e) (Some c.set_mailbox.new.entry)
          (read-value s.links.slots _ s.entries s.sound c.args.actor c.requires e c.value_mut.ensures.value) (ap Some c.set_mailbox.ensures);
    }

pub returns-clause-taken : goal.returns-clause-taken
returns-clause-taken g c =
    let s = c.args.self.now in
    let e = c.value_mut.result.now in
    take-changes s.links.slots _ s.entries s.sound c.args.actor c.requires (value_at s.entries c.args.actor) c.mailbox-mailbox.result (read-here s.links.slots _ s.entries s.sound c.args.actor c.requires) c.mailbox-mailbox.ensures
    c.take.new.links.slots _ c.in_ok-taken.taken.letter c.in_ok-taken.taken.rest c.in_ok-taken.ensures.taken c.in_ok-taken.ensures.len (Some e) (Some c.set_mailbox.new.entry)
    (read-value s.links.slots _ s.entries s.sound c.args.actor c.requires e c.value_mut.ensures.value) (ap Some c.set_mailbox.ensures)

pub returns-clause-first : goal.returns-clause-first
returns-clause-first g c =
    let s = c.args.self.now in
    let e = c.value_mut.result.now in
    take-first s.links.slots _ s.entries s.sound c.args.actor c.requires (value_at s.entries c.args.actor) c.mailbox-mailbox.result (read-here s.links.slots _ s.entries s.sound c.args.actor c.requires) c.mailbox-mailbox.ensures
    c.take.new.links.slots _ c.in_ok-taken.taken.letter c.in_ok-taken.taken.rest c.in_ok-taken.ensures.taken c.in_ok-taken.ensures.len (Some e) (Some c.set_mailbox.new.entry)
    (read-value s.links.slots _ s.entries s.sound c.args.actor c.requires e c.value_mut.ensures.value) (ap Some c.set_mailbox.ensures)
