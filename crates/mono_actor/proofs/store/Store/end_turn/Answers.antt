use Rattle.std.proofs.Common.{ap, Some}
use Rattle.mono_actor.proofs.StoreLemmas.{is-there, read-value, rested-sound, rested-changes, rests}
use Rattle.mono_actor.proofs.store.Store.end_turn.Goals as goal

pub value_mut-requires : goal.value_mut-requires
value_mut-requires g c = let s = c.args.self.now in is-there s.links.slots _ s.entries s.sound c.args.actor c.requires

pub invariant_of-self : goal.invariant_of-self
invariant_of-self g c =
    let s = c.args.self.now in
    let e = c.value_mut.result.now in
    record {
      sound = rested-sound s.links.slots _ s.entries s.sound c.args.actor c.requires c.args.now (Some e) (Some c.end_turn.new.entry)
          (read-value s.links.slots _ s.entries s.sound c.args.actor c.requires e c.value_mut.ensures.value) (ap Some c.end_turn.ensures.becomes);
    }

pub returns-clause-becomes : goal.returns-clause-becomes
returns-clause-becomes g c =
    let s = c.args.self.now in
    let e = c.value_mut.result.now in
    rested-changes s.links.slots _ s.entries s.sound c.args.actor c.requires c.args.now (Some e) (Some c.end_turn.new.entry)
    (read-value s.links.slots _ s.entries s.sound c.args.actor c.requires e c.value_mut.ensures.value) (ap Some c.end_turn.ensures.becomes)

pub returns-clause-rest : goal.returns-clause-rest
returns-clause-rest g c =
    let s = c.args.self.now in
    let e = c.value_mut.result.now in
    rests s.links.slots _ s.entries s.sound c.args.actor c.requires c.args.now (Some e) c.end_turn.result
    (read-value s.links.slots _ s.entries s.sound c.args.actor c.requires e c.value_mut.ensures.value) c.end_turn.ensures.rest
