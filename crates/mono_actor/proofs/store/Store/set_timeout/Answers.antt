use Rattle.std.proofs.Common.{ap, Some}
use Rattle.mono_actor.proofs.StoreLemmas.{is-there, read-value, timed-sound, timed-changes}
use Rattle.mono_actor.proofs.store.Store.set_timeout.Goals as goal

pub value_mut-requires : goal.value_mut-requires
value_mut-requires g c = let s = c.args.self.now in is-there s.links.slots _ s.entries s.sound c.args.actor c.requires

pub invariant_of-self : goal.invariant_of-self
invariant_of-self g c =
    let s = c.args.self.now in
    let e = c.value_mut.result.now in
    record {
      sound = timed-sound s.links.slots _ s.entries s.sound c.args.actor c.requires c.args.now c.args.timeout (Some e) (Some c.set_timeout.new.entry)
          (read-value s.links.slots _ s.entries s.sound c.args.actor c.requires e c.value_mut.ensures.value) (ap Some c.set_timeout.ensures.becomes);
    }

pub returns-clause-becomes : goal.returns-clause-becomes
returns-clause-becomes g c =
    let s = c.args.self.now in
    let e = c.value_mut.result.now in
    timed-changes s.links.slots _ s.entries s.sound c.args.actor c.requires c.args.now c.args.timeout (Some e) (Some c.set_timeout.new.entry)
    (read-value s.links.slots _ s.entries s.sound c.args.actor c.requires e c.value_mut.ensures.value) (ap Some c.set_timeout.ensures.becomes)
