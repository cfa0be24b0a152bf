use Rattle.std.proofs.Common.{ap, Some}
use Rattle.mono_actor.specs.declared.places.Mode.TheVariants as place
use Rattle.mono_actor.proofs.StoreLemmas.{is-there, read-value, in-mode-sound, in-mode-changes}
use Rattle.mono_actor.proofs.store.Store.ring.Goals as goal

pub value_mut-requires : goal.value_mut-requires
value_mut-requires g c = let s = c.args.self.now in is-there s.links.slots _ s.entries s.sound c.args.actor c.requires

pub invariant_of-self : goal.invariant_of-self
invariant_of-self g c =
    let s = c.args.self.now in
    let e = c.value_mut.result.now in
    record {
      sound = in-mode-sound s.links.slots _ s.entries s.sound c.args.actor c.requires place.Queued (Some e) (Some c.ring.new.entry)
          (read-value s.links.slots _ s.entries s.sound c.args.actor c.requires e c.value_mut.ensures.value) (ap Some c.ring.ensures);
    }

pub returns : goal.returns
returns g c =
    let s = c.args.self.now in
    let e = c.value_mut.result.now in
    in-mode-changes s.links.slots _ s.entries s.sound c.args.actor c.requires place.Queued (Some e) (Some c.ring.new.entry)
    (read-value s.links.slots _ s.entries s.sound c.args.actor c.requires e c.value_mut.ensures.value) (ap Some c.ring.ensures)
