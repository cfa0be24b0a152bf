use Rattle.std.proofs.Common.{rules, ap, ◌≡◌, Some}
use Rattle.std.specs.Prelude.{Result, Ok, Err, IfErr}
use Rattle.mono_model.specs.Table.{value_at}
use Rattle.mono_actor.specs.Mailboxes.{places_in}
use Rattle.mono_actor.proofs.StoreLemmas.{is-there, read-here, read-value, last-known, few-letters, put-sound, put-changes, receives}
use Rattle.mono_actor.proofs.store.Store.receive.Goals as goal

pub mailbox-mailbox-requires : goal.mailbox-mailbox-requires
mailbox-mailbox-requires g c = let s = c.args.self.now in is-there s.links.slots _ s.entries s.sound c.args.actor c.requires.there

pub put-requires-clause-last : goal.put-requires-clause-last
put-requires-clause-last g c =
    let s = c.args.self.now in
    last-known s.links.slots _ s.entries s.sound c.args.actor c.requires.there (value_at s.entries c.args.actor) c.mailbox-mailbox.result (read-here s.links.slots _ s.entries s.sound c.args.actor c.requires.there) c.mailbox-mailbox.ensures

pub put-requires-clause-few : goal.put-requires-clause-few
put-requires-clause-few g c =
    let s = c.args.self.now in
    few-letters s.links.slots _ s.entries s.sound c.args.actor c.requires.there (value_at s.entries c.args.actor) c.mailbox-mailbox.result (read-here s.links.slots _ s.entries s.sound c.args.actor c.requires.there) c.mailbox-mailbox.ensures c.requires.few

pub value_mut-requires : goal.value_mut-requires
value_mut-requires g c = let s = c.args.self.now in is-there s.links.slots _ s.entries s.sound c.args.actor c.requires.there

pub invariant_of-self-2 : goal.invariant_of-self-2
invariant_of-self-2 g c =
    let s = c.args.self.now in
    let e = c.value_mut.result.now in
    record {
      sound = put-sound s.links.slots _ s.entries s.sound c.args.actor c.requires.there (value_at s.entries c.args.actor) c.mailbox-mailbox.result (read-here s.links.slots _ s.entries s.sound c.args.actor c.requires.there) c.mailbox-mailbox.ensures
          c.put.new.links.slots _ c.args.letter c.in_ok-longer.longer c.in_ok-longer.ensures.put c.in_ok-longer.ensures.len (Some e) (Some c.notify.new.entry)
          (read-value s.links.slots _ s.entries s.sound c.args.actor c.requires.there e c.value_mut.ensures.value) (ap Some c.notify.ensures.becomes);
    }

pub returns-clause-becomes : goal.returns-clause-becomes
returns-clause-becomes g c =
    let s = c.args.self.now in
    let e = c.value_mut.result.now in
    put-changes s.links.slots _ s.entries s.sound c.args.actor c.requires.there (value_at s.entries c.args.actor) c.mailbox-mailbox.result (read-here s.links.slots _ s.entries s.sound c.args.actor c.requires.there) c.mailbox-mailbox.ensures
    c.put.new.links.slots _ c.args.letter c.in_ok-longer.longer c.in_ok-longer.ensures.put c.in_ok-longer.ensures.len (Some e) (Some c.notify.new.entry)
    (read-value s.links.slots _ s.entries s.sound c.args.actor c.requires.there e c.value_mut.ensures.value) (ap Some c.notify.ensures.becomes)

pub returns-clause-receipt : goal.returns-clause-receipt
returns-clause-receipt g c =
    let s = c.args.self.now in
    let e = c.value_mut.result.now in
    receives s.links.slots _ s.entries s.sound c.args.actor c.requires.there e c.notify.result c.value_mut.ensures.value c.notify.ensures.receipt

also : {X E : Type 0} (r : Result X E) (P : E → Type 0) (Q : Type 0) → IfErr r P → Q → IfErr r (λ e. P e × Q)
also (Ok x) P Q is stays = tt
also (Err e) P Q is stays = (is, stays)

pub returns-in_err-longer-clause-refused : goal.returns-in_err-longer-clause-refused
returns-in_err-longer-clause-refused g c =
    let back : IfErr c.from_residual.result (λ b. b ≡ c.args.letter) = search rules in
    also c.from_residual.result (λ b. b ≡ c.args.letter) _ back (ap (λ slots. places_in slots c.args.self.now.entries) c.in_err-longer.ensures.kept)
