use Rattle.std.proofs.Common.{◌≡◌, ◌-◌, true, refl, ap, sym, subst}
use Rattle.std.specs.Prelude.{IfSome}
use Rattle.mono_model.specs.Table.{value_at}
use Rattle.mono_actor.specs.Actors.{got_in}
use Rattle.mono_actor.specs.Places.{table_of}
use Rattle.mono_actor.specs.QueueInvariants.{is_queued, of_actor}
use Rattle.mono_actor.specs.Store.{places_of}
use Rattle.mono_actor.proofs.ReceiveLemmas.{its-line, of-after, of-holds}
use Rattle.mono_actor.proofs.table.Actors.begin_of.Goals as goal

pub remove-requires : goal.remove-requires
remove-requires g c =
    let t = c.args.self.now in
    let is : of_actor is_queued (value_at (table_of (places_of t.places)) c.args.actor) ≡ true = sym c.if-not-is_queued.ensures in
    its-line (places_of t.places) t.timers t.queue.items t.turn t.greatest t.live t.letters _ t.holds t.most_actors t.most_messages c.args.actor is

pub invariant_of-self : goal.invariant_of-self
invariant_of-self g c =
    let t = c.args.self.now in
    let is : of_actor is_queued (value_at (table_of (places_of t.places)) c.args.actor) ≡ true = sym c.if-not-is_queued.ensures in
    let b = c.begin_turn-got.ensures.becomes.becomes in
    let got = subst (λ v. IfSome v (λ p. c.begin_turn-got.result ≡ got_in p.mailbox)) b.was c.begin_turn-got.ensures.got in
    record {
      holds = rw (c.remove.ensures.items, c.remove.ensures.seats, c.begin_turn-got.ensures.becomes.is) (of-holds (places_of t.places) t.timers t.queue.items t.turn t.greatest t.live t.letters _ t.holds t.most_actors t.most_messages c.args.actor is c.requires
          (value_at (places_of t.places) c.args.actor) c.begin_turn-got.ensures.becomes.place refl b c.begin_turn-got.result got _ (ap (λ n. t.letters - n) c.taken.ensures));
    }

pub returns-clause-after : goal.returns-clause-after
returns-clause-after g c =
    let t = c.args.self.now in
    let is : of_actor is_queued (value_at (table_of (places_of t.places)) c.args.actor) ≡ true = sym c.if-not-is_queued.ensures in
    let b = c.begin_turn-got.ensures.becomes.becomes in
    let got = subst (λ v. IfSome v (λ p. c.begin_turn-got.result ≡ got_in p.mailbox)) b.was c.begin_turn-got.ensures.got in
    rw (c.remove.ensures.items, c.begin_turn-got.ensures.becomes.is) (of-after (places_of t.places) t.timers t.queue.items t.turn t.greatest t.live t.letters _ t.holds t.most_actors t.most_messages c.args.actor is c.requires
    (value_at (places_of t.places) c.args.actor) c.begin_turn-got.ensures.becomes.place refl b c.begin_turn-got.result got)
