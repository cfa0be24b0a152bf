use Rattle.mono_actor.specs.Store.{places_of}
use Rattle.std.proofs.Common.{◌≡◌, refl, subst}
use Rattle.std.specs.Prelude.{IfSome}
use Rattle.mono_model.specs.Table.{value_at}
use Rattle.mono_actor.specs.Places.{timing_of}
use Rattle.mono_actor.proofs.NewTimeoutLemmas.{timed-after, timed-keeps, timed-clears, timed-rearms}
use Rattle.mono_actor.proofs.table.Actors.timeout.Goals as goal

pub clear-requires : goal.clear-requires
clear-requires g c =
    let t = c.args.self.now in
    let b = c.set_timeout.ensures.becomes.becomes in
    let is = subst (λ v. IfSome v (λ p. c.set_timeout.result ≡ timing_of t.greatest c.args.ms p)) b.was c.set_timeout.ensures.timing in
    (timed-clears (places_of t.places) t.timers t.queue.items t.turn t.greatest t.live t.letters _ t.holds t.most_actors t.most_messages c.args.actor c.args.ms (value_at (places_of t.places) c.args.actor) c.set_timeout.ensures.becomes.place refl b
    c.set_timeout.result c.in-Rearms.timer c.in-Rearms.from c.in-Rearms.to is c.in-Rearms.is).0

pub invariant_of-self : goal.invariant_of-self
invariant_of-self g c =
    let t = c.args.self.now in
    let b = c.set_timeout.ensures.becomes.becomes in
    let is = subst (λ v. IfSome v (λ p. c.set_timeout.result ≡ timing_of t.greatest c.args.ms p)) b.was c.set_timeout.ensures.timing in
    record {
      holds = rw c.set_timeout.ensures.becomes.is (timed-rearms (places_of t.places) t.timers t.queue.items t.turn t.greatest t.live t.letters _ t.holds t.most_actors t.most_messages c.args.actor c.args.ms (value_at (places_of t.places) c.args.actor) c.set_timeout.ensures.becomes.place refl b
          c.set_timeout.result c.in-Rearms.timer c.in-Rearms.from c.in-Rearms.to c.clear.new.self c.set.new.self is c.in-Rearms.is c.clear.ensures c.set.ensures);
    }

pub invariant_of-self-in-Keeps : goal.invariant_of-self-in-Keeps
invariant_of-self-in-Keeps g c =
    let t = c.args.self.now in
    let b = c.set_timeout.ensures.becomes.becomes in
    let is = subst (λ v. IfSome v (λ p. c.set_timeout.result ≡ timing_of t.greatest c.args.ms p)) b.was c.set_timeout.ensures.timing in
    record {
      holds = rw c.set_timeout.ensures.becomes.is (timed-keeps (places_of t.places) t.timers t.queue.items t.turn t.greatest t.live t.letters _ t.holds t.most_actors t.most_messages c.args.actor c.args.ms (value_at (places_of t.places) c.args.actor) c.set_timeout.ensures.becomes.place refl b
          c.set_timeout.result is c.in-Keeps.is);
    }

pub returns-in-Rearms-clause-after : goal.returns-in-Rearms-clause-after
returns-in-Rearms-clause-after g c =
    let t = c.args.self.now in
    rw c.set_timeout.ensures.becomes.is (timed-after (places_of t.places) t.timers t.queue.items t.turn t.greatest t.live t.letters _ t.holds t.most_actors t.most_messages c.args.actor c.args.ms (value_at (places_of t.places) c.args.actor) c.set_timeout.ensures.becomes.place refl c.set_timeout.ensures.becomes.becomes)

pub returns-in-Keeps-clause-after : goal.returns-in-Keeps-clause-after
returns-in-Keeps-clause-after g c =
    let t = c.args.self.now in
    rw c.set_timeout.ensures.becomes.is (timed-after (places_of t.places) t.timers t.queue.items t.turn t.greatest t.live t.letters _ t.holds t.most_actors t.most_messages c.args.actor c.args.ms (value_at (places_of t.places) c.args.actor) c.set_timeout.ensures.becomes.place refl c.set_timeout.ensures.becomes.becomes)
