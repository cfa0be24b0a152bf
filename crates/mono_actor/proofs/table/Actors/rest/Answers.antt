use Rattle.mono_model.specs.Table.{value_at}
use Rattle.mono_actor.specs.Store.{places_of}
use Rattle.std.proofs.Common.{◌≡◌, refl, subst}
use Rattle.std.specs.Prelude.{IfSome}
use Rattle.mono_actor.specs.Places.{rest_of_turn}
use Rattle.mono_actor.proofs.EndLemmas.{runs-there, rest-room, rest-again, rest-sets, rest-idle}
use Rattle.mono_actor.proofs.table.Actors.rest.Goals as goal

pub push_back-requires-clause-seat : goal.push_back-requires-clause-seat
push_back-requires-clause-seat g c =
    let t = c.args.self.now in
    (rest-room (places_of t.places) t.timers t.queue.items t.turn t.greatest t.live t.letters _ t.holds t.most_actors t.most_messages c.args.me c.requires.runs c.requires.over (value_at (places_of t.places) c.args.me) c.end_turn.ensures.becomes.place refl c.end_turn.ensures.becomes.becomes).0

pub push_back-requires-clause-out : goal.push_back-requires-clause-out
push_back-requires-clause-out g c =
    let t = c.args.self.now in
    (rest-room (places_of t.places) t.timers t.queue.items t.turn t.greatest t.live t.letters _ t.holds t.most_actors t.most_messages c.args.me c.requires.runs c.requires.over (value_at (places_of t.places) c.args.me) c.end_turn.ensures.becomes.place refl c.end_turn.ensures.becomes.becomes).1

pub invariant_of-self : goal.invariant_of-self
invariant_of-self g c =
    let t = c.args.self.now in
    let b = c.end_turn.ensures.becomes.becomes in
    let is = subst (λ v. IfSome v (λ p. c.end_turn.result ≡ rest_of_turn t.greatest p)) b.was c.end_turn.ensures.rest in
    record {
      holds = rw (c.push_back.ensures.seats, c.end_turn.ensures.becomes.is) (rest-again (places_of t.places) t.timers t.queue.items t.turn t.greatest t.live t.letters _ t.holds t.most_actors t.most_messages c.args.me c.requires.runs c.requires.over
          (value_at (places_of t.places) c.args.me) c.end_turn.ensures.becomes.place refl b c.end_turn.result c.push_back.new.self.items is c.in-Again.is c.push_back.ensures.items).0;
    }

pub set-requires-clause-known : goal.set-requires-clause-known
set-requires-clause-known g c =
    let t = c.args.self.now in
    let b = c.end_turn.ensures.becomes.becomes in
    let is = subst (λ v. IfSome v (λ p. c.end_turn.result ≡ rest_of_turn t.greatest p)) b.was c.end_turn.ensures.rest in
    (rest-sets (places_of t.places) t.timers t.queue.items t.turn t.greatest t.live t.letters _ t.holds t.most_actors t.most_messages c.args.me c.requires.runs c.requires.over (value_at (places_of t.places) c.args.me) c.end_turn.ensures.becomes.place refl b c.end_turn.result c.in-Waits.timer c.in-Waits.tick is c.in-Waits.is).0

pub set-requires-clause-out : goal.set-requires-clause-out
set-requires-clause-out g c =
    let t = c.args.self.now in
    let b = c.end_turn.ensures.becomes.becomes in
    let is = subst (λ v. IfSome v (λ p. c.end_turn.result ≡ rest_of_turn t.greatest p)) b.was c.end_turn.ensures.rest in
    (rest-sets (places_of t.places) t.timers t.queue.items t.turn t.greatest t.live t.letters _ t.holds t.most_actors t.most_messages c.args.me c.requires.runs c.requires.over (value_at (places_of t.places) c.args.me) c.end_turn.ensures.becomes.place refl b c.end_turn.result c.in-Waits.timer c.in-Waits.tick is c.in-Waits.is).1

pub invariant_of-self-in-Waits : goal.invariant_of-self-in-Waits
invariant_of-self-in-Waits g c =
    let t = c.args.self.now in
    let b = c.end_turn.ensures.becomes.becomes in
    let is = subst (λ v. IfSome v (λ p. c.end_turn.result ≡ rest_of_turn t.greatest p)) b.was c.end_turn.ensures.rest in
    record {
      holds = rw c.end_turn.ensures.becomes.is (rest-idle (places_of t.places) t.timers t.queue.items t.turn t.greatest t.live t.letters _ t.holds t.most_actors t.most_messages c.args.me c.requires.runs c.requires.over
          (value_at (places_of t.places) c.args.me) c.end_turn.ensures.becomes.place refl b c.end_turn.result c.in-Waits.timer c.in-Waits.tick c.set.new.self is c.in-Waits.is c.set.ensures).0;
    }

pub returns-in-Again-clause-after : goal.returns-in-Again-clause-after
returns-in-Again-clause-after g c =
    let t = c.args.self.now in
    let b = c.end_turn.ensures.becomes.becomes in
    let is = subst (λ v. IfSome v (λ p. c.end_turn.result ≡ rest_of_turn t.greatest p)) b.was c.end_turn.ensures.rest in
    rw c.end_turn.ensures.becomes.is (rest-again (places_of t.places) t.timers t.queue.items t.turn t.greatest t.live t.letters _ t.holds t.most_actors t.most_messages c.args.me c.requires.runs c.requires.over
    (value_at (places_of t.places) c.args.me) c.end_turn.ensures.becomes.place refl b c.end_turn.result c.push_back.new.self.items is c.in-Again.is c.push_back.ensures.items).1

pub returns-in-Waits-clause-after : goal.returns-in-Waits-clause-after
returns-in-Waits-clause-after g c =
    let t = c.args.self.now in
    let b = c.end_turn.ensures.becomes.becomes in
    let is = subst (λ v. IfSome v (λ p. c.end_turn.result ≡ rest_of_turn t.greatest p)) b.was c.end_turn.ensures.rest in
    rw c.end_turn.ensures.becomes.is (rest-idle (places_of t.places) t.timers t.queue.items t.turn t.greatest t.live t.letters _ t.holds t.most_actors t.most_messages c.args.me c.requires.runs c.requires.over
    (value_at (places_of t.places) c.args.me) c.end_turn.ensures.becomes.place refl b c.end_turn.result c.in-Waits.timer c.in-Waits.tick c.set.new.self is c.in-Waits.is c.set.ensures).1

pub end_turn-requires : goal.end_turn-requires
end_turn-requires g c =
    let t = c.args.self.now in
    runs-there (places_of t.places) t.timers t.queue.items t.turn t.greatest t.live t.letters _ t.holds t.most_actors t.most_messages c.args.me c.requires.runs c.requires.over
