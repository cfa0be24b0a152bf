use Rattle.mono_model.specs.Table.{value_at}
use Rattle.mono_actor.specs.Store.{places_of}
use Rattle.std.proofs.Common.{refl}
use Rattle.mono_actor.proofs.ClockStepLemmas.{none-due, none-holds, rings-there, ring-room, ring-holds, rings-first, ring-fewer}
use Rattle.mono_actor.proofs.table.Actors.ring_first.Goals as goal

pub invariant_of-self : goal.invariant_of-self
invariant_of-self g c = let t = c.args.self.now in record { holds = none-holds (places_of t.places) t.timers t.queue.items t.turn t.greatest t.live t.letters _ t.holds t.most_actors t.most_messages c.poll.new.self c.in_err-actor.ensures.polled }

pub returns-in_err-actor-clause-rings : goal.returns-in_err-actor-clause-rings
returns-in_err-actor-clause-rings g c = let t = c.args.self.now in rw c.from_residual.ensures (none-due (places_of t.places) t.timers t.queue.items t.turn t.greatest t.live t.letters _ t.holds t.most_actors t.most_messages c.poll.new.self c.in_err-actor.ensures.polled, refl)

pub ring-requires : goal.ring-requires
ring-requires g c =
    let t = c.args.self.now in
    rings-there (places_of t.places) t.timers t.queue.items t.turn t.greatest t.live t.letters _ t.holds t.most_actors t.most_messages c.poll.new.self c.in_ok-actor.actor c.in_ok-actor.ensures.polled

pub push_back-requires-clause-seat : goal.push_back-requires-clause-seat
push_back-requires-clause-seat g c =
    let t = c.args.self.now in
    let r = c.in_ok-actor.ensures.polled in
    (ring-room (places_of t.places) t.timers t.queue.items t.turn t.greatest t.live t.letters _ t.holds t.most_actors t.most_messages c.poll.new.self c.in_ok-actor.actor r (value_at (places_of t.places) c.in_ok-actor.actor) c.ring.ensures.place refl c.ring.ensures.becomes).0

pub push_back-requires-clause-out : goal.push_back-requires-clause-out
push_back-requires-clause-out g c =
    let t = c.args.self.now in
    let r = c.in_ok-actor.ensures.polled in
    (ring-room (places_of t.places) t.timers t.queue.items t.turn t.greatest t.live t.letters _ t.holds t.most_actors t.most_messages c.poll.new.self c.in_ok-actor.actor r (value_at (places_of t.places) c.in_ok-actor.actor) c.ring.ensures.place refl c.ring.ensures.becomes).1

pub invariant_of-self-2 : goal.invariant_of-self-2
invariant_of-self-2 g c =
    let t = c.args.self.now in
    let r = c.in_ok-actor.ensures.polled in
    record {
      holds = rw (c.push_back.ensures.seats, c.ring.ensures.is)
          (ring-holds (places_of t.places) t.timers t.queue.items t.turn t.greatest t.live t.letters _ t.holds t.most_actors t.most_messages c.poll.new.self c.in_ok-actor.actor r (value_at (places_of t.places) c.in_ok-actor.actor) c.ring.ensures.place refl c.ring.ensures.becomes c.push_back.new.self.items c.requires c.push_back.ensures.items);
    }

pub returns-clause-rings : goal.returns-clause-rings
returns-clause-rings g c =
    let t = c.args.self.now in
    let r = c.in_ok-actor.ensures.polled in
    rw c.ring.ensures.is (rings-first (places_of t.places) t.timers t.queue.items t.turn t.greatest t.live t.letters _ t.holds t.most_actors t.most_messages c.poll.new.self c.in_ok-actor.actor r (value_at (places_of t.places) c.in_ok-actor.actor) c.ring.ensures.place refl c.ring.ensures.becomes c.push_back.new.self.items c.push_back.ensures.items)

pub returns-clause-fewer : goal.returns-clause-fewer
returns-clause-fewer g c =
    let t = c.args.self.now in
    let r = c.in_ok-actor.ensures.polled in
    rw c.ring.ensures.is (ring-fewer (places_of t.places) t.timers t.queue.items t.turn t.greatest t.live t.letters _ t.holds t.most_actors t.most_messages c.poll.new.self c.in_ok-actor.actor r (value_at (places_of t.places) c.in_ok-actor.actor) c.ring.ensures.place refl c.ring.ensures.becomes c.push_back.new.self.items)
