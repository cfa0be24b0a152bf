use Rattle.mono_model.specs.Table.{value_at}
use Rattle.mono_actor.specs.Store.{places_of}
use Rattle.std.proofs.Common.{◌≡◌, refl, ap, subst, ◌-◌, arith}
use Rattle.std.specs.Prelude.{IfSome}
use Rattle.mono_actor.specs.Actors.{got_in}
use Rattle.mono_actor.proofs.TurnLemmas.{front-there, taken-least, begun-after, begun-holds}
use Rattle.mono_actor.proofs.table.Actors.begin.Goals as goal

pub begin_turn-got-requires : goal.begin_turn-got-requires
begin_turn-got-requires g c =
    let t = c.args.self.now in
    let there = front-there (places_of t.places) t.timers t.queue.items t.turn t.greatest t.live t.letters _ t.holds t.most_actors t.most_messages c.in-Some.front c.pop_front.new.self.items c.in-Some.ensures.items in
    there

pub overflow_sub-self : goal.overflow_sub-self
overflow_sub-self g c =
    let t = c.args.self.now in
    let there = front-there (places_of t.places) t.timers t.queue.items t.turn t.greatest t.live t.letters _ t.holds t.most_actors t.most_messages c.in-Some.front c.pop_front.new.self.items c.in-Some.ensures.items in
    let b = c.begin_turn-got.ensures.becomes.becomes in
    let got = subst (λ v. IfSome v (λ p. c.begin_turn-got.result ≡ got_in p.mailbox)) b.was c.begin_turn-got.ensures.got in
    let least = taken-least (places_of t.places) t.timers t.queue.items t.turn t.greatest t.live t.letters _ t.holds t.most_actors t.most_messages c.in-Some.front c.pop_front.new.self.items c.in-Some.ensures.items c.requires (value_at (places_of t.places) c.in-Some.front) c.begin_turn-got.ensures.becomes.place refl b c.begin_turn-got.result got in
    omega (arith, least, c.taken.ensures)

pub invariant_of-self-2 : goal.invariant_of-self-2
invariant_of-self-2 g c =
    let t = c.args.self.now in
    let there = front-there (places_of t.places) t.timers t.queue.items t.turn t.greatest t.live t.letters _ t.holds t.most_actors t.most_messages c.in-Some.front c.pop_front.new.self.items c.in-Some.ensures.items in
    let b = c.begin_turn-got.ensures.becomes.becomes in
    let got = subst (λ v. IfSome v (λ p. c.begin_turn-got.result ≡ got_in p.mailbox)) b.was c.begin_turn-got.ensures.got in
    record {
      holds = rw (c.pop_front.ensures.seats, c.begin_turn-got.ensures.becomes.is) (begun-holds (places_of t.places) t.timers t.queue.items t.turn t.greatest t.live t.letters _ t.holds t.most_actors t.most_messages c.in-Some.front c.pop_front.new.self.items c.in-Some.ensures.items c.requires
          (value_at (places_of t.places) c.in-Some.front) c.begin_turn-got.ensures.becomes.place refl b c.begin_turn-got.result got _ (ap (λ n. t.letters - n) c.taken.ensures));
    }

pub returns-clause-after : goal.returns-clause-after
returns-clause-after g c =
    let t = c.args.self.now in
    let there = front-there (places_of t.places) t.timers t.queue.items t.turn t.greatest t.live t.letters _ t.holds t.most_actors t.most_messages c.in-Some.front c.pop_front.new.self.items c.in-Some.ensures.items in
    let b = c.begin_turn-got.ensures.becomes.becomes in
    let got = subst (λ v. IfSome v (λ p. c.begin_turn-got.result ≡ got_in p.mailbox)) b.was c.begin_turn-got.ensures.got in
    rw c.begin_turn-got.ensures.becomes.is (begun-after (places_of t.places) t.timers t.queue.items t.turn t.greatest t.live t.letters _ t.holds t.most_actors t.most_messages c.in-Some.front c.pop_front.new.self.items c.in-Some.ensures.items c.requires
    (value_at (places_of t.places) c.in-Some.front) c.begin_turn-got.ensures.becomes.place refl b c.begin_turn-got.result got)
