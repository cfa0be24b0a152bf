use Rattle.mono_model.specs.Table.{value_at}
use Rattle.mono_actor.specs.Store.{places_of}
use Rattle.std.proofs.Common.{◌≡◌, None, refl, length, subst, arith}
use Rattle.std.specs.Prelude.{IfSome}
use Rattle.mono_actor.specs.Timers.{Freed}
use Rattle.mono_actor.proofs.EndLemmas.{some-of, runs-there, gone-frees, gone-seat, gone-after, gone-holds}
use Rattle.mono_actor.proofs.table.Actors.stop.Goals as goal

pub free-requires-clause-known : goal.free-requires-clause-known
free-requires-clause-known g c =
    let t = c.args.self.now in
    let there = runs-there (places_of t.places) t.timers t.queue.items t.turn t.greatest t.live t.letters _ t.holds t.most_actors t.most_messages c.args.me c.requires.runs c.requires.over in
    let p = some-of (value_at (places_of t.places) c.args.me) there in
    let timer = subst (λ v. IfSome v (λ x. c.take_away-gone.result.timer ≡ x.timer)) p.1 c.take_away-gone.ensures.timer in
    rw timer ((gone-frees (places_of t.places) t.timers t.queue.items t.turn t.greatest t.live t.letters _ t.holds t.most_actors t.most_messages c.args.me c.requires.runs c.requires.over p.0 p.1).0)

pub free-requires-clause-out : goal.free-requires-clause-out
free-requires-clause-out g c =
    let t = c.args.self.now in
    let there = runs-there (places_of t.places) t.timers t.queue.items t.turn t.greatest t.live t.letters _ t.holds t.most_actors t.most_messages c.args.me c.requires.runs c.requires.over in
    let p = some-of (value_at (places_of t.places) c.args.me) there in
    let timer = subst (λ v. IfSome v (λ x. c.take_away-gone.result.timer ≡ x.timer)) p.1 c.take_away-gone.ensures.timer in
    rw timer ((gone-frees (places_of t.places) t.timers t.queue.items t.turn t.greatest t.live t.letters _ t.holds t.most_actors t.most_messages c.args.me c.requires.runs c.requires.over p.0 p.1).1)

pub invariant_of-self : goal.invariant_of-self
invariant_of-self g c =
    let t = c.args.self.now in
    let there = runs-there (places_of t.places) t.timers t.queue.items t.turn t.greatest t.live t.letters _ t.holds t.most_actors t.most_messages c.args.me c.requires.runs c.requires.over in
    let p = some-of (value_at (places_of t.places) c.args.me) there in
    let timer = subst (λ v. IfSome v (λ x. c.take_away-gone.result.timer ≡ x.timer)) p.1 c.take_away-gone.ensures.timer in
    let letters = subst (λ v. IfSome v (λ x. c.take_away-gone.result.letters ≡ length x.mailbox)) p.1 c.take_away-gone.ensures.letters in
    let frees = gone-frees (places_of t.places) t.timers t.queue.items t.turn t.greatest t.live t.letters _ t.holds t.most_actors t.most_messages c.args.me c.requires.runs c.requires.over p.0 p.1 in
    let freed : Freed t.timers c.free.new.self p.0.timer = subst (λ k. Freed t.timers c.free.new.self k) timer c.free.ensures in
    record {
      holds = rw (c.take_away-gone.ensures.gone, c.free-2.ensures.items, c.free-2.ensures.seats) (gone-holds (places_of t.places) t.timers t.queue.items t.turn t.greatest t.live t.letters _ t.holds t.most_actors t.most_messages c.args.me c.requires.runs c.requires.over p.0 p.1 None c.free.new.self _ _ refl freed (omega (arith, frees.3)) (omega (arith, frees.2, letters)));
    }

pub returns : goal.returns
returns g c =
    let t = c.args.self.now in
    let there = runs-there (places_of t.places) t.timers t.queue.items t.turn t.greatest t.live t.letters _ t.holds t.most_actors t.most_messages c.args.me c.requires.runs c.requires.over in
    let p = some-of (value_at (places_of t.places) c.args.me) there in
    rw (c.take_away-gone.ensures.gone, c.free-2.ensures.items) (gone-after (places_of t.places) t.timers t.queue.items t.turn t.greatest t.live t.letters _ t.holds t.most_actors t.most_messages c.args.me c.requires.runs c.requires.over p.0 p.1 None refl)

pub take_away-gone-requires : goal.take_away-gone-requires
take_away-gone-requires g c =
    let t = c.args.self.now in
    runs-there (places_of t.places) t.timers t.queue.items t.turn t.greatest t.live t.letters _ t.holds t.most_actors t.most_messages c.args.me c.requires.runs c.requires.over

pub free-requires-2-clause-seat : goal.free-requires-2-clause-seat
free-requires-2-clause-seat g c =
    let t = c.args.self.now in
    let there = runs-there (places_of t.places) t.timers t.queue.items t.turn t.greatest t.live t.letters _ t.holds t.most_actors t.most_messages c.args.me c.requires.runs c.requires.over in
    let p = some-of (value_at (places_of t.places) c.args.me) there in
    (gone-seat (places_of t.places) t.timers t.queue.items t.turn t.greatest t.live t.letters _ t.holds t.most_actors t.most_messages c.args.me c.requires.runs c.requires.over p.0 p.1).0

pub free-requires-2-clause-out : goal.free-requires-2-clause-out
free-requires-2-clause-out g c =
    let t = c.args.self.now in
    let there = runs-there (places_of t.places) t.timers t.queue.items t.turn t.greatest t.live t.letters _ t.holds t.most_actors t.most_messages c.args.me c.requires.runs c.requires.over in
    let p = some-of (value_at (places_of t.places) c.args.me) there in
    (gone-seat (places_of t.places) t.timers t.queue.items t.turn t.greatest t.live t.letters _ t.holds t.most_actors t.most_messages c.args.me c.requires.runs c.requires.over p.0 p.1).1
