use Rattle.mono_actor.specs.Store.{places_of}
use Rattle.std.proofs.Common.{◌<◌, ◌^◌, inl, inr, refl, arith, rules}
use Rattle.mono_actor.proofs.SpawnLemmas.{refused-answer, last-answer, number-answer, is-granted}
use Rattle.mono_actor.proofs.table.Actors.spawn.Goals as goal

pub returns-then-self-clause-answer : goal.returns-then-self-clause-answer
returns-then-self-clause-answer g c =
    let t = c.args.self.now in
    inl (refused-answer (places_of t.places) t.timers t.queue.items t.turn t.greatest t.live t.letters _ t.holds t.most_actors t.most_messages c.if-self.true)

pub returns-then-number-clause-answer : goal.returns-then-number-clause-answer
returns-then-number-clause-answer g c =
    let t = c.args.self.now in
    inl (last-answer (places_of t.places) t.timers t.queue.items t.turn t.greatest t.live t.letters _ t.holds t.most_actors t.most_messages (omega (arith, c.if-number.true, c.len-number.ensures)) (omega (arith, c.if-number.true, c.len-number.ensures)))

pub enter-requires-clause-number : goal.enter-requires-clause-number
enter-requires-clause-number g c =
    let few : c.len-number.result < 2 ^ 64 = search rules in
    omega (arith, few, c.if-number.false, c.len-number.ensures)

pub returns-in-Ok-clause-answer : goal.returns-in-Ok-clause-answer
returns-in-Ok-clause-answer g c =
    let t = c.args.self.now in
    let few : c.len-number.result < 2 ^ 64 = search rules in
    inl (number-answer (places_of t.places) t.timers t.queue.items t.turn t.greatest t.live t.letters _ t.holds t.most_actors t.most_messages c.if-self.false (omega (arith, few, c.if-number.false, c.len-number.ensures)) c.len-number.result c.len-number.ensures)

pub returns-in-Err-clause-answer : goal.returns-in-Err-clause-answer
returns-in-Err-clause-answer g c =
    let t = c.args.self.now in
    let few : c.len-number.result < 2 ^ 64 = search rules in
    inr (refl, is-granted (places_of t.places) t.timers t.queue.items t.turn t.greatest t.live t.letters _ t.holds t.most_actors t.most_messages c.if-self.false (omega (arith, few, c.if-number.false, c.len-number.ensures)))
