use Rattle.std.proofs.Common.{subst, ◌∙◌, arith}
use Rattle.mono_actor.specs.ClockSteps.{RingsAll}
use Rattle.mono_actor.specs.Callers.{actors_of}
use Rattle.mono_actor.proofs.ClockStepLemmas.{ring-follows, rings-step, rings-done}
use Rattle.mono_actor.proofs.table.Actors.ring_all.Goals as goal

pub loop-actor-preserved : goal.loop-actor-preserved
loop-actor-preserved g c =
    let old = actors_of c.loop-actor.self in
    let mid = actors_of c.ring_first.new.self in
    let rings = c.in-Some.ensures.rings in
    record {
      over = (ring-follows old mid c.in-Some.actor rings).turn ∙ c.loop-actor.invariant.over;
      room = omega (arith, c.loop-actor.invariant.room, c.in-Some.ensures.fewer, c.push_reserved.ensures.len, c.push_reserved.ensures.capacity);
      capacity = c.push_reserved.ensures.capacity ∙ c.loop-actor.invariant.capacity;
      steps = omega (arith, c.in-Some.ensures.steps, c.loop-actor.invariant.steps);
      so_far = λ items new all. c.loop-actor.invariant.so_far items new (rings-step old mid new c.in-Some.actor c.loop-actor.due.items items rings (subst (λ xs. RingsAll mid xs items new) c.push_reserved.ensures.items all));
    }

pub returns-clause-rings : goal.returns-clause-rings
returns-clause-rings g c =
    let last = c.in_default.ensures.rings in
    c.loop-actor.invariant.so_far _ _ (rings-done (actors_of c.loop-actor.self) (actors_of c.ring_first.new.self) c.loop-actor.due.items last.0 last.1)
