use Rattle.std.proofs.Common.{None, [], refl, length, subst}
use Rattle.mono_actor.specs.Store.{places_of}
use Rattle.mono_actor.specs.Timers.{Added}
use Rattle.mono_actor.specs.declared.places.Mode.TheVariants as place
use Rattle.mono_actor.proofs.SpawnLemmas.{stays-hold, entered-after, entered-holds, undone-hold}
use Rattle.mono_actor.proofs.table.Actors.enter.Goals as goal

pub invariant_of-self-in-Break-branch-2 : goal.invariant_of-self-in-Break-branch-2
invariant_of-self-in-Break-branch-2 g c =
    let t = c.args.self.now in
    record {
      holds = rw (c.reserve.ensures.items, c.reserve.ensures.seats) (stays-hold (places_of t.places) t.timers t.queue.items t.turn t.greatest t.live t.letters _ t.holds t.most_actors t.most_messages c.add.new.self c.in_err-timer.ensures.refused);
    }

pub invariant_of-self-in-Ok : goal.invariant_of-self-in-Ok
invariant_of-self-in-Ok g c =
    let t = c.args.self.now in
    let added : Added t.timers c.add.new.self (length (places_of t.places)) c.in_ok-timer.timer = subst (λ n. Added t.timers c.add.new.self n c.in_ok-timer.timer) c.len.ensures c.in_ok-timer.ensures.added in
    record {
      holds = rw (c.in-Ok.ensures.after, c.add-in-Ok.ensures.items, c.add-in-Ok.ensures.seats, c.reserve.ensures.items, c.reserve.ensures.seats)
          (entered-holds (places_of t.places) t.timers t.queue.items t.turn t.greatest t.live t.letters _ t.holds t.most_actors t.most_messages (record { mode = place.Idle None; mailbox = []; timeout = 0; timer = c.in_ok-timer.timer }) refl c.add.new.self added);
    }

pub invariant_of-self-in-Err : goal.invariant_of-self-in-Err
invariant_of-self-in-Err g c =
    let t = c.args.self.now in
    record {
      holds = rw (c.in-Err.ensures.refused, c.reserve.ensures.items, c.reserve.ensures.seats)
          (undone-hold (places_of t.places) t.timers t.queue.items t.turn t.greatest t.live t.letters _ t.holds t.most_actors t.most_messages c.add.new.self c.free.new.self _ c.in_ok-timer.timer c.in_ok-timer.ensures.added c.free.ensures);
    }

pub returns-in-Ok-clause-entered : goal.returns-in-Ok-clause-entered
returns-in-Ok-clause-entered g c =
    let t = c.args.self.now in
    rw (c.in-Ok.ensures.after, c.add-in-Ok.ensures.items, c.reserve.ensures.items)
    (entered-after (places_of t.places) t.timers t.queue.items t.turn t.greatest t.live t.letters _ t.holds t.most_actors t.most_messages (record { mode = place.Idle None; mailbox = []; timeout = 0; timer = c.in_ok-timer.timer }) refl c.requires.room c.requires.number)
