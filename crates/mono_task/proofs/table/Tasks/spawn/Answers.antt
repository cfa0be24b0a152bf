use Rattle.std.proofs.Common.{rules, ◌≡◌, length, ap, sym, ◌∙◌, arith}
use Rattle.std.specs.VecDeque.{deque_len}
use Rattle.mono_model.specs.Table.{count_of}
use Rattle.mono_task.specs.Invariants.{entries_of}
use Rattle.mono_task.proofs.PlaceTableLemmas.{length_of, entered, one_more}
use Rattle.mono_task.proofs.InvariantLemmas.{queue_fits}
use Rattle.mono_task.proofs.SpawnLemmas.{spawn_keeps, spawns_as}
use Rattle.mono_task.proofs.table.Tasks.spawn.Goals as goal

pub enter-requires-clause-few : goal.enter-requires-clause-few
enter-requires-clause-few g c =
    let len : deque_len c.self.inside.queue ≡ length c.self.inside.queue.items = search rules in
    omega (arith, len, queue_fits c.self.inside.queue.items _ (entries_of c.self.inside.entries) c.self.inside.unfinished (count_of c.self.inside.entries) c.self.inside.running c.self.invariant)

pub push_back_reserved-requires : goal.push_back_reserved-requires
push_back_reserved-requires g c =
    let len : deque_len c.enter.new.queue ≡ length c.enter.new.queue.items = search rules in
    omega (arith, len, ap length c.enter.ensures.queued, queue_fits c.self.inside.queue.items _ (entries_of c.self.inside.entries) c.self.inside.unfinished (count_of c.self.inside.entries) c.self.inside.running c.self.invariant, c.in-Ok.ensures.room)

pub invariant_of-self : goal.invariant_of-self
invariant_of-self g c =
    let number : c.len-number.result ≡ length (entries_of c.self.inside.entries) = c.len-number.ensures ∙ sym (length_of c.self.inside.entries) in
    rw (c.push_back_reserved.ensures.items, c.push_back_reserved.ensures.capacity, c.in-Ok.ensures.entered, entered c.self.inside.entries _, one_more c.self.inside.entries _, c.enter.ensures.queued, number)
    (spawn_keeps c.self.inside.queue.items _ (entries_of c.self.inside.entries) c.self.inside.unfinished (count_of c.self.inside.entries) c.self.inside.running c.self.invariant _ c.in-Ok.ensures.room)

pub returns-in-Ok-clause-after : goal.returns-in-Ok-clause-after
returns-in-Ok-clause-after g c =
    let number : c.len-number.result ≡ length (entries_of c.self.inside.entries) = c.len-number.ensures ∙ sym (length_of c.self.inside.entries) in
    rw (← c.self.view_is, c.push_back_reserved.ensures.items, c.in-Ok.ensures.entered, entered c.self.inside.entries _, c.enter.ensures.queued, number)
    (ap (λ tasks. record { tasks = tasks; turns = c.self.inside.turns; turn = c.self.inside.running }) (spawns_as c.self.inside.queue.items _ (entries_of c.self.inside.entries) c.self.inside.unfinished (count_of c.self.inside.entries) c.self.inside.running c.self.invariant _ c.in-Ok.ensures.room c.self.inside.limit))
