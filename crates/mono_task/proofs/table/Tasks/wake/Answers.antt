use Rattle.std.proofs.Common.{rules, ◌≡◌, length, None, Ok, ap, sym, ◌∙◌, arith}
use Rattle.std.specs.Prelude.{is_some}
use Rattle.std.specs.VecDeque.{deque_len}
use Rattle.mono_model.specs.Table.{value_at, count_of}
use Rattle.mono_model.specs.Tasks as model
use Rattle.mono_task.specs.Entries.{task_of}
use Rattle.mono_task.specs.Invariants.{entries_of}
use Rattle.mono_task.proofs.PlaceTableLemmas.{length_of, found, absent, inside, written, as_many}
use Rattle.mono_task.proofs.WakeLemmas.{idle_room, idle_queues, running_notes, nothing_stays, gone_stays, wake_at, woke_queued, woke_noted, woke_nothing}
use Rattle.mono_task.proofs.table.Tasks.wake.Goals as goal

pub push_back_reserved-requires : goal.push_back_reserved-requires
push_back_reserved-requires g c =
    let there = ap is_some c.value_mut-entry.ensures.value in
    let at = found c.self.inside.entries c.args.task c.value_mut-entry.result.now c.value_mut-entry.ensures.value in
    let within = inside c.self.inside.entries c.args.task there in
    let len : deque_len c.self.inside.queue ≡ length c.self.inside.queue.items = search rules in
    omega (arith, idle_room c.self.inside.queue.items _ (entries_of c.self.inside.entries) c.self.inside.unfinished (count_of c.self.inside.entries) c.self.inside.running c.args.task c.self.invariant c.value_mut-entry.result.now at c.in-Queues.ensures.waking, len)

pub invariant_of-self : goal.invariant_of-self
invariant_of-self g c =
    let there = ap is_some c.value_mut-entry.ensures.value in
    let at = found c.self.inside.entries c.args.task c.value_mut-entry.result.now c.value_mut-entry.ensures.value in
    let within = inside c.self.inside.entries c.args.task there in
    rw (c.push_back_reserved.ensures.items, c.push_back_reserved.ensures.capacity, written c.self.inside.entries c.args.task there c.wake.new.self, as_many c.self.inside.entries c.args.task there c.wake.new.self) (idle_queues c.self.inside.queue.items _ (entries_of c.self.inside.entries) c.self.inside.unfinished (count_of c.self.inside.entries) c.self.inside.running c.args.task c.self.invariant c.self.inside.limit within c.value_mut-entry.result.now c.wake.new.self at c.wake.ensures.entry c.in-Queues.ensures.waking).0

pub invariant_of-self-in-Notes : goal.invariant_of-self-in-Notes
invariant_of-self-in-Notes g c =
    let there = ap is_some c.value_mut-entry.ensures.value in
    let at = found c.self.inside.entries c.args.task c.value_mut-entry.result.now c.value_mut-entry.ensures.value in
    let within = inside c.self.inside.entries c.args.task there in
    rw (written c.self.inside.entries c.args.task there c.wake.new.self, as_many c.self.inside.entries c.args.task there c.wake.new.self) (running_notes c.self.inside.queue.items _ (entries_of c.self.inside.entries) c.self.inside.unfinished (count_of c.self.inside.entries) c.self.inside.running c.args.task c.self.invariant c.self.inside.limit within c.value_mut-entry.result.now c.wake.new.self at c.wake.ensures.entry c.in-Notes.ensures.waking).0

pub invariant_of-self-in-Nothing : goal.invariant_of-self-in-Nothing
invariant_of-self-in-Nothing g c =
    let there = ap is_some c.value_mut-entry.ensures.value in
    let at = found c.self.inside.entries c.args.task c.value_mut-entry.result.now c.value_mut-entry.ensures.value in
    let within = inside c.self.inside.entries c.args.task there in
    rw (written c.self.inside.entries c.args.task there c.wake.new.self, as_many c.self.inside.entries c.args.task there c.wake.new.self) (nothing_stays c.self.inside.queue.items _ (entries_of c.self.inside.entries) c.self.inside.unfinished (count_of c.self.inside.entries) c.self.inside.running c.args.task c.self.invariant c.self.inside.limit within c.value_mut-entry.result.now c.wake.new.self at c.wake.ensures.entry c.in-Nothing.ensures.waking).0

pub returns-in-Queues-clause-after : goal.returns-in-Queues-clause-after
returns-in-Queues-clause-after g c =
    let there = ap is_some c.value_mut-entry.ensures.value in
    let at = found c.self.inside.entries c.args.task c.value_mut-entry.result.now c.value_mut-entry.ensures.value in
    let within = inside c.self.inside.entries c.args.task there in
    rw (← c.self.view_is, c.push_back_reserved.ensures.items, written c.self.inside.entries c.args.task there c.wake.new.self) (ap (λ tasks. record { tasks = tasks; turns = c.self.inside.turns; turn = c.self.inside.running }) ((idle_queues c.self.inside.queue.items _ (entries_of c.self.inside.entries) c.self.inside.unfinished (count_of c.self.inside.entries) c.self.inside.running c.args.task c.self.invariant c.self.inside.limit within c.value_mut-entry.result.now c.wake.new.self at c.wake.ensures.entry c.in-Queues.ensures.waking).1))

pub returns-in-Notes-clause-after : goal.returns-in-Notes-clause-after
returns-in-Notes-clause-after g c =
    let there = ap is_some c.value_mut-entry.ensures.value in
    let at = found c.self.inside.entries c.args.task c.value_mut-entry.result.now c.value_mut-entry.ensures.value in
    let within = inside c.self.inside.entries c.args.task there in
    rw (← c.self.view_is, written c.self.inside.entries c.args.task there c.wake.new.self) (ap (λ tasks. record { tasks = tasks; turns = c.self.inside.turns; turn = c.self.inside.running }) ((running_notes c.self.inside.queue.items _ (entries_of c.self.inside.entries) c.self.inside.unfinished (count_of c.self.inside.entries) c.self.inside.running c.args.task c.self.invariant c.self.inside.limit within c.value_mut-entry.result.now c.wake.new.self at c.wake.ensures.entry c.in-Notes.ensures.waking).1))

pub returns-in-Nothing-clause-after : goal.returns-in-Nothing-clause-after
returns-in-Nothing-clause-after g c =
    let there = ap is_some c.value_mut-entry.ensures.value in
    let at = found c.self.inside.entries c.args.task c.value_mut-entry.result.now c.value_mut-entry.ensures.value in
    let within = inside c.self.inside.entries c.args.task there in
    rw (← c.self.view_is, written c.self.inside.entries c.args.task there c.wake.new.self) (ap (λ tasks. record { tasks = tasks; turns = c.self.inside.turns; turn = c.self.inside.running }) ((nothing_stays c.self.inside.queue.items _ (entries_of c.self.inside.entries) c.self.inside.unfinished (count_of c.self.inside.entries) c.self.inside.running c.args.task c.self.invariant c.self.inside.limit within c.value_mut-entry.result.now c.wake.new.self at c.wake.ensures.entry c.in-Nothing.ensures.waking).1))

pub returns-in-Queues-clause-answer : goal.returns-in-Queues-clause-answer
returns-in-Queues-clause-answer g c =
    let there = ap is_some c.value_mut-entry.ensures.value in
    let at = found c.self.inside.entries c.args.task c.value_mut-entry.result.now c.value_mut-entry.ensures.value in
    let within = inside c.self.inside.entries c.args.task there in
    rw (← c.self.view_is) (sym (wake_at c.self.inside.queue.items (entries_of c.self.inside.entries) c.self.inside.limit c.args.task within ∙ ap (λ e. Ok (model.woke_value (task_of e))) at ∙ ap Ok (woke_queued c.value_mut-entry.result.now c.in-Queues.ensures.waking)))

pub returns-in-Notes-clause-answer : goal.returns-in-Notes-clause-answer
returns-in-Notes-clause-answer g c =
    let there = ap is_some c.value_mut-entry.ensures.value in
    let at = found c.self.inside.entries c.args.task c.value_mut-entry.result.now c.value_mut-entry.ensures.value in
    let within = inside c.self.inside.entries c.args.task there in
    rw (← c.self.view_is) (sym (wake_at c.self.inside.queue.items (entries_of c.self.inside.entries) c.self.inside.limit c.args.task within ∙ ap (λ e. Ok (model.woke_value (task_of e))) at ∙ ap Ok (woke_noted c.value_mut-entry.result.now c.in-Notes.ensures.waking)))

pub returns-in-Nothing-clause-answer : goal.returns-in-Nothing-clause-answer
returns-in-Nothing-clause-answer g c =
    let there = ap is_some c.value_mut-entry.ensures.value in
    let at = found c.self.inside.entries c.args.task c.value_mut-entry.result.now c.value_mut-entry.ensures.value in
    let within = inside c.self.inside.entries c.args.task there in
    rw (← c.self.view_is) (sym (wake_at c.self.inside.queue.items (entries_of c.self.inside.entries) c.self.inside.limit c.args.task within ∙ ap (λ e. Ok (model.woke_value (task_of e))) at ∙ ap Ok (woke_nothing c.value_mut-entry.result.now c.in-Nothing.ensures.waking)))

pub returns-then-is_none-clause-answer : goal.returns-then-is_none-clause-answer
returns-then-is_none-clause-answer g c =
    let none : value_at c.self.inside.entries c.args.task ≡ None = search rules in
    let gone = absent c.self.inside.entries c.args.task none in
    let len = length_of c.self.inside.entries in
    rw (← c.self.view_is) (sym (wake_at c.self.inside.queue.items (entries_of c.self.inside.entries) c.self.inside.limit c.args.task (omega (arith, len, c.len.ensures)) ∙ ap (λ e. Ok (model.woke_value (task_of e))) gone))

pub returns-then-is_none-clause-after : goal.returns-then-is_none-clause-after
returns-then-is_none-clause-after g c =
    let none : value_at c.self.inside.entries c.args.task ≡ None = search rules in
    let gone = absent c.self.inside.entries c.args.task none in
    let len = length_of c.self.inside.entries in
    rw (← c.self.view_is) (ap (λ tasks. record { tasks = tasks; turns = c.self.inside.turns; turn = c.self.inside.running }) (gone_stays c.self.inside.queue.items _ (entries_of c.self.inside.entries) c.self.inside.unfinished (count_of c.self.inside.entries) c.self.inside.running c.args.task c.self.invariant c.self.inside.limit (omega (arith, len, c.len.ensures)) gone))
