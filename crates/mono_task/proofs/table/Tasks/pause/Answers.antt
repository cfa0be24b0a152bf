use Rattle.std.proofs.Common.{rules, ◌≡◌, length, None, refl, ap, sym, ◌∙◌, arith}
use Rattle.std.specs.Prelude.{is_some}
use Rattle.std.specs.VecDeque.{deque_len}
use Rattle.mono_model.specs.Table.{count_of}
use Rattle.mono_task.specs.Entries.{is_running}
use Rattle.mono_task.specs.Invariants.{entries_of}
use Rattle.mono_task.proofs.PlaceTableLemmas.{some_of, found, inside, written, as_many}
use Rattle.mono_task.proofs.PlaceLemmas.{running_at}
use Rattle.mono_task.proofs.TurnEndLemmas.{noted_room, noted_queues, running_rests}
use Rattle.mono_task.proofs.table.Tasks.pause.Goals as goal

pub value_mut-requires : goal.value_mut-requires
value_mut-requires g c =
    let runs = running_at c.self.inside.queue.items (entries_of c.self.inside.entries) c.self.inside.running c.in-Some.task c.self.invariant.stands c.in-Some.is in
    some_of c.self.inside.entries c.in-Some.task is_running refl runs

pub push_back_reserved-requires : goal.push_back_reserved-requires
push_back_reserved-requires g c =
    let runs = running_at c.self.inside.queue.items (entries_of c.self.inside.entries) c.self.inside.running c.in-Some.task c.self.invariant.stands c.in-Some.is in
    let there = ap is_some c.value_mut.ensures.value in
    let at = found c.self.inside.entries c.in-Some.task c.value_mut.result.now c.value_mut.ensures.value in
    let within = inside c.self.inside.entries c.in-Some.task there in
    let len : deque_len c.self.inside.queue ≡ length c.self.inside.queue.items = search rules in
    omega (arith, noted_room c.self.inside.queue.items _ (entries_of c.self.inside.entries) c.self.inside.unfinished (count_of c.self.inside.entries) c.self.inside.running c.in-Some.task c.self.invariant c.value_mut.result.now at (sym c.pause.ensures.noted ∙ c.if-pause.true), len)

pub invariant_of-self : goal.invariant_of-self
invariant_of-self g c =
    let runs = running_at c.self.inside.queue.items (entries_of c.self.inside.entries) c.self.inside.running c.in-Some.task c.self.invariant.stands c.in-Some.is in
    let there = ap is_some c.value_mut.ensures.value in
    let at = found c.self.inside.entries c.in-Some.task c.value_mut.result.now c.value_mut.ensures.value in
    let within = inside c.self.inside.entries c.in-Some.task there in
    rw (c.push_back_reserved.ensures.items, c.push_back_reserved.ensures.capacity, written c.self.inside.entries c.in-Some.task there c.pause.new.self, as_many c.self.inside.entries c.in-Some.task there c.pause.new.self) (noted_queues c.self.inside.queue.items _ (entries_of c.self.inside.entries) c.self.inside.unfinished (count_of c.self.inside.entries) c.self.inside.running c.in-Some.task c.self.invariant c.self.inside.limit within c.in-Some.is c.value_mut.result.now c.pause.new.self at c.pause.ensures.entry (sym c.pause.ensures.noted ∙ c.if-pause.true)).0

pub returns-then-pause-clause-answer : goal.returns-then-pause-clause-answer
returns-then-pause-clause-answer g c =
    let runs = running_at c.self.inside.queue.items (entries_of c.self.inside.entries) c.self.inside.running c.in-Some.task c.self.invariant.stands c.in-Some.is in
    let there = ap is_some c.value_mut.ensures.value in
    let at = found c.self.inside.entries c.in-Some.task c.value_mut.result.now c.value_mut.ensures.value in
    let within = inside c.self.inside.entries c.in-Some.task there in
    rw (← c.self.view_is, c.in-Some.is) (sym (noted_queues c.self.inside.queue.items _ (entries_of c.self.inside.entries) c.self.inside.unfinished (count_of c.self.inside.entries) c.self.inside.running c.in-Some.task c.self.invariant c.self.inside.limit within c.in-Some.is c.value_mut.result.now c.pause.new.self at c.pause.ensures.entry (sym c.pause.ensures.noted ∙ c.if-pause.true)).2)

pub returns-then-pause-clause-after : goal.returns-then-pause-clause-after
returns-then-pause-clause-after g c =
    let runs = running_at c.self.inside.queue.items (entries_of c.self.inside.entries) c.self.inside.running c.in-Some.task c.self.invariant.stands c.in-Some.is in
    let there = ap is_some c.value_mut.ensures.value in
    let at = found c.self.inside.entries c.in-Some.task c.value_mut.result.now c.value_mut.ensures.value in
    let within = inside c.self.inside.entries c.in-Some.task there in
    rw (← c.self.view_is, c.in-Some.is, c.push_back_reserved.ensures.items, written c.self.inside.entries c.in-Some.task there c.pause.new.self) (ap (λ tasks. record { tasks = tasks; turns = c.self.inside.turns; turn = None }) ((noted_queues c.self.inside.queue.items _ (entries_of c.self.inside.entries) c.self.inside.unfinished (count_of c.self.inside.entries) c.self.inside.running c.in-Some.task c.self.invariant c.self.inside.limit within c.in-Some.is c.value_mut.result.now c.pause.new.self at c.pause.ensures.entry (sym c.pause.ensures.noted ∙ c.if-pause.true)).1))

pub invariant_of-self-else-pause : goal.invariant_of-self-else-pause
invariant_of-self-else-pause g c =
    let runs = running_at c.self.inside.queue.items (entries_of c.self.inside.entries) c.self.inside.running c.in-Some.task c.self.invariant.stands c.in-Some.is in
    let there = ap is_some c.value_mut.ensures.value in
    let at = found c.self.inside.entries c.in-Some.task c.value_mut.result.now c.value_mut.ensures.value in
    let within = inside c.self.inside.entries c.in-Some.task there in
    rw (written c.self.inside.entries c.in-Some.task there c.pause.new.self, as_many c.self.inside.entries c.in-Some.task there c.pause.new.self) (running_rests c.self.inside.queue.items _ (entries_of c.self.inside.entries) c.self.inside.unfinished (count_of c.self.inside.entries) c.self.inside.running c.in-Some.task c.self.invariant c.self.inside.limit within c.in-Some.is c.value_mut.result.now c.pause.new.self at (sym (ap is_running at) ∙ runs) c.pause.ensures.entry (sym c.pause.ensures.noted ∙ c.if-pause.false)).0

pub returns-clause-answer : goal.returns-clause-answer
returns-clause-answer g c =
    let runs = running_at c.self.inside.queue.items (entries_of c.self.inside.entries) c.self.inside.running c.in-Some.task c.self.invariant.stands c.in-Some.is in
    let there = ap is_some c.value_mut.ensures.value in
    let at = found c.self.inside.entries c.in-Some.task c.value_mut.result.now c.value_mut.ensures.value in
    let within = inside c.self.inside.entries c.in-Some.task there in
    rw (← c.self.view_is, c.in-Some.is) (sym (running_rests c.self.inside.queue.items _ (entries_of c.self.inside.entries) c.self.inside.unfinished (count_of c.self.inside.entries) c.self.inside.running c.in-Some.task c.self.invariant c.self.inside.limit within c.in-Some.is c.value_mut.result.now c.pause.new.self at (sym (ap is_running at) ∙ runs) c.pause.ensures.entry (sym c.pause.ensures.noted ∙ c.if-pause.false)).2)

pub returns-clause-after : goal.returns-clause-after
returns-clause-after g c =
    let runs = running_at c.self.inside.queue.items (entries_of c.self.inside.entries) c.self.inside.running c.in-Some.task c.self.invariant.stands c.in-Some.is in
    let there = ap is_some c.value_mut.ensures.value in
    let at = found c.self.inside.entries c.in-Some.task c.value_mut.result.now c.value_mut.ensures.value in
    let within = inside c.self.inside.entries c.in-Some.task there in
    rw (← c.self.view_is, c.in-Some.is, written c.self.inside.entries c.in-Some.task there c.pause.new.self) (ap (λ tasks. record { tasks = tasks; turns = c.self.inside.turns; turn = None }) ((running_rests c.self.inside.queue.items _ (entries_of c.self.inside.entries) c.self.inside.unfinished (count_of c.self.inside.entries) c.self.inside.running c.in-Some.task c.self.invariant c.self.inside.limit within c.in-Some.is c.value_mut.result.now c.pause.new.self at (sym (ap is_running at) ∙ runs) c.pause.ensures.entry (sym c.pause.ensures.noted ∙ c.if-pause.false)).1))
