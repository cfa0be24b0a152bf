use Rattle.std.proofs.Common.{Some, refl, ap, ◌∙◌}
use Rattle.std.specs.Prelude.{is_some}
use Rattle.mono_model.specs.Table.{count_of}
use Rattle.mono_task.specs.Entries.{is_queued}
use Rattle.mono_task.specs.Schedule.{one_more_turn}
use Rattle.mono_task.specs.Invariants.{entries_of}
use Rattle.mono_task.proofs.PlaceTableLemmas.{some_of, found, inside, written, as_many}
use Rattle.mono_task.proofs.TurnStartLemmas.{begin_queued, begins}
use Rattle.mono_task.proofs.table.Tasks.begin_turn.Goals as goal

pub value_mut-requires : goal.value_mut-requires
value_mut-requires g c =
    let none = ap (λ s. s.turn) c.self.view_is ∙ c.requires in
    some_of c.self.inside.entries c.in-Some.task is_queued refl (begin_queued c.self.inside.queue.items _ (entries_of c.self.inside.entries) c.self.inside.unfinished (count_of c.self.inside.entries) c.self.inside.running c.in-Some.task c.pop_front.new.self.items c.self.invariant none c.in-Some.ensures.items)

pub invariant_of-self-2 : goal.invariant_of-self-2
invariant_of-self-2 g c =
    let none = ap (λ s. s.turn) c.self.view_is ∙ c.requires in
    let there = ap is_some c.value_mut.ensures.value in
    let at = found c.self.inside.entries c.in-Some.task c.value_mut.result.now c.value_mut.ensures.value in
    let within = inside c.self.inside.entries c.in-Some.task there in
    rw (c.pop_front.ensures.capacity, written c.self.inside.entries c.in-Some.task there c.begin.new.self, as_many c.self.inside.entries c.in-Some.task there c.begin.new.self) (begins c.self.inside.queue.items _ (entries_of c.self.inside.entries) c.self.inside.unfinished (count_of c.self.inside.entries) c.self.inside.running c.in-Some.task c.pop_front.new.self.items c.self.invariant none c.in-Some.ensures.items c.self.inside.limit c.value_mut.result.now c.begin.new.self at c.begin.ensures).0

pub returns-clause-after : goal.returns-clause-after
returns-clause-after g c =
    let none = ap (λ s. s.turn) c.self.view_is ∙ c.requires in
    let there = ap is_some c.value_mut.ensures.value in
    let at = found c.self.inside.entries c.in-Some.task c.value_mut.result.now c.value_mut.ensures.value in
    let within = inside c.self.inside.entries c.in-Some.task there in
    rw (← c.self.view_is, c.in-Some.ensures.items, written c.self.inside.entries c.in-Some.task there c.begin.new.self) (rw c.saturating_add-self-inside.ensures (ap (λ tasks. record { tasks = tasks; turns = one_more_turn c.self.inside.turns; turn = Some c.in-Some.task }) ((begins c.self.inside.queue.items _ (entries_of c.self.inside.entries) c.self.inside.unfinished (count_of c.self.inside.entries) c.self.inside.running c.in-Some.task c.pop_front.new.self.items c.self.invariant none c.in-Some.ensures.items c.self.inside.limit c.value_mut.result.now c.begin.new.self at c.begin.ensures).1)))
