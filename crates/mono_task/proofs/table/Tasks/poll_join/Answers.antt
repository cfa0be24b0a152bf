use Rattle.std.proofs.Common.{rules, ◌≡◌, None, ap, sym, ◌∙◌, arith}
use Rattle.std.specs.Prelude.{is_some}
use Rattle.mono_model.specs.Table.{value_at, count_of}
use Rattle.mono_model.specs.Joins.{join_value, kept_value}
use Rattle.mono_task.specs.Entries.{task_of}
use Rattle.mono_task.specs.Invariants.{entries_of}
use Rattle.mono_task.proofs.PlaceTableLemmas.{length_of, found, absent, inside, written, as_many}
use Rattle.mono_task.proofs.PlaceLemmas.{kept_at}
use Rattle.mono_task.proofs.HandleLemmas.{joins, joined_gone}
use Rattle.mono_task.proofs.table.Tasks.poll_join.Goals as goal

pub invariant_of-self : goal.invariant_of-self
invariant_of-self g c =
    let there = ap is_some c.value_mut-entry.ensures.value in
    let at = found c.self.inside.entries c.args.task c.value_mut-entry.result.now c.value_mut-entry.ensures.value in
    let within = inside c.self.inside.entries c.args.task there in
    rw (written c.self.inside.entries c.args.task there c.join.new.self, as_many c.self.inside.entries c.args.task there c.join.new.self) (joins c.self.inside.queue.items _ (entries_of c.self.inside.entries) c.self.inside.unfinished (count_of c.self.inside.entries) c.self.inside.running c.args.task c.self.invariant c.self.inside.limit within c.value_mut-entry.result.now c.join.new.self at c.args.by c.join.ensures.entry).0

pub returns-clause-answer : goal.returns-clause-answer
returns-clause-answer g c =
    let there = ap is_some c.value_mut-entry.ensures.value in
    let at = found c.self.inside.entries c.args.task c.value_mut-entry.result.now c.value_mut-entry.ensures.value in
    let within = inside c.self.inside.entries c.args.task there in
    rw (← c.self.view_is) (c.join.ensures.answer ∙ ap join_value (sym (kept_at c.self.inside.queue.items (entries_of c.self.inside.entries) c.self.inside.limit c.args.task within ∙ ap (λ e. kept_value (task_of e)) at)))

pub returns-clause-after : goal.returns-clause-after
returns-clause-after g c =
    let there = ap is_some c.value_mut-entry.ensures.value in
    let at = found c.self.inside.entries c.args.task c.value_mut-entry.result.now c.value_mut-entry.ensures.value in
    let within = inside c.self.inside.entries c.args.task there in
    rw (← c.self.view_is, written c.self.inside.entries c.args.task there c.join.new.self) (ap (λ tasks. record { tasks = tasks; turns = c.self.inside.turns; turn = c.self.inside.running }) ((joins c.self.inside.queue.items _ (entries_of c.self.inside.entries) c.self.inside.unfinished (count_of c.self.inside.entries) c.self.inside.running c.args.task c.self.invariant c.self.inside.limit within c.value_mut-entry.result.now c.join.new.self at c.args.by c.join.ensures.entry).1))

pub returns-then-is_none-clause-answer : goal.returns-then-is_none-clause-answer
returns-then-is_none-clause-answer g c =
    let none : value_at c.self.inside.entries c.args.task ≡ None = search rules in
    let gone = absent c.self.inside.entries c.args.task none in
    let len = length_of c.self.inside.entries in
    rw (← c.self.view_is) (sym (ap join_value (kept_at c.self.inside.queue.items (entries_of c.self.inside.entries) c.self.inside.limit c.args.task (omega (arith, len, c.len.ensures)) ∙ ap (λ e. kept_value (task_of e)) gone)))

pub returns-then-is_none-clause-after : goal.returns-then-is_none-clause-after
returns-then-is_none-clause-after g c =
    let none : value_at c.self.inside.entries c.args.task ≡ None = search rules in
    let gone = absent c.self.inside.entries c.args.task none in
    let len = length_of c.self.inside.entries in
    rw (← c.self.view_is) (ap (λ tasks. record { tasks = tasks; turns = c.self.inside.turns; turn = c.self.inside.running }) (joined_gone c.self.inside.queue.items (entries_of c.self.inside.entries) c.self.inside.limit c.args.task (omega (arith, len, c.len.ensures)) gone c.args.by))
