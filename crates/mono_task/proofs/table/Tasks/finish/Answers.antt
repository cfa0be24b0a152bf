use Rattle.std.proofs.Common.{Some, refl, ap, sym, ◌∙◌}
use Rattle.std.specs.Prelude.{is_some}
use Rattle.mono_model.specs.Table.{count_of}
use Rattle.mono_task.specs.Entries.{is_running}
use Rattle.mono_task.specs.Invariants.{entries_of}
use Rattle.mono_task.specs.declared.entries.Handle.TheVariants.{Dropped, Kept, Awaited}
use Rattle.mono_task.proofs.PlaceTableLemmas.{some_of, found, inside, written, still_there, as_many, erased, one_less}
use Rattle.mono_task.proofs.PlaceLemmas.{running_at}
use Rattle.mono_task.proofs.TaskEndLemmas.{handle_is_there, one_unfinished, is_gone, gone_keeps, done_keeps, finishes}
use Rattle.mono_task.proofs.table.Tasks.finish.Goals as goal

pub value_mut-requires : goal.value_mut-requires
value_mut-requires g c =
    let runs = running_at c.self.inside.queue.items (entries_of c.self.inside.entries) c.self.inside.running c.in-Some.task c.self.invariant.stands c.in-Some.is in
    some_of c.self.inside.entries c.in-Some.task is_running refl runs

pub unreachable-requires-in-None-complete : goal.unreachable-requires-in-None-complete
unreachable-requires-in-None-complete g c =
    let runs = running_at c.self.inside.queue.items (entries_of c.self.inside.entries) c.self.inside.running c.in-Some.task c.self.invariant.stands c.in-Some.is in
    let there = ap is_some c.value_mut.ensures.value in
    let at = found c.self.inside.entries c.in-Some.task c.value_mut.result.now c.value_mut.ensures.value in
    let within = inside c.self.inside.entries c.in-Some.task there in
    let still = sym (ap is_running at) ∙ runs in
    handle_is_there c.value_mut.result.now still c.in-None-complete.ensures.handle

pub overflow_sub-self : goal.overflow_sub-self
overflow_sub-self g c =
    let runs = running_at c.self.inside.queue.items (entries_of c.self.inside.entries) c.self.inside.running c.in-Some.task c.self.invariant.stands c.in-Some.is in
    let there = ap is_some c.value_mut.ensures.value in
    let at = found c.self.inside.entries c.in-Some.task c.value_mut.result.now c.value_mut.ensures.value in
    let within = inside c.self.inside.entries c.in-Some.task there in
    let still = sym (ap is_running at) ∙ runs in
    one_unfinished c.self.inside.queue.items _ (entries_of c.self.inside.entries) c.self.inside.unfinished (count_of c.self.inside.entries) c.self.inside.running c.in-Some.task c.self.invariant c.self.inside.limit c.value_mut.result.now c.complete.new.self c.in-Some-complete.handle c.args.output within c.in-Some.is at still c.in-Some-complete.ensures.handle c.complete.ensures.entry

pub remove-requires : goal.remove-requires
remove-requires g c =
    let runs = running_at c.self.inside.queue.items (entries_of c.self.inside.entries) c.self.inside.running c.in-Some.task c.self.invariant.stands c.in-Some.is in
    let there = ap is_some c.value_mut.ensures.value in
    let at = found c.self.inside.entries c.in-Some.task c.value_mut.result.now c.value_mut.ensures.value in
    let within = inside c.self.inside.entries c.in-Some.task there in
    let still = sym (ap is_running at) ∙ runs in
    still_there c.self.inside.entries c.in-Some.task there c.complete.new.self

pub invariant_of-self : goal.invariant_of-self
invariant_of-self g c =
    let runs = running_at c.self.inside.queue.items (entries_of c.self.inside.entries) c.self.inside.running c.in-Some.task c.self.invariant.stands c.in-Some.is in
    let there = ap is_some c.value_mut.ensures.value in
    let at = found c.self.inside.entries c.in-Some.task c.value_mut.result.now c.value_mut.ensures.value in
    let within = inside c.self.inside.entries c.in-Some.task there in
    let still = sym (ap is_running at) ∙ runs in
    rw (c.remove.ensures, erased c.self.inside.entries c.in-Some.task there c.complete.new.self (is_gone c.self.inside.queue.items _ (entries_of c.self.inside.entries) c.self.inside.unfinished (count_of c.self.inside.entries) c.self.inside.running c.in-Some.task c.self.invariant c.self.inside.limit c.value_mut.result.now c.complete.new.self Dropped c.args.output within c.in-Some.is at still (ap Some (sym c.in-Dropped.is) ∙ c.in-Some-complete.ensures.handle) c.complete.ensures.entry refl), one_less c.self.inside.entries c.in-Some.task there c.complete.new.self) (gone_keeps c.self.inside.queue.items _ (entries_of c.self.inside.entries) c.self.inside.unfinished (count_of c.self.inside.entries) c.self.inside.running c.in-Some.task c.self.invariant c.self.inside.limit c.value_mut.result.now c.complete.new.self Dropped c.args.output within c.in-Some.is at still (ap Some (sym c.in-Dropped.is) ∙ c.in-Some-complete.ensures.handle) c.complete.ensures.entry refl)

pub invariant_of-self-in-Kept : goal.invariant_of-self-in-Kept
invariant_of-self-in-Kept g c =
    let runs = running_at c.self.inside.queue.items (entries_of c.self.inside.entries) c.self.inside.running c.in-Some.task c.self.invariant.stands c.in-Some.is in
    let there = ap is_some c.value_mut.ensures.value in
    let at = found c.self.inside.entries c.in-Some.task c.value_mut.result.now c.value_mut.ensures.value in
    let within = inside c.self.inside.entries c.in-Some.task there in
    let still = sym (ap is_running at) ∙ runs in
    rw (written c.self.inside.entries c.in-Some.task there c.complete.new.self, as_many c.self.inside.entries c.in-Some.task there c.complete.new.self) (done_keeps c.self.inside.queue.items _ (entries_of c.self.inside.entries) c.self.inside.unfinished (count_of c.self.inside.entries) c.self.inside.running c.in-Some.task c.self.invariant c.self.inside.limit c.value_mut.result.now c.complete.new.self Kept c.args.output within c.in-Some.is at still (ap Some (sym c.in-Kept.is) ∙ c.in-Some-complete.ensures.handle) c.complete.ensures.entry refl)

pub invariant_of-self-in-Awaited : goal.invariant_of-self-in-Awaited
invariant_of-self-in-Awaited g c =
    let runs = running_at c.self.inside.queue.items (entries_of c.self.inside.entries) c.self.inside.running c.in-Some.task c.self.invariant.stands c.in-Some.is in
    let there = ap is_some c.value_mut.ensures.value in
    let at = found c.self.inside.entries c.in-Some.task c.value_mut.result.now c.value_mut.ensures.value in
    let within = inside c.self.inside.entries c.in-Some.task there in
    let still = sym (ap is_running at) ∙ runs in
    rw (written c.self.inside.entries c.in-Some.task there c.complete.new.self, as_many c.self.inside.entries c.in-Some.task there c.complete.new.self) (done_keeps c.self.inside.queue.items _ (entries_of c.self.inside.entries) c.self.inside.unfinished (count_of c.self.inside.entries) c.self.inside.running c.in-Some.task c.self.invariant c.self.inside.limit c.value_mut.result.now c.complete.new.self (Awaited c.in-Awaited.waiter) c.args.output within c.in-Some.is at still (ap Some (sym c.in-Awaited.is) ∙ c.in-Some-complete.ensures.handle) c.complete.ensures.entry refl)

pub returns-in-Dropped : goal.returns-in-Dropped
returns-in-Dropped g c =
    let runs = running_at c.self.inside.queue.items (entries_of c.self.inside.entries) c.self.inside.running c.in-Some.task c.self.invariant.stands c.in-Some.is in
    let there = ap is_some c.value_mut.ensures.value in
    let at = found c.self.inside.entries c.in-Some.task c.value_mut.result.now c.value_mut.ensures.value in
    let within = inside c.self.inside.entries c.in-Some.task there in
    let still = sym (ap is_running at) ∙ runs in
    rw (c.remove.ensures, erased c.self.inside.entries c.in-Some.task there c.complete.new.self (is_gone c.self.inside.queue.items _ (entries_of c.self.inside.entries) c.self.inside.unfinished (count_of c.self.inside.entries) c.self.inside.running c.in-Some.task c.self.invariant c.self.inside.limit c.value_mut.result.now c.complete.new.self Dropped c.args.output within c.in-Some.is at still (ap Some (sym c.in-Dropped.is) ∙ c.in-Some-complete.ensures.handle) c.complete.ensures.entry refl)) (finishes c.self.inside.queue.items _ (entries_of c.self.inside.entries) c.self.inside.unfinished (count_of c.self.inside.entries) c.self.inside.running c.in-Some.task c.self.invariant c.self.inside.limit c.value_mut.result.now c.complete.new.self Dropped c.args.output within c.in-Some.is at still (ap Some (sym c.in-Dropped.is) ∙ c.in-Some-complete.ensures.handle) c.complete.ensures.entry c.args.self.now c.self.inside.turns c.self.view_is)

pub returns-in-Kept : goal.returns-in-Kept
returns-in-Kept g c =
    let runs = running_at c.self.inside.queue.items (entries_of c.self.inside.entries) c.self.inside.running c.in-Some.task c.self.invariant.stands c.in-Some.is in
    let there = ap is_some c.value_mut.ensures.value in
    let at = found c.self.inside.entries c.in-Some.task c.value_mut.result.now c.value_mut.ensures.value in
    let within = inside c.self.inside.entries c.in-Some.task there in
    let still = sym (ap is_running at) ∙ runs in
    rw (written c.self.inside.entries c.in-Some.task there c.complete.new.self) (finishes c.self.inside.queue.items _ (entries_of c.self.inside.entries) c.self.inside.unfinished (count_of c.self.inside.entries) c.self.inside.running c.in-Some.task c.self.invariant c.self.inside.limit c.value_mut.result.now c.complete.new.self Kept c.args.output within c.in-Some.is at still (ap Some (sym c.in-Kept.is) ∙ c.in-Some-complete.ensures.handle) c.complete.ensures.entry c.args.self.now c.self.inside.turns c.self.view_is)

pub returns-in-Awaited : goal.returns-in-Awaited
returns-in-Awaited g c =
    let runs = running_at c.self.inside.queue.items (entries_of c.self.inside.entries) c.self.inside.running c.in-Some.task c.self.invariant.stands c.in-Some.is in
    let there = ap is_some c.value_mut.ensures.value in
    let at = found c.self.inside.entries c.in-Some.task c.value_mut.result.now c.value_mut.ensures.value in
    let within = inside c.self.inside.entries c.in-Some.task there in
    let still = sym (ap is_running at) ∙ runs in
    rw (written c.self.inside.entries c.in-Some.task there c.complete.new.self) (finishes c.self.inside.queue.items _ (entries_of c.self.inside.entries) c.self.inside.unfinished (count_of c.self.inside.entries) c.self.inside.running c.in-Some.task c.self.invariant c.self.inside.limit c.value_mut.result.now c.complete.new.self (Awaited c.in-Awaited.waiter) c.args.output within c.in-Some.is at still (ap Some (sym c.in-Awaited.is) ∙ c.in-Some-complete.ensures.handle) c.complete.ensures.entry c.args.self.now c.self.inside.turns c.self.view_is)
