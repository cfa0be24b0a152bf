use Rattle.std.proofs.Common.{refl, ap, sym, subst, ◌∙◌}
use Rattle.mono_model.specs.Tasks.{all_woken}
use Rattle.mono_time.specs.Instants.{nanos_of}
use Rattle.mono_task.specs.Schedule as schedule
use Rattle.mono_machine.specs.declared.events.Event.TheVariants as event
use Rattle.mono_machine.specs.declared.events.Report.TheVariants as report
use Rattle.mono_rt.specs.declared.parts.journals.Entry.TheVariants.{Ran}
use Rattle.mono_rt.specs.Rounds.{IsClock}
use Rattle.mono_rt.specs.Outputs.{AddsNone}
use Rattle.mono_rt.proofs.OutputLemmas.{adds_itself, adds_all_woken}
use Rattle.mono_rt.proofs.JournalLemmas.{goes_nowhere, goes_of, does_stay, does_clock}
use Rattle.mono_rt.proofs.RoundLemmas.{stay_on, does_more}
use Rattle.mono_rt.proofs.DriverLemmas.{tells_nothing, tells_one, telling_on, read_at, same_told}
use Rattle.mono_rt.proofs.parts.clock_steps.Parts+O+Blockings+P.clock_step.Goals as goal

pub returns-clause-clocked : goal.returns-clause-clocked
returns-clause-clocked g c =
    let number = g.O.Outcome.output_number in
    let parts = c.args.self.now in
    let opened = c.open_clock.new.journal in
    let due = c.take_due-due.result in
    let tasks = c.wake_all.ensures in
    stay_on number IsClock parts parts _ c.args.journal.now opened c.push_fires.new.self
    (does_stay number parts parts c.args.journal.now opened refl refl refl refl c.open_clock.ensures.history)
    (does_more number _ IsClock parts _ opened c.push_fires.new.self (λ m new xs zs stm stn is. (c.as_nanos.result, (due.fired.items, is))) (does_clock number parts _ opened c.push_fires.new.self c.as_nanos.result (nanos_of c.in-Some.now) due.fired.items due.wakers.items c.as_nanos.ensures c.in-Some.now.in_range
    c.push_fires.ensures.history
    c.requires c.take_due-due.ensures.fires c.take_due-due.ensures.wakers c.take_due-due.ensures.has_gone c.take_due-due.ensures.rests c.take_due-due.ensures.registered
    (tasks ∙ ap (λ ws. schedule.with_tasks parts.tasks (all_woken parts.tasks.tasks ws)) c.deref.ensures.value) refl refl))

pub returns-clause-goes : goal.returns-clause-goes
returns-clause-goes g c = goes_of g.O.Outcome.output_number IsClock c.args.self.now _ c.args.journal.now c.push_fires.new.self (returns-clause-clocked g c)

pub returns-in_default-clause-goes : goal.returns-in_default-clause-goes
returns-in_default-clause-goes g c =
    goes_nowhere g.O.Outcome.output_number c.args.self.now c.args.self.now c.args.journal.now c.open_clock.new.journal refl refl refl refl c.open_clock.ensures.history

pub returns-clause-told : goal.returns-clause-told
returns-clause-told g c = λ course.
    telling_on {j = c.open_clock.new.journal} (tells_nothing refl refl c.open_clock.ensures.history)
    (tells_one course (Ran (event.Clock c.as_nanos.result) (report.Fired c.take_due-due.result.fired.items)) refl (_, (course, ((read_at c.as_nanos.result (nanos_of c.in-Some.now) c.as_nanos.ensures c.in-Some.ensures.read, refl), (refl, refl)))) c.push_fires.ensures.history)

pub returns-in_default-clause-undone : goal.returns-in_default-clause-undone
returns-in_default-clause-undone g c =
    does_stay g.O.Outcome.output_number c.args.self.now c.args.self.now c.args.journal.now c.open_clock.new.journal refl refl refl refl c.open_clock.ensures.history

pub returns-in_default-clause-told : goal.returns-in_default-clause-told
returns-in_default-clause-told g c = λ course. tells_nothing refl (same_told g.D.Clock.readings g.D.Clock.time g.D.Clock.parks g.D.Clock.submits g.D.Clock.faults g.D.Clock.can_fail c.in_default.ensures.unread) c.open_clock.ensures.history

pub returns-clause-adds : goal.returns-clause-adds
returns-clause-adds g c =
    let old = c.args.self.now in
    subst (λ x. AddsNone old.tasks.tasks x.tasks) (sym c.wake_all.ensures) (adds_all_woken old.tasks.tasks c.deref.result.now)

pub returns-in_default-clause-adds : goal.returns-in_default-clause-adds
returns-in_default-clause-adds g c = adds_itself c.args.self.now.tasks.tasks
