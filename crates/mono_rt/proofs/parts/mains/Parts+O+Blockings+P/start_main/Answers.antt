use Rattle.std.proofs.Common.{ℕ, refl, ap, ◌∙◌, Err}
use Rattle.std.specs.Prelude.{Result}
use Rattle.mono_task.specs.declared.error.SpawnTask.{SpawnTask}
use Rattle.mono_rt.specs.Refinement.{hosting_of}
use Rattle.mono_rt.specs.Rounds.{IsSpawn, IsRefused}
use Rattle.mono_rt.specs.DriverReadings.{going}
use Rattle.mono_rt.proofs.CallLemmas.{had_room, with_all}
use Rattle.mono_rt.proofs.JournalLemmas.{goes_of, goes_nowhere, does_stay, does_spawn, does_full}
use Rattle.mono_rt.proofs.RoundLemmas.{stay_on}
use Rattle.mono_rt.proofs.DriverLemmas.{tells_nothing, tells_one, telling_on}
use Rattle.mono_machine.specs.declared.events.Act.TheVariants as act
use Rattle.mono_machine.specs.declared.events.Event.TheVariants as event
use Rattle.mono_machine.specs.declared.events.Refusal.TheVariants as refusal
use Rattle.mono_machine.specs.declared.events.Reply.TheVariants as reply
use Rattle.mono_machine.specs.declared.events.Report.TheVariants as report
use Rattle.mono_rt.specs.declared.parts.journals.Entry.TheVariants.{Ran}
use Rattle.mono_rt.proofs.parts.mains.Parts+O+Blockings+P.start_main.Goals as goal

abbrev failed : SpawnTask → Result ℕ SpawnTask
failed e = Err e

pub returns-in-Ok-spawn-clause-spawned : goal.returns-in-Ok-spawn-clause-spawned
returns-in-Ok-spawn-clause-spawned g c =
    let number = g.O.Outcome.output_number in
    let old = c.args.self.now in
    let opened = c.reserve.new.self in
    let made = with_all number hosting_of old c.spawn.new.self old.timers old.acts in
    stay_on number (IsSpawn c.in-Ok-spawn.t) old old made c.args.journal.now opened c.push_and_hold.new.self
    (does_stay number old old c.args.journal.now opened refl refl refl refl c.reserve.ensures.history)
    (does_spawn number old made opened c.push_and_hold.new.self c.in-Ok-spawn.t c.push_and_hold.ensures.history
    (had_room c.spawn.result c.in-Ok-spawn.t _ c.in-Ok-spawn.is c.spawn.ensures.full.1) c.in-Ok-spawn.ensures.number c.in-Ok-spawn.ensures.after refl refl refl)

pub returns-in-Ok-spawn-clause-goes : goal.returns-in-Ok-spawn-clause-goes
returns-in-Ok-spawn-clause-goes g c = goes_of g.O.Outcome.output_number (IsSpawn c.in-Ok-spawn.t) c.args.self.now _ c.args.journal.now c.push_and_hold.new.self (returns-in-Ok-spawn-clause-spawned g c)

pub returns-in-Err-AtCapacity-clause-refused : goal.returns-in-Err-AtCapacity-clause-refused
returns-in-Err-AtCapacity-clause-refused g c =
    let number = g.O.Outcome.output_number in
    let old = c.args.self.now in
    let opened = c.reserve.new.self in
    stay_on number IsRefused old old _ c.args.journal.now opened c.push.new.self
    (does_stay number old old c.args.journal.now opened refl refl refl refl c.reserve.ensures.history)
    (does_full number old _ opened c.push.new.self c.push.ensures.history
    (c.spawn.ensures.full.0 (c.in-Err-AtCapacity.is ∙ ap failed c.in-Err-AtCapacity.field-0-is)) (rw c.in-Err-AtCapacity.is at c.spawn.ensures.refused) refl refl refl)

pub returns-in-Err-AtCapacity-clause-goes : goal.returns-in-Err-AtCapacity-clause-goes
returns-in-Err-AtCapacity-clause-goes g c = goes_of g.O.Outcome.output_number IsRefused c.args.self.now _ c.args.journal.now c.push.new.self (returns-in-Err-AtCapacity-clause-refused g c)

pub returns-in-Ok-spawn-clause-told : goal.returns-in-Ok-spawn-clause-told
returns-in-Ok-spawn-clause-told g c = λ told. telling_on {j = c.reserve.new.self} (tells_nothing refl refl c.reserve.ensures.history)
    (tells_one {a = told} going (Ran (event.Act act.Spawn) (report.Reply (reply.Task c.in-Ok-spawn.t))) refl (_, (going, ((refl, refl), (refl, refl)))) c.push_and_hold.ensures.history)

pub returns-in-Err-AtCapacity-clause-told : goal.returns-in-Err-AtCapacity-clause-told
returns-in-Err-AtCapacity-clause-told g c = λ told. telling_on {j = c.reserve.new.self} (tells_nothing refl refl c.reserve.ensures.history)
    (tells_one {a = told} going (Ran (event.Act act.Spawn) (report.Reply (reply.Refused refusal.AtCapacity))) refl (_, (going, ((refl, refl), (refl, refl)))) c.push.ensures.history)

pub returns-in-Err-clause-unmade : goal.returns-in-Err-clause-unmade
returns-in-Err-clause-unmade g c = does_stay g.O.Outcome.output_number c.args.self.now c.args.self.now c.args.journal.now c.reserve.new.self refl refl refl refl c.reserve.ensures.history

pub returns-in-Err-clause-goes : goal.returns-in-Err-clause-goes
returns-in-Err-clause-goes g c = goes_nowhere g.O.Outcome.output_number c.args.self.now c.args.self.now c.args.journal.now c.reserve.new.self refl refl refl refl c.reserve.ensures.history

pub returns-in-Err-clause-told : goal.returns-in-Err-clause-told
returns-in-Err-clause-told g c = λ told. tells_nothing refl refl c.reserve.ensures.history

pub returns-in-Err-Memory-clause-unmade : goal.returns-in-Err-Memory-clause-unmade
returns-in-Err-Memory-clause-unmade g c = does_stay g.O.Outcome.output_number c.args.self.now _ c.args.journal.now c.reserve.new.self (rw c.in-Err-Memory.is at c.spawn.ensures.refused) refl refl refl c.reserve.ensures.history

pub returns-in-Err-Memory-clause-goes : goal.returns-in-Err-Memory-clause-goes
returns-in-Err-Memory-clause-goes g c = goes_nowhere g.O.Outcome.output_number c.args.self.now _ c.args.journal.now c.reserve.new.self (rw c.in-Err-Memory.is at c.spawn.ensures.refused) refl refl refl c.reserve.ensures.history

pub returns-in-Err-Memory-clause-told : goal.returns-in-Err-Memory-clause-told
returns-in-Err-Memory-clause-told g c = λ told. tells_nothing refl refl c.reserve.ensures.history

pub returns-in-Ok-spawn-clause-place : goal.returns-in-Ok-spawn-clause-place
returns-in-Ok-spawn-clause-place g c = had_room c.spawn.result c.in-Ok-spawn.t _ c.in-Ok-spawn.is c.spawn.ensures.full.1

pub returns-in-Err-AtCapacity-clause-place : goal.returns-in-Err-AtCapacity-clause-place
returns-in-Err-AtCapacity-clause-place g c = c.spawn.ensures.full.0 (c.in-Err-AtCapacity.is ∙ ap failed c.in-Err-AtCapacity.field-0-is)
