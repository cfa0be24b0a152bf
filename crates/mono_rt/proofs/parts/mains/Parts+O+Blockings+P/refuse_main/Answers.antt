use Rattle.std.proofs.Common.{refl}
use Rattle.mono_rt.specs.DriverReadings.{going}
use Rattle.mono_rt.proofs.JournalLemmas.{does_stay, does_full}
use Rattle.mono_rt.proofs.DriverLemmas.{tells_nothing, tells_one}
use Rattle.mono_machine.specs.declared.events.Act.TheVariants as act
use Rattle.mono_machine.specs.declared.events.Event.TheVariants as event
use Rattle.mono_machine.specs.declared.events.Refusal.TheVariants as refusal
use Rattle.mono_machine.specs.declared.events.Reply.TheVariants as reply
use Rattle.mono_machine.specs.declared.events.Report.TheVariants as report
use Rattle.mono_rt.specs.declared.parts.journals.Entry.TheVariants.{Ran}
use Rattle.mono_rt.proofs.parts.mains.Parts+O+Blockings+P.refuse_main.Goals as goal

pub returns-in-Ok-clause-refused : goal.returns-in-Ok-clause-refused
returns-in-Ok-clause-refused g c = does_full g.O.Outcome.output_number c.args.self.now c.args.self.now c.args.journal.now c.add-added.new.self c.in-Ok.ensures.history c.requires refl refl refl refl

pub returns-in-Err-clause-unmade : goal.returns-in-Err-clause-unmade
returns-in-Err-clause-unmade g c = does_stay g.O.Outcome.output_number c.args.self.now c.args.self.now c.args.journal.now c.add-added.new.self refl refl refl refl c.in-Err.ensures.same

pub returns-in-Err-clause-told : goal.returns-in-Err-clause-told
returns-in-Err-clause-told g c = λ told. tells_nothing refl refl c.in-Err.ensures.same

pub returns-in-Ok-clause-told : goal.returns-in-Ok-clause-told
returns-in-Ok-clause-told g c = λ told. tells_one {a = told} going (Ran (event.Act act.Spawn) (report.Reply (reply.Refused refusal.AtCapacity))) refl (_, (going, ((refl, refl), (refl, refl)))) c.in-Ok.ensures.history
