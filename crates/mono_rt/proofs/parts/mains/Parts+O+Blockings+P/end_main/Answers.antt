use Rattle.std.proofs.Common.{refl, ap, ◌∙◌, subst}
use Rattle.std.specs.Option.{option_map}
use Rattle.mono_machine.specs.JoinCalls.{drop_reply}
use Rattle.mono_machine.specs.declared.events.Act.TheVariants as act
use Rattle.mono_machine.specs.declared.events.Event.TheVariants as event
use Rattle.mono_machine.specs.declared.events.Reply.TheVariants as reply
use Rattle.mono_machine.specs.declared.events.Report.TheVariants as report
use Rattle.mono_rt.specs.Refinement.{hosting_of}
use Rattle.mono_rt.specs.Journals.{Does, IsStep}
use Rattle.mono_rt.specs.Numbering.{drop_numbered}
use Rattle.mono_rt.specs.Rounds.{IsDrop}
use Rattle.mono_rt.proofs.CallLemmas.{with_all}
use Rattle.mono_rt.proofs.JournalLemmas.{does_stay, does_drop}
use Rattle.mono_rt.proofs.RoundLemmas.{stay_on, does_more, drops_for}
use Rattle.mono_rt.proofs.DriverLemmas.{tells_nothing, tells_one, telling_on}
use Rattle.mono_rt.specs.declared.parts.journals.Entry.TheVariants.{Ran}
use Rattle.mono_rt.proofs.parts.mains.Parts+O+Blockings+P.end_main.Goals as goal

pub returns-in-Ok-clause-dropped : goal.returns-in-Ok-clause-dropped
returns-in-Ok-clause-dropped g c =
    let number = g.O.Outcome.output_number in
    let parts = c.args.self.now in
    let after = with_all number hosting_of parts c.drop_join-answer.new.self parts.timers parts.acts in
    let step = IsStep (event.Act (act.DropJoin c.args.main)) (report.Reply (reply.Dropped (option_map number c.in-Ok.output))) in
    drops_for number c.args.main (option_map number c.in-Ok.output) parts after c.args.journal.now c.push.new.self
    (stay_on number step parts parts after c.args.journal.now c.release.new.self c.push.new.self
    (does_stay number parts parts c.args.journal.now c.release.new.self refl refl refl refl c.release.ensures.history)
    (subst (λ r. Does number (IsStep (event.Act (act.DropJoin c.args.main)) (report.Reply r)) parts after c.release.new.self c.push.new.self) (c.drop_reply_of-reply.ensures ∙ ap (λ a. drop_reply (drop_numbered number a)) c.in-Ok.is)
    (does_drop number parts after c.release.new.self c.push.new.self c.args.main c.drop_reply_of-reply.result c.push.ensures.history
    (c.drop_reply_of-reply.ensures ∙ ap (λ a. drop_reply (drop_numbered number a)) c.drop_join-answer.ensures.answer) c.drop_join-answer.ensures.after refl refl refl)))

pub returns-in-Err-clause-dropped : goal.returns-in-Err-clause-dropped
returns-in-Err-clause-dropped g c =
    let number = g.O.Outcome.output_number in
    let parts = c.args.self.now in
    stay_on number (IsDrop c.args.main) parts parts _ c.args.journal.now c.release.new.self c.push.new.self
    (does_stay number parts parts c.args.journal.now c.release.new.self refl refl refl refl c.release.ensures.history)
    (does_more number _ (IsDrop c.args.main) parts _ c.release.new.self c.push.new.self (λ m new xs zs stm stn is. (c.drop_reply_of-reply.result, is))
    (does_drop number parts _ c.release.new.self c.push.new.self c.args.main c.drop_reply_of-reply.result c.push.ensures.history
    (c.drop_reply_of-reply.ensures ∙ ap (λ a. drop_reply (drop_numbered number a)) c.drop_join-answer.ensures.answer) c.drop_join-answer.ensures.after refl refl refl))

pub returns-in-Ok-clause-told : goal.returns-in-Ok-clause-told
returns-in-Ok-clause-told g c = λ told course. telling_on {j = c.release.new.self} (tells_nothing refl refl c.release.ensures.history)
    (tells_one {a = told} course (Ran (event.Act (act.DropJoin c.args.main)) (report.Reply c.drop_reply_of-reply.result)) refl (_, (course, ((refl, refl), (refl, refl)))) c.push.ensures.history)

pub returns-in-Err-clause-told : goal.returns-in-Err-clause-told
returns-in-Err-clause-told g c = λ told course. telling_on {j = c.release.new.self} (tells_nothing refl refl c.release.ensures.history)
    (tells_one {a = told} course (Ran (event.Act (act.DropJoin c.args.main)) (report.Reply c.drop_reply_of-reply.result)) refl (_, (course, ((refl, refl), (refl, refl)))) c.push.ensures.history)
