use Rattle.std.proofs.Common.{◌≡◌, false, true, refl}
use Rattle.mono_rt.proofs.ClosedTaskLemmas.{closes_on, closes_stays}
use Rattle.mono_rt.proofs.JournalLemmas.{does_stay}
use Rattle.mono_rt.proofs.OutputLemmas.{adds_itself}
use Rattle.mono_rt.proofs.PossibleAnswerLemmas.{no_more_on, no_more_by}
use Rattle.mono_rt.proofs.PollableLemmas.{turn_same}
use Rattle.mono_rt.proofs.FuturePollLemmas.{lasted_main}
use Rattle.mono_rt.proofs.ListedTaskLemmas.{does_listed}
use Rattle.mono_rt.proofs.StrategyLemmas.{same_strategy}
use Rattle.mono_rt.proofs.runtimes.Runtime.run_until.Goals as goal

pub returns-clause-ends : goal.returns-clause-ends
returns-clause-ends g c = rw c.task.ensures at c.run-answer.ensures.ends

pub returns-clause-retired : goal.returns-clause-retired
returns-clause-retired g c = record {
  unknown = closes_on g.O.Outcome.output_number _ _ _ c.args.self.now.cx.parts c.run-answer.new.self.cx.parts c.run-answer.new.self.cx.parts c.args.self.now.journal c.run-answer.new.self.journal c.run-answer.new.self.journal c.run-answer.ensures.went.closes
      (closes_stays g.O.Outcome.output_number _ _ c.retire_ended.ensures.retired c.run-answer.new.self.cx.parts c.run-answer.new.self.cx.parts c.run-answer.new.self.journal c.run-answer.new.self.journal
      (does_stay g.O.Outcome.output_number c.run-answer.new.self.cx.parts c.run-answer.new.self.cx.parts c.run-answer.new.self.journal c.run-answer.new.self.journal refl refl refl refl refl));
  none = c.retire_ended.ensures.none;
}

pub returns-clause-strategy : goal.returns-clause-strategy
returns-clause-strategy g c = same_strategy g.O.Outcome.output_number _ _ _ _ _ c.run-answer.ensures.ends

pub returns-clause-shared : goal.returns-clause-shared
returns-clause-shared g c = c.run-answer.ensures.went.shared

pub returns-clause-polled : goal.returns-clause-polled
returns-clause-polled g c = lasted_main c.run-answer.result _ (λ lasts. c.run-answer.ensures.went.polled true (λ is. lasts))

pub returns-clause-faults : goal.returns-clause-faults
returns-clause-faults g c = c.run-answer.ensures.went.faults

pub returns-clause-told : goal.returns-clause-told
returns-clause-told g c = c.run-answer.ensures.went.told

pub returns-clause-full : goal.returns-clause-full
returns-clause-full g c = c.run-answer.ensures.went.full

pub returns-clause-held : goal.returns-clause-held
returns-clause-held g c = c.run-answer.ensures.went.held

pub returns-clause-rests : goal.returns-clause-rests
returns-clause-rests g c = c.run-answer.ensures.went.rests c.requires.rests

pub returns-clause-turns : goal.returns-clause-turns
returns-clause-turns g c = c.run-answer.ensures.went.turns

pub returns-clause-answers : goal.returns-clause-answers
returns-clause-answers g c =
    let gives = g.F.TaskFuture.gives in
    let ran = c.run-answer.new.self in
    no_more_on gives c.args.self.now.cx ran.cx _ c.run-answer.ensures.went.answers (no_more_by gives ran.cx _ (adds_itself ran.cx.parts.tasks.tasks) refl)

pub returns-clause-callable : goal.returns-clause-callable
returns-clause-callable g c =
    let gives = g.F.TaskFuture.gives in
    let ran = c.run-answer.new.self in
    turn_same g.F.TaskFuture gives ran.cx _ (no_more_by gives ran.cx _ (adds_itself ran.cx.parts.tasks.tasks) refl) refl (c.run-answer.ensures.went.callable c.requires.callable)

false-true : false ≡ true → ⊥
false-true e = cc

pub returns-clause-still_polled : goal.returns-clause-still_polled
returns-clause-still_polled g c = c.run-answer.ensures.went.polled false (λ is. absurd (false-true is))

pub returns-clause-listed : goal.returns-clause-listed
returns-clause-listed g c = does_listed g.O.Outcome.output_number g.W.SharedState g.F.TaskFuture _ false _ _ _ _ _ _ (returns-clause-still_polled g c)
