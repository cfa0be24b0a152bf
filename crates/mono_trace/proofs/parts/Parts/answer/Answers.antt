use Rattle.std.proofs.Common.{refl, sym, subst, ap, ◌∙◌}
use Rattle.mono_machine.specs.Acts.{act_outcome}
use Rattle.mono_machine.specs.Turns.{turn_report, after_turn}
use Rattle.mono_machine.specs.Steps.{after_remote, after_drain}
use Rattle.mono_trace.specs.Verdicts.{MayAnswer}
use Rattle.mono_trace.proofs.parts.Parts.answer.Goals as goal

pub returns-in_ok-report-in-Act-clause-answer : goal.returns-in_ok-report-in-Act-clause-answer
returns-in_ok-report-in-Act-clause-answer c =
    let m = c.args.self.now.now in
    subst (λ e. MayAnswer m e c.in_ok-report-in-Act.report) (sym c.in-Act.is) ((act_outcome c.in-Act.act m).machine, (c.in_ok-report-in-Act.ensures.answer, refl))

pub returns-in_ok-report-in-Turn-clause-answer : goal.returns-in_ok-report-in-Turn-clause-answer
returns-in_ok-report-in-Turn-clause-answer c =
    let m = c.args.self.now.now in
    subst (λ e. MayAnswer m e c.in_ok-report-in-Turn.report) (sym c.in-Turn.is)
    (after_turn c.in-Turn.steps c.in-Turn.end m, (c.in_ok-report-in-Turn.ensures.answer ∙ ap (λ xs. turn_report xs c.in-Turn.end m) c.as_slice.ensures, refl))

pub returns-in-Remote-clause-answer : goal.returns-in-Remote-clause-answer
returns-in-Remote-clause-answer c =
    let m = c.args.self.now.now in
    subst (λ e. MayAnswer m e c.remote_answer.result) (sym c.in-Remote.is) (after_remote m c.in-Remote.t, (c.remote_answer.ensures, refl))

pub returns-in_ok-report-in-Drain-clause-answer : goal.returns-in_ok-report-in-Drain-clause-answer
returns-in_ok-report-in-Drain-clause-answer c =
    let m = c.args.self.now.now in
    subst (λ e. MayAnswer m e c.in_ok-report-in-Drain.report) (sym c.in-Drain.is) (after_drain m, (c.in_ok-report-in-Drain.ensures, refl))
