use Rattle.std.proofs.Common.{◌≡◌, ◌∷◌, ap, sym, ◌∙◌, subst}
use Rattle.mono_machine.specs.Turns.{turn_report_for, after_turn_for, after_begin}
use Rattle.mono_replay.specs.PartRefinement.{Matches}
use Rattle.mono_machine.proofs.ValidStepLemmas.{begin_valid}
use Rattle.mono_task.proofs.ScheduleLemmas.{front_is}
use Rattle.mono_replay.proofs.MatchLemmas.{begun_matches}
use Rattle.mono_time.specs.Timers.{registered_of}
use Rattle.mono_time.specs.Registrations.{registered_by_turn}
use Rattle.mono_replay.proofs.parts.Parts.turn.Goals as goal

pub returns-in_ok-report-in-Ok-clause-report : goal.returns-in_ok-report-in-Ok-clause-report
returns-in_ok-report-in-Ok-clause-report c = λ m st valid.
    let me = c.in-Ok.me in
    let front = front_is c.args.self.now.tasks.tasks.queue me (sym c.begin_turn.ensures.answer ∙ c.in-Ok.is) in
    let queue : m.tasks.queue ≡ me ∷ front.0 = sym (ap (λ x. x.queue) st.tasks) ∙ front.1 in
    c.in_ok-report-in-Ok.ensures.report (after_begin me front.0 m) (begun_matches c.args.self.now m c.begin_turn.new.self me front.0 st valid queue c.begin_turn.ensures.after)
    ∙ sym (ap (λ q. turn_report_for q c.args.steps.now c.args.end m) queue)

pub returns-in_ok-report-in-Ok-clause-matches : goal.returns-in_ok-report-in-Ok-clause-matches
returns-in_ok-report-in-Ok-clause-matches c = λ m st valid.
    let me = c.in-Ok.me in
    let front = front_is c.args.self.now.tasks.tasks.queue me (sym c.begin_turn.ensures.answer ∙ c.in-Ok.is) in
    let queue : m.tasks.queue ≡ me ∷ front.0 = sym (ap (λ x. x.queue) st.tasks) ∙ front.1 in
    subst (λ q. Matches c.turn_of.new.self (after_turn_for q c.args.steps.now c.args.end m)) (sym queue)
    (c.in_ok-report-in-Ok.ensures.matches (after_begin me front.0 m) (begun_matches c.args.self.now m c.begin_turn.new.self me front.0 st valid queue c.begin_turn.ensures.after) (begin_valid m me front.0 queue valid))

pub returns-in_ok-report-in-Ok-clause-registered : goal.returns-in_ok-report-in-Ok-clause-registered
returns-in_ok-report-in-Ok-clause-registered c = λ m st valid s.
    let me = c.in-Ok.me in
    let front = front_is c.args.self.now.tasks.tasks.queue me (sym c.begin_turn.ensures.answer ∙ c.in-Ok.is) in
    let queue : m.tasks.queue ≡ me ∷ front.0 = sym (ap (λ x. x.queue) st.tasks) ∙ front.1 in
    c.in_ok-report-in-Ok.ensures.registered (after_begin me front.0 m) (begun_matches c.args.self.now m c.begin_turn.new.self me front.0 st valid queue c.begin_turn.ensures.after) (begin_valid m me front.0 queue valid) s
    ∙ sym (ap (λ q. registered_by_turn q c.args.steps.now m s (registered_of c.args.self.now.timers s)) queue)
