use Rattle.std.proofs.Common.{sym, ◌∙◌, ap, ◌++◌, subst, append-nil}
use Rattle.mono_machine.specs.Turns.{replies_of, after_steps}
use Rattle.mono_replay.specs.PartRefinement.{Matches}
use Rattle.mono_machine.proofs.RunLemmas.{replies_more, after_more, nothing_left}
use Rattle.mono_time.specs.Timers.{registered_of}
use Rattle.mono_machine.proofs.ValidActLemmas.{step_valid}
use Rattle.mono_time.specs.Registrations.{registered_by_steps}
use Rattle.mono_time.proofs.SleepTableLemmas.{none_armed}
use Rattle.mono_time.proofs.RegistrationLemmas.{steps-more}
use Rattle.mono_replay.proofs.parts.Parts.steps.Goals as goal

pub loop-step-preserved : goal.loop-step-preserved
loop-step-preserved c = (
  c.step.ensures.turn ∙ c.loop-step.invariant.0,
  λ m st.
      let before = c.loop-step.invariant.1 m st in
      let next = c.in_ok-reply.ensures in (
        _,
        next.matches before.0 before.1,
        replies_more c.args.me c.args.steps.now c.loop-step.step-index _ c.loop-step.replies c.push.new.self _ c.in_ok-reply.reply before.0 c.loop-step-test.true c.in_ok-push.ensures.ok (next.reply before.0 before.1) before.2,
        after_more c.args.me c.args.steps.now c.loop-step.step-index _ _ before.0 c.loop-step-test.true before.3,
      ),
  λ m st valid.
      let before = c.loop-step.invariant.2 m st valid in
      let next = c.in_ok-reply.ensures in
      let timers = c.loop-step.self.timers in
      let none = none_armed timers _ before.0.sleeps before.1.sleeps.keeps.stands before.2.sleeps in (
        _,
        next.matches before.0 before.1,
        step_valid c.args.me before.0 before.2 _,
        λ s. steps-more c.args.me c.args.steps.now c.loop-step.step-index _ before.0 s _ _ _ c.loop-step-test.true (next.registered before.0 before.1 none s) (before.3 s),
      ),
)

pub returns-clause-replies : goal.returns-clause-replies
returns-clause-replies c = λ m st.
    let before = c.loop-step.invariant.1 m st in
    sym (append-nil c.loop-step.replies) ∙ ap (λ xs. c.loop-step.replies ++ replies_of c.args.me xs before.0) (sym (nothing_left c.args.steps.now c.loop-step.step-index c.loop-step-test.false)) ∙ before.2

pub returns-clause-matches : goal.returns-clause-matches
returns-clause-matches c = λ m st.
    let before = c.loop-step.invariant.1 m st in
    subst (Matches c.loop-step.self) (ap (λ xs. after_steps c.args.me xs before.0) (sym (nothing_left c.args.steps.now c.loop-step.step-index c.loop-step-test.false)) ∙ before.3) before.1

pub returns-clause-registered : goal.returns-clause-registered
returns-clause-registered c = λ m st valid s.
    let before = c.loop-step.invariant.2 m st valid in
    ap (λ xs. registered_by_steps c.args.me xs before.0 s (registered_of c.loop-step.self.timers s)) (sym (nothing_left c.args.steps.now c.loop-step.step-index c.loop-step-test.false)) ∙ before.3 s
