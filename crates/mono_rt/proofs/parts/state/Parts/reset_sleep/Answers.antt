use Rattle.std.proofs.Common.{◌≡◌, refl, ap, sym, ◌∙◌, subst, Ok}
use Rattle.mono_model.specs.Ticks.{up}
use Rattle.mono_model.specs.SleepActs as sleep
use Rattle.mono_time.specs.Instants.{nanos_of}
use Rattle.mono_time.specs.Timers.{sleeps_of}
use Rattle.mono_machine.specs.Machine.{Machine}
use Rattle.mono_machine.specs.Acts.{act_outcome}
use Rattle.mono_machine.specs.Acts.{reset as resetting}
use Rattle.mono_machine.specs.SleepCalls.{reset_reply}
use Rattle.mono_machine.specs.declared.events.Act.TheVariants as act
use Rattle.std.proofs.Common.{cond, Err}
use Rattle.std.specs.Prelude.{nat_lt}
use Rattle.mono_model.specs.Ticks.{max_nanos}
use Rattle.mono_model.specs.Table.{value_at}
use Rattle.mono_model.specs.Sleeps.{Sleeps, woken_by_arming}
use Rattle.mono_time.specs.Sleeps.{with_reset_sleep}
use Rattle.mono_time.specs.Refinement.{StandsForSleeps}
use Rattle.mono_machine.specs.Acts.{refused}
use Rattle.mono_machine.specs.declared.events.Refusal.TheVariants as refusal
use Rattle.mono_time.proofs.SleepTableLemmas.{alike_reset, gone, unchanged}
use Rattle.mono_rt.specs.Refinement.{Matches}
use Rattle.mono_time.specs.Registrations.{FollowsAct}
use Rattle.mono_time.proofs.RegistrationLemmas.{registered-reset, registered-reset-act}
use Rattle.mono_machine.specs.declared.events.TurnStep.TheVariants as step
use Rattle.mono_rt.specs.Record.{Record, noted}
use Rattle.mono_rt.specs.Outputs.{KeepsOutputs}
use Rattle.mono_rt.proofs.OutputLemmas.{adds_woken_if_any}
use Rattle.mono_rt.specs.Leads.{by_act}
use Rattle.mono_time.specs.Sleeps.{IsNoneArmedUpTo}
use Rattle.mono_time.proofs.RestLemmas.{rests-reset}
use Rattle.mono_rt.proofs.CallLemmas.{with_all, by_sleeps, gone_on, reset_is, reset_left}
use Rattle.mono_rt.proofs.parts.state.Parts.reset_sleep.Goals as goal

pub returns-in-Ok-clause-leads : goal.returns-in-Ok-clause-leads
returns-in-Ok-clause-leads g c = λ hosting.
    let number = g.O.Outcome.output_number in
    let old = c.args.self.now in
    let s = c.args.sleep in
    let n = c.as_nanos-nanos.result in
    let now = nanos_of c.args.deadline in
    let waker = c.in-Ok.waker in
    let is : n ≡ now = c.as_nanos-nanos.ensures in
    let answer : (m : Machine) → Matches number hosting old m → Ok waker ≡ sleep.reset_answer m.sleeps s now = λ m st. sym c.in-Ok.is ∙ (c.reset.ensures.stands m.sleeps st.sleeps).0 in
    let outcome : (m : Machine) → Matches number hosting old m → act_outcome (act.Reset s n) m ≡ resetting s now m =
    λ m st. ap (λ k. act_outcome (act.Reset s k) m) is ∙ reset_is number hosting m s now waker c.args.deadline.in_range (answer m st) in
    let alike = alike_reset (sleeps_of old.timers) s now in
    let d = with_all number hosting old c.wake_if_any.new.tasks c.reset.new.self c.note-in-Ok.new.self in
    by_act number hosting old d _ _ c.note-in-Ok.ensures
    (λ m st. c.reset_reply-reply.ensures ∙ ap (λ x. reset_reply x (up n)) (c.greatest.ensures ∙ ap (λ x. x.greatest) c.reset.ensures.sleeps ∙ alike.greatest ∙ sym st.sleeps.same_greatest) ∙ ap (λ k. reset_reply m.sleeps.greatest (up k)) is ∙ sym (ap (λ o. o.reply) (outcome m st)))
    (λ m st. subst (λ o. Matches number hosting d o.machine) (sym (outcome m st)) (reset_left number hosting m s now waker old d st c.wake_if_any.ensures (c.reset.ensures.stands m.sleeps st.sleeps).1 (gone_on number hosting old.timers c.reset.new.self _ st.has_gone c.reset.ensures.sleeps alike c.reset.ensures.elapsed) (subst IsNoneArmedUpTo (sym c.reset.ensures.sleeps) (rests-reset (sleeps_of old.timers) s now st.no_due)) (ap (λ x. x.is_enabled) c.reset.ensures.sleeps ∙ alike.is_enabled) refl refl (answer m st)))
    (λ m st. registered-reset-act old.timers c.reset.new.self m s n now (sym is) c.args.deadline.in_range st.sleeps (c.reset.ensures.registered st.no_due))
    refl refl (ap (λ x. x.turn) c.wake_if_any.ensures) (ap (λ x. x.turns) c.wake_if_any.ensures) refl refl
    (subst (λ x. KeepsOutputs old.tasks.tasks x.tasks) (sym c.wake_if_any.ensures) (adds_woken_if_any old.tasks.tasks waker).outputs)

pub returns-in-Err-clause-leads : goal.returns-in-Err-clause-leads
returns-in-Err-clause-leads g c = λ hosting.
    let number = g.O.Outcome.output_number in
    let old = c.args.self.now in
    let s = c.args.sleep in
    let n = c.as_nanos-nanos.result in
    let now = nanos_of c.args.deadline in
    let answer : (m : Sleeps) → StandsForSleeps old.timers m → sleep.reset_answer m s now ≡ Err c.in-Err.error = λ m st. sym (c.reset.ensures.stands m st).0 ∙ c.in-Err.is in
    let outcome : (m : Machine) → Matches number hosting old m → act_outcome (act.Reset s n) m ≡ refused refusal.NoTimer m =
    λ m st. gone (λ value. woken_by_arming value m.sleeps (up now)) m (cond (nat_lt max_nanos n) (refused refusal.Invalid m) (resetting s n m)) (value_at m.sleeps.table s) c.in-Err.error (answer m.sleeps st.sleeps) in
    by_sleeps number hosting old _ _ _ _ (with_reset_sleep (sleeps_of old.timers) s now) (λ x. x) c.note.ensures
    (λ m st. ap (λ o. o.machine) (outcome m st)) (λ m st. sym (ap (λ o. o.reply) (outcome m st)))
    c.reset.ensures.sleeps (alike_reset (sleeps_of old.timers) s now) c.reset.ensures.elapsed
    (λ m st. subst (StandsForSleeps c.reset.new.self) (unchanged (λ value. woken_by_arming value m (up now)) (value_at m.table s) c.in-Err.error m _ (answer m st)) (c.reset.ensures.stands m st).1)
    (rests-reset (sleeps_of old.timers) s now)
    (λ m st. subst (λ x. FollowsAct old.timers c.reset.new.self m.sleeps x) (unchanged (λ value. woken_by_arming value m.sleeps (up now)) (value_at m.sleeps.table s) c.in-Err.error m.sleeps _ (answer m.sleeps st.sleeps))
    (registered-reset old.timers c.reset.new.self m.sleeps st.sleeps s now (c.reset.ensures.registered st.no_due)))

pub returns-in-Ok-clause-kept : goal.returns-in-Ok-clause-kept
returns-in-Ok-clause-kept g c =
    let old = c.args.self.now in
    let s = c.args.sleep in
    let n = c.as_nanos-nanos.result in
    let greatest = (sleeps_of old.timers).greatest in
    let alike = alike_reset (sleeps_of old.timers) s (nanos_of c.args.deadline) in
    let told : c.reset_reply-reply.result ≡ reset_reply greatest (up n) = c.reset_reply-reply.ensures ∙ ap (λ x. reset_reply x (up n)) (c.greatest.ensures ∙ ap (λ x. x.greatest) c.reset.ensures.sleeps ∙ alike.greatest) in
    ap (λ (acts : Record). record old { tasks = c.wake_if_any.new.tasks; timers = c.reset.new.self; acts = acts })
    (c.note-in-Ok.ensures ∙ ap (noted old.acts (step.Act (act.Reset s n))) told ∙ ap (λ k. noted old.acts (step.Act (act.Reset s k)) (reset_reply greatest (up k))) c.as_nanos-nanos.ensures)
