use Rattle.std.proofs.Common.{refl, ap, ◌∙◌}
use Rattle.mono_model.specs.SleepActs as sleep
use Rattle.mono_time.specs.Sleeps.{with_removed_sleep}
use Rattle.mono_time.specs.Timers.{sleeps_of}
use Rattle.mono_machine.specs.SleepCalls.{gone_reply}
use Rattle.mono_time.proofs.SleepTableLemmas.{alike_removed}
use Rattle.mono_time.proofs.RestLemmas.{rests-removed}
use Rattle.mono_time.proofs.RegistrationLemmas.{registered-removed}
use Rattle.mono_rt.proofs.CallLemmas.{by_sleeps}
use Rattle.mono_rt.proofs.parts.state.Parts.drop_sleep.Goals as goal

pub returns-clause-leads : goal.returns-clause-leads
returns-clause-leads g c = λ hosting.
    let old = c.args.self.now in
    let s = c.args.sleep in
    by_sleeps g.O.Outcome.output_number hosting old _ _ _ _ (with_removed_sleep (sleeps_of old.timers) s) (λ x. sleep.removed x s) c.note.ensures (λ m st. refl)
    (λ m st. c.gone_reply.ensures ∙ ap gone_reply (c.remove-answer.ensures.stands m.sleeps st.sleeps).0)
    c.remove-answer.ensures.sleeps (alike_removed (sleeps_of old.timers) s) c.remove-answer.ensures.elapsed (λ m st. (c.remove-answer.ensures.stands m st).1)
    (rests-removed (sleeps_of old.timers) s)
    (λ m st. registered-removed old.timers c.remove-answer.new.self m.sleeps st.sleeps s c.remove-answer.ensures.registered)
