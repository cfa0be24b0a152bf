use Rattle.std.proofs.Common.{refl, ap, ◌∙◌}
use Rattle.mono_model.specs.SleepActs as sleep
use Rattle.mono_time.specs.Sleeps.{with_polled_sleep}
use Rattle.mono_time.specs.Timers.{sleeps_of}
use Rattle.mono_machine.specs.SleepCalls.{poll_reply}
use Rattle.mono_time.proofs.SleepTableLemmas.{alike_polled}
use Rattle.mono_time.proofs.RestLemmas.{rests-polled}
use Rattle.mono_time.proofs.RegistrationLemmas.{registered-polled}
use Rattle.mono_rt.proofs.CallLemmas.{by_sleeps}
use Rattle.mono_rt.proofs.parts.state.Parts.poll_sleep.Goals as goal

pub returns-clause-leads : goal.returns-clause-leads
returns-clause-leads g c = λ hosting.
    let old = c.args.self.now in
    let s = c.args.sleep in
    by_sleeps g.O.Outcome.output_number hosting old _ _ _ _ (with_polled_sleep (sleeps_of old.timers) s old.me) (λ x. sleep.polled x s old.me) c.note.ensures (λ m st. refl)
    (λ m st. c.poll_reply.ensures ∙ ap poll_reply (c.poll-answer.ensures.stands m.sleeps st.sleeps).0)
    c.poll-answer.ensures.sleeps (alike_polled (sleeps_of old.timers) s old.me) c.poll-answer.ensures.elapsed (λ m st. (c.poll-answer.ensures.stands m st).1)
    (rests-polled (sleeps_of old.timers) s old.me)
    (λ m st. registered-polled old.timers c.poll-answer.new.self m.sleeps st.sleeps s old.me c.poll-answer.ensures.registered)
