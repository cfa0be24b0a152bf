use Rattle.std.proofs.Common.{◌≡◌, ◌≤◌, refl, ap, sym, subst, ◌∙◌, Ok}
use Rattle.std.proofs.lemmas.Bool.{false≢true}
use Rattle.std.specs.Duration.{as_nanos}
use Rattle.mono_model.specs.Ticks.{max_nanos}
use Rattle.mono_model.specs.declared.poll.Poll.TheVariants.{Ready}
use Rattle.mono_time.specs.Instants.{nanos_of}
use Rattle.mono_time.specs.MissedTicks.{next_deadline}
use Rattle.mono_time.specs.Sleeps.{sleep_poll_answer}
use Rattle.mono_time.specs.IntervalTicks.{next_of}
use Rattle.mono_time.proofs.IntervalLemmas.{ticks-waits, ticks-invalid, never-refused, tick-fits, tick-sleeps, tick-work}
use Rattle.mono_time.proofs.intervals.Interval.poll_tick.Goals as goal

pub returns-in-Pending-clause-ticks : goal.returns-in-Pending-clause-ticks
returns-in-Pending-clause-ticks g c =
    ticks-waits g.C.Context.number g.C.Context.nanos g.C.TimeContext.sleeps g.C.Context.work c.args.self.now c.args.cx.now c.poll_sleep.new.self
    (sym (c.in_ok-poll_sleep.was ∙ ap Ok c.in-Pending.is) ∙ c.poll_sleep.ensures.answer) c.poll_sleep.ensures.sleeps c.poll_sleep.ensures.work

pub returns-in-None-clause-ticks : goal.returns-in-None-clause-ticks
returns-in-None-clause-ticks g c =
    let i = c.args.self.now in
    let is : c.next_after-next.result ≡ next_of g.C.Context.number g.C.Context.nanos g.C.TimeContext.sleeps g.C.Context.work i c.args.cx.now =
    c.next_after-next.ensures ∙ ap (λ n. next_deadline i.behavior n (as_nanos i.period) c.now.result) c.as_nanos.ensures
    ∙ ap (next_deadline i.behavior (nanos_of i.delay.deadline) (as_nanos i.period)) (c.now.ensures.reading ∙ g.met.C.Context.same_nanos c.args.cx.now c.poll_sleep.new.self c.poll_sleep.ensures.reached) in
    ticks-invalid g.C.Context.number g.C.Context.nanos g.C.TimeContext.sleeps g.C.Context.work i c.args.cx.now c.poll_sleep.new.self c.in-Ready.field-0 (sym (c.in_ok-poll_sleep.was ∙ ap Ok c.in-Ready.is) ∙ c.poll_sleep.ensures.answer)
    c.next_after-next.result is (λ within. false≢true (c.in-None.ensures.variant.1 within)) c.poll_sleep.ensures.sleeps c.poll_sleep.ensures.work

pub returns-in_err-reset-in-Some-clause-ticks : goal.returns-in_err-reset-in-Some-clause-ticks
returns-in_err-reset-in-Some-clause-ticks g c =
    absurd (never-refused g.C.Context.number g.C.Context.nanos g.C.TimeContext.sleeps g.C.Context.work c.args.self.now c.args.cx.now c.reset.new.cx c.in-Ready.field-0 (sym (c.in_ok-poll_sleep.was ∙ ap Ok c.in-Ready.is) ∙ c.poll_sleep.ensures.answer) c.poll_sleep.new.self c.in-Some.deadline c.poll_sleep.ensures.sleeps c.poll_sleep.ensures.work
    _ (sym c.in_err-reset-in-Some.was ∙ c.reset.ensures.answer))

pub returns-in_ok-reset-in-Some-clause-ticks : goal.returns-in_ok-reset-in-Some-clause-ticks
returns-in_ok-reset-in-Some-clause-ticks g c =
    let i = c.args.self.now in
    let is : c.next_after-next.result ≡ next_of g.C.Context.number g.C.Context.nanos g.C.TimeContext.sleeps g.C.Context.work i c.args.cx.now =
    c.next_after-next.ensures ∙ ap (λ n. next_deadline i.behavior n (as_nanos i.period) c.now.result) c.as_nanos.ensures
    ∙ ap (next_deadline i.behavior (nanos_of i.delay.deadline) (as_nanos i.period)) (c.now.ensures.reading ∙ g.met.C.Context.same_nanos c.args.cx.now c.poll_sleep.new.self c.poll_sleep.ensures.reached) in
    let answer : Ok (Ready c.in-Ready.field-0) ≡ sleep_poll_answer (g.C.TimeContext.sleeps c.args.cx.now) i.delay.number = sym (c.in_ok-poll_sleep.was ∙ ap Ok c.in-Ready.is) ∙ c.poll_sleep.ensures.answer in
    let due = c.in-Some.ensures.some ∙ is in (
      rw (sym answer) (record {
        is_deadline = refl;
        within = tick-fits g.C.Context.number g.C.Context.nanos g.C.TimeContext.sleeps g.C.Context.work i c.args.cx.now c.reset.new.cx c.in-Ready.field-0 answer c.poll_sleep.new.self c.in-Some.deadline c.poll_sleep.ensures.sleeps c.poll_sleep.ensures.work due (subst (λ n. n ≤ max_nanos) (sym c.in-Some.ensures.some) (c.in-Some.ensures.variant.0 refl));
        next = ap nanos_of c.in_ok-reset-in-Some.ensures.deadline ∙ due;
        same_number = c.reset.ensures.number;
        same_period = refl;
        same_behavior = refl;
        sleeps_after = tick-sleeps g.C.Context.number g.C.Context.nanos g.C.TimeContext.sleeps g.C.Context.work i c.args.cx.now c.reset.new.cx c.in-Ready.field-0 answer c.poll_sleep.new.self c.in-Some.deadline c.poll_sleep.ensures.sleeps c.poll_sleep.ensures.work due c.reset.ensures.sleeps;
      }),
      tick-work g.C.Context.number g.C.Context.nanos g.C.TimeContext.sleeps g.C.Context.work i c.args.cx.now c.reset.new.cx c.in-Ready.field-0 answer c.poll_sleep.new.self c.in-Some.deadline c.poll_sleep.ensures.sleeps c.poll_sleep.ensures.work c.reset.ensures.work,
    )
