use Rattle.std.proofs.Common.{ap, ◌∙◌}
use Rattle.mono_time.specs.Sleeps.{with_removed_sleep}
use Rattle.example_parts.proofs.DelayLemmas.{adds-none-one}
use Rattle.example_parts.proofs.nests.start.pair.Goals as goal

pub returns-in-Ok-clause-waits : goal.returns-in-Ok-clause-waits
returns-in-Ok-clause-waits g c = ((c.in_ok-a.ensures.waits.0, c.in-Ok.ensures.others c.in_ok-a.a c.in_ok-a.ensures.waits.1), c.in-Ok.ensures.waits)

pub returns-in-Ok-clause-others : goal.returns-in-Ok-clause-others
returns-in-Ok-clause-others g c = λ t waits. c.in-Ok.ensures.others t (c.in_ok-a.ensures.others t waits)

pub returns-in-Ok-clause-greatest : goal.returns-in-Ok-clause-greatest
returns-in-Ok-clause-greatest g c = c.in-Ok.ensures.greatest ∙ c.in_ok-a.ensures.greatest

pub returns-in-Ok-clause-only : goal.returns-in-Ok-clause-only
returns-in-Ok-clause-only g c = λ s first second gone. c.in-Ok.ensures.only s second (c.in_ok-a.ensures.only s first gone)

pub returns-in-Err-clause-none : goal.returns-in-Err-clause-none
returns-in-Err-clause-none g c =
    let gives = c.cancel.ensures.cancelled in
    let seen = g.C.TimeContext.sleeps in
    adds-none-one (seen c.args.cx.now) (seen c.limited.new.cx) (seen c.limited-2.new.cx) (seen c.cancel.new.cx) c.in_ok-a.a.delay.number
    c.in_ok-a.ensures.only c.in-Err.ensures.none
    (gives.2.sleeps_after ∙ ap (λ m. with_removed_sleep (seen m) c.in_ok-a.a.delay.number) gives.1)

pub returns-in-Err-clause-work : goal.returns-in-Err-clause-work
returns-in-Err-clause-work g c =
    let gives = c.cancel.ensures.cancelled in
    gives.2.work_after ∙ ap g.C.Context.work gives.1 ∙ c.limited-2.ensures.work ∙ c.limited.ensures.work
