use Rattle.std.proofs.Common.{sym, ◌∙◌, refl, ap}
use Rattle.mono_machine.specs.declared.events.End.TheVariants as end
use Rattle.mono_rt.proofs.contexts.Cx.run_turn.Goals as goal

pub returns-in-Ready-clause-runs : goal.returns-in-Ready-clause-runs
returns-in-Ready-clause-runs g c =
    rw (c.in-Some.is, sym c.spent.ensures ∙ c.if-spent.false)
    (record { answer = _; left = _; middle = _; polled = c.poll.ensures.polled; given = c.poll.ensures.given; same = c.poll.ensures.same; reached = c.poll.ensures.reached; rest = rw c.in-Ready.is (_, c.cancel.ensures.cancelled, c.cancel.ensures.reached, c.complete_turn.ensures.completes); is_end = rw c.in-Ready.is (ap end.Ready c.number-number.ensures) })

pub returns-in-Pending-clause-runs : goal.returns-in-Pending-clause-runs
returns-in-Pending-clause-runs g c =
    rw (c.in-Some.is, sym c.spent.ensures ∙ c.if-spent.false)
    (record { answer = _; left = _; middle = _; polled = c.poll.ensures.polled; given = c.poll.ensures.given; same = c.poll.ensures.same; reached = c.poll.ensures.reached; rest = rw c.in-Pending.is c.pause_turn-in-Pending.ensures.pauses; is_end = rw c.in-Pending.is refl })
