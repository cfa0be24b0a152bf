use Rattle.std.proofs.Common.{rules, sym, ◌∙◌}
use Rattle.mono_stream.proofs.ComeLemmas.{unless_ended_three, wait_all}
use Rattle.mono_stream.proofs.ThenComeLemmas.{none_live, live_here, can_make, live_after, live_still, held_to, made_to, waits_to}
use Rattle.mono_stream.proofs.chains.ThenStream.poll_next.Goals as goal

pub returns-in-Some-clause-given : goal.returns-in-Some-clause-given
returns-in-Some-clause-given g c = held_to g.S.Stream.gives g.Fut.TaskFuture.gives g.F.FnMut c.args.self.now c.in-Some.future (sym c.take.ensures.value ∙ c.in-Some.is) _ _ c.finish-answer.ensures.given

pub f-future-requires : goal.f-future-requires
f-future-requires g c = can_make g.Fut.TaskFuture g.F.FnMut _ _ _ _ _ c.requires.2 (rw (c.in-Ready-Some.is, c.in-Ready-Some.field-0-is) at c.poll_next.ensures.given) tt

pub finish-first-requires : goal.finish-first-requires
finish-first-requires g c = live_here g.Fut.TaskFuture g.F.FnMut _ _ _ _ _ _ _ c.requires.2 (rw (c.in-Ready-Some.is, c.in-Ready-Some.field-0-is) at c.poll_next.ensures.given) tt c.f-future.ensures

pub returns-in-Ready-Some-clause-given : goal.returns-in-Ready-Some-clause-given
returns-in-Ready-Some-clause-given g c =
    made_to g.S.Stream.gives g.Fut.TaskFuture.gives g.F.FnMut c.args.self.now (search rules) c.in-Ready-Some.item _ _ _ (rw (c.in-Ready-Some.is, c.in-Ready-Some.field-0-is) at c.poll_next.ensures.given) c.f-future.ensures _ _ c.finish-first.ensures.given

pub returns-in-Ready-Some-clause-callable : goal.returns-in-Ready-Some-clause-callable
returns-in-Ready-Some-clause-callable g c =
    unless_ended_three _ _ _ _ (rw (c.in-Ready-Some.is, c.in-Ready-Some.field-0-is) at c.poll_next.ensures.callable) c.finish-first.ensures.live (live_after g.Fut.TaskFuture g.F.FnMut _ _ _ _ _ _ _ c.requires.2 (rw (c.in-Ready-Some.is, c.in-Ready-Some.field-0-is) at c.poll_next.ensures.given) c.f-future.ensures)

pub returns-in-Pending-clause-given : goal.returns-in-Pending-clause-given
returns-in-Pending-clause-given g c = waits_to g.S.Stream.gives g.Fut.TaskFuture.gives g.F.FnMut c.args.self.now (search rules) _ c.take.new.self c.take.ensures.after (rw c.in-Pending.is at c.poll_next.ensures.given)

pub returns-in-Pending-clause-callable : goal.returns-in-Pending-clause-callable
returns-in-Pending-clause-callable g c =
    (rw c.in-Pending.is at c.poll_next.ensures.callable, none_live g.Fut.TaskFuture c.take.new.self c.take.ensures.after, live_still g.Fut.TaskFuture g.F.FnMut _ _ _ _ c.requires.2 (wait_all g.S.Stream.gives _ _ (rw c.in-Pending.is at c.poll_next.ensures.given)))
