use Rattle.std.proofs.Common.{refl}
use Rattle.mono_stream.proofs.ComeLemmas.{callable_here, callable_after, callable_still, image_first, image_waits, wait_all}
use Rattle.mono_stream.proofs.maps.MapStream.poll_next.Goals as goal

pub f-requires : goal.f-requires
f-requires g c = callable_here g.F.FnMut _ _ _ _ _ c.requires.1 (rw (c.in-Ready-Some.is, c.in-Ready-Some.field-0-is) at c.poll_next.ensures.given) tt

pub returns-in-Ready-Some-clause-given : goal.returns-in-Ready-Some-clause-given
returns-in-Ready-Some-clause-given g c =
    image_first g.S.Stream.gives g.F.FnMut c.args.self.now _ _ c.in-Ready-Some.item _ (rw (c.in-Ready-Some.is, c.in-Ready-Some.field-0-is) at c.poll_next.ensures.given) c.f.ensures

pub returns-in-Ready-Some-clause-callable : goal.returns-in-Ready-Some-clause-callable
returns-in-Ready-Some-clause-callable g c =
    (rw (c.in-Ready-Some.is, c.in-Ready-Some.field-0-is) at c.poll_next.ensures.callable, callable_after g.F.FnMut _ _ _ _ _ _ _ c.requires.1 (rw (c.in-Ready-Some.is, c.in-Ready-Some.field-0-is) at c.poll_next.ensures.given) c.f.ensures)

pub returns-in-Pending-clause-given : goal.returns-in-Pending-clause-given
returns-in-Pending-clause-given g c = image_waits g.S.Stream.gives g.F.FnMut c.args.self.now _ _ (rw c.in-Pending.is at c.poll_next.ensures.given) refl

pub returns-in-Pending-clause-callable : goal.returns-in-Pending-clause-callable
returns-in-Pending-clause-callable g c =
    (rw c.in-Pending.is at c.poll_next.ensures.callable, callable_still g.F.FnMut _ _ _ _ c.requires.1 (wait_all g.S.Stream.gives _ _ (rw c.in-Pending.is at c.poll_next.ensures.given)))
