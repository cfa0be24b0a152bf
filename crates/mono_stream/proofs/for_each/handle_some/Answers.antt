use Rattle.std.proofs.Common.{◌+◌, refl, arith}
use Rattle.mono_stream.proofs.ForEachLemmas.{items_more}
use Rattle.mono_stream.proofs.for_each.handle_some.Goals as goal

pub returns-in-Ready-None-clause-handles : goal.returns-in-Ready-None-clause-handles
returns-in-Ready-None-clause-handles g c = record {
  count = c.loop-i._i + 0;
  before = _;
  middle = _;
  items = c.loop-i.invariant.items 0 _ _ (refl, refl);
  last = (omega (arith, c.loop-i-test.true), rw (c.in-Ready-None.is, c.in-Ready-None.field-0-is) at c.poll_next.ensures.polled);
}

pub returns-in-Pending-clause-handles : goal.returns-in-Pending-clause-handles
returns-in-Pending-clause-handles g c = record {
  count = c.loop-i._i + 0;
  before = _;
  middle = _;
  items = c.loop-i.invariant.items 0 _ _ (refl, refl);
  last = (omega (arith, c.loop-i-test.true), rw c.in-Pending.is at c.poll_next.ensures.polled);
}

pub loop-i-preserved : goal.loop-i-preserved
loop-i-preserved g c = record {
  items = items_more g.S.Stream.polls _ _ _ _ _ _ _ c.loop-i.invariant.items (rw (c.in-Ready-Some.is, c.in-Ready-Some.field-0-is) at c.poll_next.ensures.polled);
  callable = rw (c.in-Ready-Some.is, c.in-Ready-Some.field-0-is) at c.poll_next.ensures.callable;
  reached = g.met.C.Context.reaches_on _ _ _ c.loop-i.invariant.reached c.poll_next.ensures.reached;
}

pub returns-clause-handles : goal.returns-clause-handles
returns-clause-handles g c = record {
  count = c.loop-i._i + 0;
  before = _;
  middle = _;
  items = c.loop-i.invariant.items 0 _ _ (refl, refl);
  last = (omega (arith, c.loop-i-test.false, c.loop-i.auto._i-end), refl, refl);
}
