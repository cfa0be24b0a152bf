use Rattle.std.proofs.Common.{◌+◌, refl, arith, sym, ◌∙◌}
use Rattle.mono_stream.proofs.ComeLemmas.{wait_all}
use Rattle.mono_stream.proofs.SiftComeLemmas.{none_taken, able_here, able_after, able_still, taken_more, finds, taken_still, taken_all}
use Rattle.mono_stream.proofs.SiftLemmas.{passes_first, passes_more}
use Rattle.mono_stream.proofs.sifts.sift_some.Goals as goal

pub returns-then-is_done-clause-sifts : goal.returns-then-is_done-clause-sifts
returns-then-is_done-clause-sifts g c = record {
  count = c.loop-i._i + 0;
  before = _;
  sieve = _;
  middle = _;
  passed = c.loop-i.invariant.passed 0 _ _ _ (refl, refl, refl);
  stops = (omega (arith, c.loop-i-test.true), sym c.is_done.ensures ∙ c.if-is_done.true, refl, refl, refl);
}

pub returns-in-Some-clause-sifts : goal.returns-in-Some-clause-sifts
returns-in-Some-clause-sifts g c = record {
  count = c.loop-i._i + 0;
  before = _;
  sieve = _;
  middle = _;
  passed = c.loop-i.invariant.passed 0 _ _ _ (refl, refl, refl);
  stops = (
    omega (arith, c.loop-i-test.true),
    record {
      item = _;
      unfinished = sym c.is_done.ensures ∙ c.if-is_done.false;
      polled = rw (c.in-Ready-Some.is, c.in-Ready-Some.field-0-is) at c.poll_next.ensures.polled;
      sifted = rw c.in-Some.is at c.sift.ensures;
    },
  );
}

pub returns-in-Ready-None-clause-sifts : goal.returns-in-Ready-None-clause-sifts
returns-in-Ready-None-clause-sifts g c = record {
  count = c.loop-i._i + 0;
  before = _;
  sieve = _;
  middle = _;
  passed = c.loop-i.invariant.passed 0 _ _ _ (refl, refl, refl);
  stops = (
    omega (arith, c.loop-i-test.true),
    sym c.is_done.ensures ∙ c.if-is_done.false,
    rw (c.in-Ready-None.is, c.in-Ready-None.field-0-is) at c.poll_next.ensures.polled,
    refl,
  );
}

pub returns-in-Pending-clause-sifts : goal.returns-in-Pending-clause-sifts
returns-in-Pending-clause-sifts g c = record {
  count = c.loop-i._i + 0;
  before = _;
  sieve = _;
  middle = _;
  passed = c.loop-i.invariant.passed 0 _ _ _ (refl, refl, refl);
  stops = (
    omega (arith, c.loop-i-test.true),
    sym c.is_done.ensures ∙ c.if-is_done.false,
    rw c.in-Pending.is at c.poll_next.ensures.polled,
    refl,
  );
}

pub loop-i-preserved : goal.loop-i-preserved
loop-i-preserved g c = record {
  passed = passes_more g.S.Stream.polls g.V.Sieve.done g.V.Sieve.sifts _ _ _ _ _ _ _ _ _ _ c.loop-i.invariant.passed
      (record {
        item = _;
        unfinished = sym c.is_done.ensures ∙ c.if-is_done.false;
        polled = rw (c.in-Ready-Some.is, c.in-Ready-Some.field-0-is) at c.poll_next.ensures.polled;
        sifted = rw c.in-None.is at c.sift.ensures;
      });
  taken = taken_more g.V.Sieve.done g.V.Sieve.sifts _ _ _ _ _ _ _ c.loop-i.invariant.taken (rw (c.in-Ready-Some.is, c.in-Ready-Some.field-0-is) at c.poll_next.ensures.given) (sym c.is_done.ensures ∙ c.if-is_done.false)
      (rw c.in-None.is at c.sift.ensures);
  callable = rw (c.in-Ready-Some.is, c.in-Ready-Some.field-0-is) at c.poll_next.ensures.callable;
  able = able_after g.V.Sieve.done g.V.Sieve.sifts g.V.Sieve.can_sift _ _ _ _ _ _ _ c.loop-i.invariant.able (rw (c.in-Ready-Some.is, c.in-Ready-Some.field-0-is) at c.poll_next.ensures.given)
      (sym c.is_done.ensures ∙ c.if-is_done.false) c.sift.ensures;
  reached = g.met.C.Context.reaches_on _ _ _ c.loop-i.invariant.reached c.poll_next.ensures.reached;
}

pub returns-clause-sifts : goal.returns-clause-sifts
returns-clause-sifts g c = record {
  count = c.loop-i._i + 0;
  before = _;
  sieve = _;
  middle = _;
  passed = c.loop-i.invariant.passed 0 _ _ _ (refl, refl, refl);
  stops = (omega (arith, c.loop-i-test.false, c.loop-i.auto._i-end), refl, refl, refl);
}

pub loop-i-init : goal.loop-i-init
loop-i-init g c = record {
  passed = λ n t w d h. passes_first g.S.Stream.polls g.V.Sieve.done g.V.Sieve.sifts n _ t _ w _ d h;
  taken = none_taken g.V.Sieve.done g.V.Sieve.sifts _ _;
  callable = c.requires.callable;
  able = c.requires.able;
  reached = g.met.C.Context.reaches_itself _;
}

pub sift-requires-clause-able : goal.sift-requires-clause-able
sift-requires-clause-able g c =
    able_here g.V.Sieve.done g.V.Sieve.sifts g.V.Sieve.can_sift _ _ _ _ _ c.loop-i.invariant.able (rw (c.in-Ready-Some.is, c.in-Ready-Some.field-0-is) at c.poll_next.ensures.given) tt (sym c.is_done.ensures ∙ c.if-is_done.false)

pub returns-then-is_done-clause-given : goal.returns-then-is_done-clause-given
returns-then-is_done-clause-given g c = c.loop-i.invariant.taken

pub returns-in-Some-clause-given : goal.returns-in-Some-clause-given
returns-in-Some-clause-given g c =
    finds g.V.Sieve.done g.V.Sieve.sifts _ _ _ _ _ _ _ _ c.loop-i.invariant.taken (rw (c.in-Ready-Some.is, c.in-Ready-Some.field-0-is) at c.poll_next.ensures.given) (sym c.is_done.ensures ∙ c.if-is_done.false)
    (rw c.in-Some.is at c.sift.ensures)

pub returns-in-Some-clause-able : goal.returns-in-Some-clause-able
returns-in-Some-clause-able g c =
    able_after g.V.Sieve.done g.V.Sieve.sifts g.V.Sieve.can_sift _ _ _ _ _ _ _ c.loop-i.invariant.able (rw (c.in-Ready-Some.is, c.in-Ready-Some.field-0-is) at c.poll_next.ensures.given)
    (sym c.is_done.ensures ∙ c.if-is_done.false) c.sift.ensures

pub returns-in-Ready-None-clause-given : goal.returns-in-Ready-None-clause-given
returns-in-Ready-None-clause-given g c = taken_all g.V.Sieve.done g.V.Sieve.sifts _ _ _ _ c.loop-i.invariant.taken tt

pub returns-in-Pending-clause-given : goal.returns-in-Pending-clause-given
returns-in-Pending-clause-given g c = taken_still g.V.Sieve.done g.V.Sieve.sifts _ _ _ _ _ c.loop-i.invariant.taken (wait_all g.S.Stream.gives _ _ (rw c.in-Pending.is at c.poll_next.ensures.given))

pub returns-in-Pending-clause-able : goal.returns-in-Pending-clause-able
returns-in-Pending-clause-able g c = able_still g.V.Sieve.done g.V.Sieve.sifts g.V.Sieve.can_sift _ _ _ _ _ c.loop-i.invariant.able (wait_all g.S.Stream.gives _ _ (rw c.in-Pending.is at c.poll_next.ensures.given)) refl

pub returns-clause-given : goal.returns-clause-given
returns-clause-given g c = c.loop-i.invariant.taken
