use Rattle.std.proofs.Common.{refl}
use Rattle.mono_combine.specs.Looks.{ReturnsFor}
use Rattle.mono_combine.proofs.branch.Branch.look_at.Goals as goal

pub test-requires : goal.test-requires
test-requires g c = c.requires.test _ (rw c.in-Live.is c.in-Ready.ensures.given)

pub returns-then-test-clause-turn : goal.returns-then-test-clause-turn
returns-then-test-clause-turn g c = rw c.in-Live.is (record {
  answer = _;
  left = _;
  middle = _;
  polled = c.poll.ensures.polled;
  rest = rw c.in-Ready.is (c.give_up.ensures.given_up, c.give_up.ensures.gone, (_, record { shown = _; shows = refl; says = record { met = c.test.ensures } }, rw c.if-test.true refl));
})

pub returns-then-test-clause-counts : goal.returns-then-test-clause-counts
returns-then-test-clause-counts g c = rw c.in-Live.is refl

pub returns-then-test-clause-unspent : goal.returns-then-test-clause-unspent
returns-then-test-clause-unspent g c = rw c.give_up.ensures.gone refl

pub returns-then-test-clause-callable : goal.returns-then-test-clause-callable
returns-then-test-clause-callable g c = rw c.give_up.ensures.gone tt

pub returns-then-test-clause-reached : goal.returns-then-test-clause-reached
returns-then-test-clause-reached g c = g.met.C.Context.reaches_on _ _ _ c.poll.ensures.reached c.give_up.ensures.reached

pub returns-else-test-clause-turn : goal.returns-else-test-clause-turn
returns-else-test-clause-turn g c = rw c.in-Live.is (record {
  answer = _;
  left = _;
  middle = _;
  polled = c.poll.ensures.polled;
  rest = rw c.in-Ready.is (c.give_up.ensures.given_up, c.give_up.ensures.gone, (_, record { shown = _; shows = refl; says = record { met = c.test.ensures } }, rw c.if-test.false refl));
})

pub returns-else-test-clause-counts : goal.returns-else-test-clause-counts
returns-else-test-clause-counts g c = rw c.in-Live.is refl

pub returns-else-test-clause-unspent : goal.returns-else-test-clause-unspent
returns-else-test-clause-unspent g c = rw c.give_up.ensures.gone refl

pub returns-else-test-clause-callable : goal.returns-else-test-clause-callable
returns-else-test-clause-callable g c = rw c.give_up.ensures.gone tt

pub returns-else-test-clause-reached : goal.returns-else-test-clause-reached
returns-else-test-clause-reached g c = g.met.C.Context.reaches_on _ _ _ c.poll.ensures.reached c.give_up.ensures.reached

pub returns-in-Pending-clause-turn : goal.returns-in-Pending-clause-turn
returns-in-Pending-clause-turn g c = rw c.in-Live.is (record {
  answer = _;
  left = _;
  middle = _;
  polled = c.poll.ensures.polled;
  rest = rw c.in-Pending.is (refl, refl, refl);
})

pub returns-in-Pending-clause-counts : goal.returns-in-Pending-clause-counts
returns-in-Pending-clause-counts g c = rw c.in-Live.is refl

pub returns-in-Pending-clause-unspent : goal.returns-in-Pending-clause-unspent
returns-in-Pending-clause-unspent g c = rw c.in-Pending.is at c.poll.ensures.again

pub returns-in-Pending-clause-callable : goal.returns-in-Pending-clause-callable
returns-in-Pending-clause-callable g c = c.poll.ensures.callable

pub returns-in-Pending-clause-reached : goal.returns-in-Pending-clause-reached
returns-in-Pending-clause-reached g c = c.poll.ensures.reached

pub returns-in-Out-clause-turn : goal.returns-in-Out-clause-turn
returns-in-Out-clause-turn g c = rw c.in-Out.is (refl, refl)

pub returns-in-Out-clause-counts : goal.returns-in-Out-clause-counts
returns-in-Out-clause-counts g c = rw c.in-Out.is refl

pub returns-in-Out-clause-unspent : goal.returns-in-Out-clause-unspent
returns-in-Out-clause-unspent g c = c.requires.unspent

pub returns-in-Out-clause-callable : goal.returns-in-Out-clause-callable
returns-in-Out-clause-callable g c = c.requires.callable

pub returns-in-Out-clause-reached : goal.returns-in-Out-clause-reached
returns-in-Out-clause-reached g c = g.met.C.Context.reaches_itself _

pub returns-in-Gone-clause-turn : goal.returns-in-Gone-clause-turn
returns-in-Gone-clause-turn g c = rw c.in-Gone.is (refl, refl)

pub returns-in-Gone-clause-counts : goal.returns-in-Gone-clause-counts
returns-in-Gone-clause-counts g c = rw c.in-Gone.is refl

pub returns-in-Gone-clause-unspent : goal.returns-in-Gone-clause-unspent
returns-in-Gone-clause-unspent g c = c.requires.unspent

pub returns-in-Gone-clause-callable : goal.returns-in-Gone-clause-callable
returns-in-Gone-clause-callable g c = c.requires.callable

pub returns-in-Gone-clause-reached : goal.returns-in-Gone-clause-reached
returns-in-Gone-clause-reached g c = g.met.C.Context.reaches_itself _

pub returns-then-test-clause-given : goal.returns-then-test-clause-given
returns-then-test-clause-given g c =
    let says : ReturnsFor g.P.Fn c.args.test.now c.args.number c.in-Ready.x c.test.result = record { shown = _; shows = refl; says = record { met = c.test.ensures } } in
    (rw c.in-Live.is c.in-Ready.ensures.given, rw c.if-test.true at says)
