use Rattle.std.proofs.Common.{true, false, refl}
use Rattle.mono_combine.proofs.SelectLemmas.{first_passes, first_then_second}
use Rattle.mono_combine.proofs.GivesLemmas.{second_given}
use Rattle.mono_combine.proofs.select.Select2.in_order.Goals as goal

pub returns-in-Passes-clause-selects : goal.returns-in-Passes-clause-selects
returns-in-Passes-clause-selects g c = first_passes g.A.TaskFuture g.B.TaskFuture g.G.Fn g.H.Fn _ _ _ _ _ (rw c.in-Passes.is at c.look.ensures.turn) refl (rw c.in-Passes.is at c.look.ensures.counts)

pub returns-in-Waits-clause-selects : goal.returns-in-Waits-clause-selects
returns-in-Waits-clause-selects g c = rw c.then_second.ensures (first_then_second g.A.TaskFuture g.B.TaskFuture g.G.Fn g.H.Fn _ _ _ _ _ _ _ refl
    (rw c.in-Waits.is at c.look.ensures.turn) (rw c.in-Waits.is at c.look.ensures.counts) c.look-in-Waits.ensures.turn c.look-in-Waits.ensures.counts)

pub returns-in-Rests-clause-selects : goal.returns-in-Rests-clause-selects
returns-in-Rests-clause-selects g c = rw c.then_second-in-Rests.ensures (first_then_second g.A.TaskFuture g.B.TaskFuture g.G.Fn g.H.Fn _ _ _ _ _ _ _ refl
    (rw c.in-Rests.is at c.look.ensures.turn) (rw c.in-Rests.is at c.look.ensures.counts) c.look-in-Rests.ensures.turn c.look-in-Rests.ensures.counts)

pub returns-in-Passes-clause-kept : goal.returns-in-Passes-clause-kept
returns-in-Passes-clause-kept g c = refl

pub returns-in-Passes-clause-first : goal.returns-in-Passes-clause-first
returns-in-Passes-clause-first g c = c.look.ensures.unspent

pub returns-in-Passes-clause-second : goal.returns-in-Passes-clause-second
returns-in-Passes-clause-second g c = c.requires.second

pub returns-in-Passes-clause-first_callable : goal.returns-in-Passes-clause-first_callable
returns-in-Passes-clause-first_callable g c = c.look.ensures.callable

pub returns-in-Passes-clause-second_callable : goal.returns-in-Passes-clause-second_callable
returns-in-Passes-clause-second_callable g c = c.requires.second_callable

pub returns-in-Passes-clause-reached : goal.returns-in-Passes-clause-reached
returns-in-Passes-clause-reached g c = c.look.ensures.reached

pub returns-in-Waits-clause-kept : goal.returns-in-Waits-clause-kept
returns-in-Waits-clause-kept g c = refl

pub returns-in-Waits-clause-first : goal.returns-in-Waits-clause-first
returns-in-Waits-clause-first g c = c.look.ensures.unspent

pub returns-in-Waits-clause-second : goal.returns-in-Waits-clause-second
returns-in-Waits-clause-second g c = c.look-in-Waits.ensures.unspent

pub returns-in-Waits-clause-first_callable : goal.returns-in-Waits-clause-first_callable
returns-in-Waits-clause-first_callable g c = c.look.ensures.callable

pub returns-in-Waits-clause-second_callable : goal.returns-in-Waits-clause-second_callable
returns-in-Waits-clause-second_callable g c = c.look-in-Waits.ensures.callable

pub returns-in-Waits-clause-reached : goal.returns-in-Waits-clause-reached
returns-in-Waits-clause-reached g c = g.met.C.Context.reaches_on _ _ _ c.look.ensures.reached c.look-in-Waits.ensures.reached

pub returns-in-Rests-clause-kept : goal.returns-in-Rests-clause-kept
returns-in-Rests-clause-kept g c = refl

pub returns-in-Rests-clause-first : goal.returns-in-Rests-clause-first
returns-in-Rests-clause-first g c = c.look.ensures.unspent

pub returns-in-Rests-clause-second : goal.returns-in-Rests-clause-second
returns-in-Rests-clause-second g c = c.look-in-Rests.ensures.unspent

pub returns-in-Rests-clause-first_callable : goal.returns-in-Rests-clause-first_callable
returns-in-Rests-clause-first_callable g c = c.look.ensures.callable

pub returns-in-Rests-clause-second_callable : goal.returns-in-Rests-clause-second_callable
returns-in-Rests-clause-second_callable g c = c.look-in-Rests.ensures.callable

pub returns-in-Rests-clause-reached : goal.returns-in-Rests-clause-reached
returns-in-Rests-clause-reached g c = g.met.C.Context.reaches_on _ _ _ c.look.ensures.reached c.look-in-Rests.ensures.reached

pub returns-in-Passes-clause-given : goal.returns-in-Passes-clause-given
returns-in-Passes-clause-given g c = rw c.in-Passes.is at c.look.ensures.given

pub returns-in-Waits-clause-given : goal.returns-in-Waits-clause-given
returns-in-Waits-clause-given g c = rw c.then_second.ensures (second_given g.A.TaskFuture.gives g.B.TaskFuture.gives g.G.Fn g.H.Fn c.args.self.now true _ c.look-in-Waits.ensures.given)

pub returns-in-Rests-clause-given : goal.returns-in-Rests-clause-given
returns-in-Rests-clause-given g c = rw c.then_second-in-Rests.ensures (second_given g.A.TaskFuture.gives g.B.TaskFuture.gives g.G.Fn g.H.Fn c.args.self.now false _ c.look-in-Rests.ensures.given)

pub returns-in-Passes-clause-narrows : goal.returns-in-Passes-clause-narrows
returns-in-Passes-clause-narrows g c = (c.look.ensures.narrows, λ y h. h)

pub returns-in-Waits-clause-narrows : goal.returns-in-Waits-clause-narrows
returns-in-Waits-clause-narrows g c = (c.look.ensures.narrows, c.look-in-Waits.ensures.narrows)

pub returns-in-Rests-clause-narrows : goal.returns-in-Rests-clause-narrows
returns-in-Rests-clause-narrows g c = (c.look.ensures.narrows, c.look-in-Rests.ensures.narrows)
