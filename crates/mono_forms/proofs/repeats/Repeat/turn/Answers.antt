use Rattle.std.proofs.Common.{subst}
use Rattle.mono_forms.specs.Repeats.{CanLoop, CanLoopFrom}
use Rattle.mono_forms.proofs.LoopLemmas.{well_here, next_goes_on}
use Rattle.mono_forms.proofs.repeats.Repeat.turn.Goals as goal

pub func-next-requires : goal.func-next-requires
func-next-requires g c =
    let can : CanLoop g.A.TaskFuture g.F.FnMut c.in-Some.future c.args.self.now.func = subst (λ o. CanLoopFrom g.A.TaskFuture g.F.FnMut o c.args.self.now.func) c.in-Some.is c.requires.callable in
    let well = can.1 c.in-Ready-Continue.s (rw c.in-Ready-Continue.field-0-is at c.in-Ready-Continue.ensures.given) in
    (well_here _ _ _ _ _ well).0

pub returns-in-Ready-Continue-clause-leaves : goal.returns-in-Ready-Continue-clause-leaves
returns-in-Ready-Continue-clause-leaves g c =
    let can : CanLoop g.A.TaskFuture g.F.FnMut c.in-Some.future c.args.self.now.func = subst (λ o. CanLoopFrom g.A.TaskFuture g.F.FnMut o c.args.self.now.func) c.in-Some.is c.requires.callable in
    next_goes_on g.A.TaskFuture g.F.FnMut c.args.self.now c.stand.new.self c.in-Some.future c.in-Some.is can c.in-Ready-Continue.s _ _
    (rw c.in-Ready-Continue.field-0-is at c.in-Ready-Continue.ensures.given) c.func-next.ensures c.stand.ensures.next c.stand.ensures.func
