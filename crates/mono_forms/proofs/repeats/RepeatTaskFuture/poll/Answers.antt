use Rattle.std.proofs.Common.{◌≡◌, ◌<◌, Some, None, refl, rules}
use Rattle.mono_model.specs.declared.poll.Poll.TheVariants.{Pending}
use Rattle.mono_forms.specs.Yields.{WakesItself}
use Rattle.mono_forms.proofs.LoopLemmas.{takes_more, takes_none}
use Rattle.mono_forms.proofs.repeats.RepeatTaskFuture.poll.Goals as goal

pub returns-in-Some-clause-polled : goal.returns-in-Some-clause-polled
returns-in-Some-clause-polled g c =
    let some : 0 < c.loop-left.left = search rules in
    c.loop-left.invariant.onward c.in-Some.answer c.turn.new.self c.turn.new.cx
    (takes_more g.A.TaskFuture g.F.FnMut g.C.Context.number g.C.Context.work g.C.Context.wakes g.C.Context.reaches c.loop-left.left some c.loop-left.self c.loop-left.cx
    (Some c.in-Some.answer) c.turn.new.self c.turn.new.cx c.in-Some.answer c.turn.new.self c.turn.new.cx c.in-Some.ensures.turned (refl, refl, refl))

pub loop-left-preserved : goal.loop-left-preserved
loop-left-preserved g c =
    let some : 0 < c.loop-left.left = search rules in record {
      callable = c.in_default.ensures.leaves.callable;
      unspent = c.in_default.ensures.leaves.unspent;
      reached = g.met.C.Context.reaches_on _ _ _ c.loop-left.invariant.reached c.in_default.ensures.reached;
      narrows = λ x h. c.loop-left.invariant.narrows x (c.in_default.ensures.leaves.narrows x h);
      onward = λ p s d goes. c.loop-left.invariant.onward p s d
          (takes_more g.A.TaskFuture g.F.FnMut g.C.Context.number g.C.Context.work g.C.Context.wakes g.C.Context.reaches c.loop-left.left some c.loop-left.self c.loop-left.cx
          None c.turn.new.self c.turn.new.cx p s d c.in_default.ensures.turned goes);
    }

pub returns-clause-polled : goal.returns-clause-polled
returns-clause-polled g c =
    let none : c.loop-left.left ≡ 0 = search rules in
    let woken : WakesItself g.C.Context.number g.C.Context.work g.C.Context.wakes g.C.Context.reaches c.loop-left.cx c.wake_me.new.self = search rules in
    c.loop-left.invariant.onward Pending c.loop-left.self c.wake_me.new.self
    (takes_none g.A.TaskFuture g.F.FnMut g.C.Context.number g.C.Context.work g.C.Context.wakes g.C.Context.reaches c.loop-left.left none c.loop-left.self c.loop-left.cx c.wake_me.new.self woken)
