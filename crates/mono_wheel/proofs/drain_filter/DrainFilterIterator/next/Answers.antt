use Rattle.std.proofs.Common.{of_calls, refl, subst}
use denote.Param.Members.{Called}
use denote.Param.Always.{always_mut}
use Rattle.mono_wheel.proofs.DrainLemmas.{gives, ready_left, falls_left, goes_on, falls_on}
use Rattle.mono_wheel.proofs.drain_filter.DrainFilterIterator.next.Goals as goal

pub returns-then-choose-clause-steps : goal.returns-then-choose-clause-steps
returns-then-choose-clause-steps g c =
    gives _ _ _ c.loop-self.invariant.0 c.in-Some.node c.after-self.result c.in-Some.is c.after-self.ensures _ refl refl refl c.remove.ensures.parts
    (subst (λ b. Called g.F.FnMut c.loop-self.self.choose (c.in-Some.node, tt) b c.choose.new.self) c.if-choose.true c.choose.ensures)

pub returns-then-choose-clause-goes : goal.returns-then-choose-clause-goes
returns-then-choose-clause-goes g c =
    let callable : always_mut g.F.FnMut c.choose.new.self = search of_calls in
    record {
      on = λ _. (
        (callable, ready_left _ _ _ c.loop-self.invariant.0 c.in-Some.node c.after-self.result c.in-Some.is c.after-self.ensures _ refl refl refl c.remove.ensures.parts),
        tt,
        falls_left _ _ _ c.loop-self.invariant.0 c.in-Some.node c.after-self.result c.in-Some.is c.after-self.ensures _ c.remove.ensures.parts,
      );
      keeps = (callable, ready_left _ _ _ c.loop-self.invariant.0 c.in-Some.node c.after-self.result c.in-Some.is c.after-self.ensures _ refl refl refl c.remove.ensures.parts);
      rests = λ _. tt;
    }

pub loop-self-smaller : goal.loop-self-smaller
loop-self-smaller g c = falls_on _ _ _ c.loop-self.invariant.0 c.in-Some.node c.after-self.result c.in-Some.is c.after-self.ensures

pub loop-self-preserved : goal.loop-self-preserved
loop-self-preserved g c = (
  goes_on _ _ _ c.loop-self.invariant.0 c.in-Some.node c.after-self.result c.in-Some.is c.after-self.ensures _ refl refl refl refl
      (subst (λ b. Called g.F.FnMut c.loop-self.self.choose (c.in-Some.node, tt) b c.choose.new.self) c.if-choose.false c.choose.ensures),
  search of_calls,
)
