use Rattle.std.proofs.Common.{refl, ap}
use Rattle.mono_model.specs.declared.poll.Poll.TheVariants.{Ready, Pending}
use Rattle.mono_combine.proofs.GivesLemmas.{picked_given, select_before, tests_fewer}
use Rattle.mono_combine.proofs.select.Select2TaskFuture.poll.Goals as goal

pub returns-in-Ready-clause-polled : goal.returns-in-Ready-clause-polled
returns-in-Ready-clause-polled g c =
    let kept = rw c.draw-start.ensures.next at c.select_from.ensures.kept in
    record {
      picked = Ready c.in-Ready.pick;
      left = record { first = c.select_from.new.self.first; second = c.select_from.new.self.second; cx = c.select_from.new.cx };
      selects = rw (c.in-Ready.is, c.draw-start.ensures.start) at c.select_from.ensures.selects;
      ends = (
        ap (λ out. Ready out) c.answer_of.ensures,
        rw (c.give_up.ensures.gone, c.give_up-in-Ready.ensures.gone, ap (λ s. s.first_test) kept, ap (λ s. s.second_test) kept, ap (λ s. s.start) kept) refl,
        (c.give_up.new.cx, c.give_up.ensures.given_up, c.give_up-in-Ready.ensures.given_up),
      );
    }

pub returns-in-Pending-clause-polled : goal.returns-in-Pending-clause-polled
returns-in-Pending-clause-polled g c =
    record {
      picked = Pending;
      left = record { first = c.select_from.new.self.first; second = c.select_from.new.self.second; cx = c.select_from.new.cx };
      selects = rw (c.in-Pending.is, c.draw-start.ensures.start) at c.select_from.ensures.selects;
      ends = (refl, rw c.draw-start.ensures.next at c.select_from.ensures.kept, refl);
    }

pub returns-in-Ready-clause-callable : goal.returns-in-Ready-clause-callable
returns-in-Ready-clause-callable g c = rw (c.give_up.ensures.gone, c.give_up-in-Ready.ensures.gone) (tt, tt, λ shown h. absurd h, λ shown h. absurd h)

pub returns-in-Pending-clause-callable : goal.returns-in-Pending-clause-callable
returns-in-Pending-clause-callable g c = (
  c.select_from.ensures.first_callable,
  c.select_from.ensures.second_callable,
  tests_fewer g.A.TaskFuture.gives g.G.Fn c.args.self.now.first_test _ _ c.args.self.now.first (ap (λ s. s.first_test) c.select_from.ensures.kept) c.select_from.ensures.narrows.0 c.requires.callable.2,
  tests_fewer g.B.TaskFuture.gives g.H.Fn c.args.self.now.second_test _ _ c.args.self.now.second (ap (λ s. s.second_test) c.select_from.ensures.kept) c.select_from.ensures.narrows.1 c.requires.callable.3,
)

pub returns-in-Ready-clause-reached : goal.returns-in-Ready-clause-reached
returns-in-Ready-clause-reached g c = g.met.C.Context.reaches_on _ _ _ (g.met.C.Context.reaches_on _ _ _ c.select_from.ensures.reached c.give_up.ensures.reached) c.give_up-in-Ready.ensures.reached

pub returns-in-Pending-clause-reached : goal.returns-in-Pending-clause-reached
returns-in-Pending-clause-reached g c = c.select_from.ensures.reached

pub returns-in-Ready-clause-given : goal.returns-in-Ready-clause-given
returns-in-Ready-clause-given g c = rw c.answer_of.ensures (picked_given g.A.TaskFuture.gives g.B.TaskFuture.gives g.G.Fn g.H.Fn c.args.self.now c.in-Ready.pick (rw c.in-Ready.is at c.select_from.ensures.given))

pub returns-in-Pending-clause-same : goal.returns-in-Pending-clause-same
returns-in-Pending-clause-same g c =
    select_before g.A.TaskFuture.gives g.B.TaskFuture.gives g.G.Fn g.H.Fn c.args.self.now c.select_from.new.self c.select_from.ensures.narrows (ap (λ s. s.first_test) c.select_from.ensures.kept) (ap (λ s. s.second_test) c.select_from.ensures.kept)
