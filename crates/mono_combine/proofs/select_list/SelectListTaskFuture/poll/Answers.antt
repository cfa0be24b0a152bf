use Rattle.std.proofs.Common.{◌≡◌, ◌∙◌, false, refl, sym, ap}
use Rattle.mono_model.specs.declared.poll.Poll.TheVariants.{Ready, Pending}
use Rattle.mono_combine.proofs.ListLemmas.{neither}
use Rattle.mono_combine.proofs.ListEndLemmas.{may_look, unspent_of, can_of, ended_can, ended_give_none}
use Rattle.mono_combine.proofs.GivesLemmas.{out_given, row_before, each_fewer}
use Rattle.mono_combine.proofs.select_list.SelectListTaskFuture.poll.Goals as goal

pub look_round-requires-clause-may : goal.look_round-requires-clause-may
look_round-requires-clause-may g c = may_look g.T.TaskFuture _ (neither _ _ c.requires.unspent).1 c.requires.callable.0

pub invariant_of-self : goal.invariant_of-self
invariant_of-self g c = record {
  some = rw (sym (c.end_each.ensures.length ∙ c.look_round.ensures.length)) at c.args.self.now.some;
  few = rw (sym (c.end_each.ensures.length ∙ c.look_round.ensures.length)) at c.args.self.now.few;
}

pub returns-in-Ready-clause-polled : goal.returns-in-Ready-clause-polled
returns-in-Ready-clause-polled g c = (
  record {
    picked = Ready c.in-Ready.pick;
    left = record { branches = c.look_round.new.branches.items; cx = c.look_round.new.cx };
    selects = rw (c.in-Ready.is, c.draw-start.ensures.start, c.len-count.ensures, c.args.self.now.branches.ok.0) at c.look_round.ensures.selects;
    ends = (ap (λ out. Ready out) c.answer_of.ensures, c.end_each.ensures.ended, refl);
  },
  refl,
  c.draw-start.ensures.next,
)

pub returns-in-Ready-clause-callable : goal.returns-in-Ready-clause-callable
returns-in-Ready-clause-callable g c = (ended_can g.T.TaskFuture _ _ _ _ c.end_each.ensures.ended, λ number shown h. absurd (ended_give_none g.T.TaskFuture _ _ _ _ number shown.now c.end_each.ensures.ended h))

pub returns-in-Pending-clause-polled : goal.returns-in-Pending-clause-polled
returns-in-Pending-clause-polled g c = (
  record {
    picked = Pending;
    left = record { branches = c.look_round.new.branches.items; cx = c.look_round.new.cx };
    selects = rw (c.in-Pending.is, c.draw-start.ensures.start, c.len-count.ensures, c.args.self.now.branches.ok.0) at c.look_round.ensures.selects;
    ends = (refl, refl, (neither _ _ c.requires.unspent).0, refl);
  },
  refl,
  c.draw-start.ensures.next,
)

pub returns-in-Pending-clause-again : goal.returns-in-Pending-clause-again
returns-in-Pending-clause-again g c =
    let fresh : c.args.self.now.has_answered ≡ false = (neither _ _ c.requires.unspent).0 in
    rw fresh (unspent_of g.T.TaskFuture _ c.look_round.ensures.again)

pub returns-in-Pending-clause-callable : goal.returns-in-Pending-clause-callable
returns-in-Pending-clause-callable g c = (can_of g.T.TaskFuture _ c.look_round.ensures.again, each_fewer g.T.TaskFuture.gives g.G.Fn c.args.self.now.test _ _ c.look_round.ensures.narrows c.requires.callable.1)

pub returns-in-Ready-clause-reached : goal.returns-in-Ready-clause-reached
returns-in-Ready-clause-reached g c = g.met.C.Context.reaches_on _ _ _ c.look_round.ensures.reached c.end_each.ensures.reached

pub returns-in-Pending-clause-reached : goal.returns-in-Pending-clause-reached
returns-in-Pending-clause-reached g c = c.look_round.ensures.reached

pub returns-in-Ready-clause-given : goal.returns-in-Ready-clause-given
returns-in-Ready-clause-given g c = rw c.answer_of.ensures (out_given g.T.TaskFuture.gives g.G.Fn c.args.self.now.test c.args.self.now.branches.items c.in-Ready.pick (rw c.in-Ready.is at c.look_round.ensures.given))

pub returns-in-Pending-clause-same : goal.returns-in-Pending-clause-same
returns-in-Pending-clause-same g c = row_before g.T.TaskFuture.gives g.G.Fn c.args.self.now.test c.look_round.new.branches.items c.args.self.now.branches.items c.look_round.ensures.narrows
