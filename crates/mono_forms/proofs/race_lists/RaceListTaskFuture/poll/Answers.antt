use Rattle.std.proofs.Common.{◌≡◌, false, refl, ap, ◌∙◌, arith}
use Rattle.mono_forms.proofs.RaceListLemmas.{may_from, fresh_from, unspent_from}
use Rattle.mono_forms.proofs.race_lists.RaceListTaskFuture.poll.Goals as goal

pub poll_in_turn-requires : goal.poll_in_turn-requires
poll_in_turn-requires g c = may_from g.T.TaskFuture _ _ c.requires.unspent c.requires.callable

pub returns-in-Ready-clause-polled : goal.returns-in-Ready-clause-polled
returns-in-Ready-clause-polled g c = record {
  polled = c.poll_in_turn.new.futures.items;
  after = c.poll_in_turn.new.cx;
  turns = rw c.in-Ready.is at c.poll_in_turn.ensures.polled;
  waits = tt;
  ends = (ap (λ v. v.items) c.replace-futures.ensures.after ∙ c.new.ensures.items, refl, rw (ap (λ v. v.items) c.replace-futures.ensures.value) at c.cancel_each.ensures.cancelled);
}

pub returns-in-Ready-clause-callable : goal.returns-in-Ready-clause-callable
returns-in-Ready-clause-callable g c = rw (ap (λ v. v.items) c.replace-futures.ensures.after ∙ c.new.ensures.items) (λ k d less. absurd (omega arith))

pub returns-in-Pending-clause-polled : goal.returns-in-Pending-clause-polled
returns-in-Pending-clause-polled g c = record {
  polled = c.poll_in_turn.new.futures.items;
  after = c.poll_in_turn.new.cx;
  turns = rw c.in-Pending.is at c.poll_in_turn.ensures.polled;
  waits = (refl, fresh_from g.T.TaskFuture _ _ c.requires.unspent, refl);
  ends = tt;
}

pub returns-in-Pending-clause-again : goal.returns-in-Pending-clause-again
returns-in-Pending-clause-again g c =
    let fresh : c.args.self.now.has_answered ≡ false = fresh_from g.T.TaskFuture _ _ c.requires.unspent in
    rw fresh (unspent_from g.T.TaskFuture _ (rw c.in-Pending.is at c.poll_in_turn.ensures.again))

pub returns-in-Pending-clause-callable : goal.returns-in-Pending-clause-callable
returns-in-Pending-clause-callable g c = λ k d less. ((rw c.in-Pending.is at c.poll_in_turn.ensures.again) k d less).1
