use Rattle.std.proofs.Common.{ap, sym, subst, refl}
use Rattle.mono_model.specs.declared.poll.Poll.TheVariants.{Ready, Pending}
use Rattle.mono_groups.specs.Until.{UntilGives}
use Rattle.mono_groups.proofs.UntilLemmas.{gives_answer, gives_before}
use Rattle.mono_groups.proofs.until.RunUntilTaskFuture.poll.Goals as goal

pub returns-in-Ready-clause-polled : goal.returns-in-Ready-clause-polled
returns-in-Ready-clause-polled g c = record { first = Ready c.in-Ready.first; polled = c.in-Ready.ensures.polled; answer = ap Ready c.answer_of.ensures }

pub returns-in-Ready-clause-given : goal.returns-in-Ready-clause-given
returns-in-Ready-clause-given g c = subst (UntilGives g.A.TaskFuture.gives g.F.TaskFuture.gives c.args.self.now.race.both) (sym c.answer_of.ensures) (gives_answer g.A.TaskFuture.gives g.F.TaskFuture.gives c.args.self.now.race.both c.in-Ready.first c.in-Ready.ensures.given)

pub returns-in-Pending-clause-polled : goal.returns-in-Pending-clause-polled
returns-in-Pending-clause-polled g c = record { first = Pending; polled = c.in-Pending.ensures.polled; answer = refl }

pub returns-in-Pending-clause-same : goal.returns-in-Pending-clause-same
returns-in-Pending-clause-same g c = gives_before g.A.TaskFuture.gives g.F.TaskFuture.gives c.args.self.now.race.both c.poll.new.self.both c.in-Pending.ensures.same
