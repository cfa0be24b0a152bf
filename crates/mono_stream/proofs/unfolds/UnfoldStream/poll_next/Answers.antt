use Rattle.std.proofs.Common.{rules, sym, ◌∙◌}
use Rattle.mono_stream.proofs.UnfoldComeLemmas.{held_follow, begun_follow, unfold_can, unfold_live, held_again, begun_again}
use Rattle.mono_stream.proofs.unfolds.UnfoldStream.poll_next.Goals as goal

pub returns-in-Some-clause-given : goal.returns-in-Some-clause-given
returns-in-Some-clause-given g c = held_follow g.Fut.TaskFuture.gives g.F.FnMut c.args.self.now c.in-Some.future _ _ _ c.unfold_one-answer.ensures.given (sym c.take.ensures.value ∙ c.in-Some.is)

pub returns-in-Some-clause-callable : goal.returns-in-Some-clause-callable
returns-in-Some-clause-callable g c = held_again g.Fut.TaskFuture g.F.FnMut c.args.self.now c.in-Some.future _ _ _ c.unfold_one-answer.ensures.given c.unfold_one-answer.ensures.live c.requires.1 (sym c.take.ensures.value ∙ c.in-Some.is)

pub f-future-requires : goal.f-future-requires
f-future-requires g c = unfold_can g.Fut.TaskFuture g.F.FnMut c.args.self.now _ c.requires.1 (search rules) (sym c.take-2.ensures.value ∙ c.in-Some-take.is)

pub unfold_one-first-requires : goal.unfold_one-first-requires
unfold_one-first-requires g c = unfold_live g.Fut.TaskFuture g.F.FnMut c.args.self.now _ _ _ c.requires.1 (search rules) (sym c.take-2.ensures.value ∙ c.in-Some-take.is) c.f-future.ensures

pub returns-clause-given : goal.returns-clause-given
returns-clause-given g c = begun_follow g.Fut.TaskFuture.gives g.F.FnMut c.args.self.now _ _ _ _ c.unfold_one-first.ensures.given _ (search rules) (sym c.take-2.ensures.value ∙ c.in-Some-take.is) _ c.f-future.ensures

pub returns-clause-callable : goal.returns-clause-callable
returns-clause-callable g c = begun_again g.Fut.TaskFuture g.F.FnMut c.args.self.now _ _ _ _ c.unfold_one-first.ensures.given c.unfold_one-first.ensures.live c.requires.1 _ (search rules) (sym c.take-2.ensures.value ∙ c.in-Some-take.is) _ c.f-future.ensures
