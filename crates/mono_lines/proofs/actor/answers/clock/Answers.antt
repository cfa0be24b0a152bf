use Rattle.std.proofs.Common.{refl, rules, ◌<◌, ◌++◌, ◌∙◌, ap, subst}
use Rattle.mono_model.specs.Ticks.{max_nanos}
use Rattle.mono_actor.specs.Answers as answer
use Rattle.mono_actor.specs.Callers.{actors_of}
use Rattle.mono_actor.specs.Steps.{ClockStep}
use Rattle.mono_lines.specs.ActorAnswers.{answer_text}
use Rattle.mono_lines.specs.declared.actor.words.ActorLine.TheVariants as line
use Rattle.mono_lines.proofs.ServiceLemmas.{on_ok}
use Rattle.mono_lines.proofs.ActorCallLemmas.{one_told}
use Rattle.mono_lines.proofs.actor.answers.clock.Goals as goal

pub returns-in_default-clause-answered : goal.returns-in_default-clause-answered
returns-in_default-clause-answered c =
    let long : max_nanos < c.args.n = search rules in
    on_ok c.put_told.result (one_told _ _ (line.Clock c.args.n) answer.Invalid _ _ ((c.requires.over, long, refl), refl)) c.put_told.ensures

pub returns-clause-answered : goal.returns-clause-answered
returns-clause-answered c =
    let step = subst (λ n. ClockStep (actors_of c.args.actors.now) n (answer.Due c.rung.new.due.items) (actors_of c.rung.new.actors)) c.in-Some.ensures.some c.in_ok-rung.ensures.step in
    on_ok c.put_due.result
    (λ put. one_told _ _ (line.Clock c.args.n) (answer.Due c.rung.new.due.items) _ _ (step, refl) (put ∙ ap (λ due. c.args.out.now.items ++ answer_text (answer.Due due)) c.as_slice.ensures.value))
    c.put_due.ensures
