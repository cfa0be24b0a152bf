use Rattle.std.proofs.Common.{ap, ◌∙◌}
use Rattle.mono_actor.specs.Callers.{actors_of}
use Rattle.mono_lines.proofs.ActorCallLemmas.{clock_turn}
use Rattle.mono_lines.proofs.actor.answers.rung.Goals as goal

pub returns-clause-turn : goal.returns-clause-turn
returns-clause-turn c = clock_turn _ _ _ _ c.in_ok-advance.ensures.queued.step

pub returns-in_err-advance-clause-turn : goal.returns-in_err-advance-clause-turn
returns-in_err-advance-clause-turn c = ap (λ a. (actors_of a).turn) c.in_err-advance.ensures.refused.0 ∙ c.requires.over
