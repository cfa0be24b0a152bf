use Rattle.std.proofs.Common.{ap, ◌∙◌, [], ◌∷◌}
use Rattle.mono_model.specs.Poll.{is_pending}
use Rattle.example_parts.specs.Nests.{delays_of, all_removed}
use Rattle.example_parts.proofs.nests.races.polled_once.Goals as goal

pub returns-clause-waits : goal.returns-clause-waits
returns-clause-waits g c =
    let polls = rw (c.nest-both.ensures, c.race.ensures, c.race-2.ensures) at c.poll-answer.ensures.polled in
    let k = c.nest_waits.ensures _ _ _ _ _ _ _ _ _ _ _ _ polls c.requires.first.0.1 c.requires.first.1.1 c.requires.second.0.1 c.requires.second.1.1 in
    c.is_pending-waits.ensures ∙ ap is_pending k.0

pub returns-clause-sleeps : goal.returns-clause-sleeps
returns-clause-sleeps g c =
    let polls = rw (c.nest-both.ensures, c.race.ensures, c.race-2.ensures) at c.poll-answer.ensures.polled in
    let k = c.nest_waits.ensures _ _ _ _ _ _ _ _ _ _ _ _ polls c.requires.first.0.1 c.requires.first.1.1 c.requires.second.0.1 c.requires.second.1.1 in
    let up = c.nest_is_given_up.ensures _ _ _ c.cancel.ensures.cancelled in
    up.0 ∙ ap (λ n. all_removed (g.C.TimeContext.sleeps c.poll-answer.new.cx) (delays_of n)) k.1
    ∙ ap (λ s. all_removed s (c.args.first.0.delay.number ∷ c.args.first.1.delay.number ∷ c.args.second.0.delay.number ∷ c.args.second.1.delay.number ∷ [])) k.2

pub returns-clause-work : goal.returns-clause-work
returns-clause-work g c =
    let polls = rw (c.nest-both.ensures, c.race.ensures, c.race-2.ensures) at c.poll-answer.ensures.polled in
    let k = c.nest_waits.ensures _ _ _ _ _ _ _ _ _ _ _ _ polls c.requires.first.0.1 c.requires.first.1.1 c.requires.second.0.1 c.requires.second.1.1 in
    (c.nest_is_given_up.ensures _ _ _ c.cancel.ensures.cancelled).1 ∙ k.3

pub poll-answer-requires-clause-callable : goal.poll-answer-requires-clause-callable
poll-answer-requires-clause-callable g c = rw (c.nest-both.ensures, c.race.ensures, c.race-2.ensures) (
  (tt, tt, λ shown given. c.requires.first_tests.0.at (shown, tt), λ shown given. c.requires.first_tests.1.at (shown, tt)),
  (tt, tt, λ shown given. c.requires.second_tests.0.at (shown, tt), λ shown given. c.requires.second_tests.1.at (shown, tt)),
)
