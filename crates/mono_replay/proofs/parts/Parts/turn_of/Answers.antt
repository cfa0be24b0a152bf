use Rattle.mono_machine.specs.Turns.{after_steps}
use Rattle.mono_machine.proofs.ValidStepLemmas.{steps_valid}
use Rattle.mono_replay.proofs.parts.Parts.turn_of.Goals as goal

pub returns-clause-matches : goal.returns-clause-matches
returns-clause-matches c = λ m st valid.
    let me = c.args.me in
    let steps = c.args.steps.now in
    c.end-ended.ensures.matches (after_steps me steps m) (c.in_ok-replies.ensures.matches m st) (steps_valid me steps m valid)
