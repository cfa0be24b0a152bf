use Rattle.example_checks.proofs.WholeAnswerLemmas.{whole_answers_are_yes}
use Rattle.example_checks.proofs.checks.calls.checked_text.Goals as goal

pub returns : goal.returns
returns c = λ has_timers calls part new are spells.
    whole_answers_are_yes c.args.limits c.args.blocking has_timers calls part new c.args.text.now c.in_ok-answer.answer are spells c.in_ok-answer.ensures
