use Rattle.std.specs.Prelude.{map, string_bytes}
use Rattle.example_checks.proofs.OutputLemmas.{given}
use Rattle.example_checks.proofs.SpentRunLemmas.{input}
use Rattle.example_checks.proofs.FinishedRunLemmas.{words, output, finished_run_gives}
use Rattle.example_checks.proofs.outputs.commands.finished_run.Goals as goal

pub returns : goal.returns
returns g c = λ few.
    given words input output 0 _ _ _ _ (map string_bytes c.in_ok-words.words.items) c.in_ok-words.ensures few finished_run_gives c.status_of.result c.status_of.ensures
