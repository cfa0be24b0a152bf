use Rattle.std.specs.Prelude.{map, string_bytes}
use Rattle.example_checks.proofs.OutputLemmas.{given}
use Rattle.example_checks.proofs.SpentRunLemmas.{words, input, output, spent_run_gives}
use Rattle.example_checks.proofs.outputs.commands.spent_run.Goals as goal

pub returns : goal.returns
returns g c = λ few.
    given words input output 8 _ _ _ _ (map string_bytes c.in_ok-words.words.items) c.in_ok-words.ensures few spent_run_gives c.status_of.result c.status_of.ensures
