use Rattle.std.specs.Prelude.{map, string_bytes}
use Rattle.example_checks.proofs.OutputLemmas.{given}
use Rattle.example_checks.proofs.ActorLemmas.{words, input, output, actors_give}
use Rattle.example_checks.proofs.outputs.commands.actors.Goals as goal

pub returns : goal.returns
returns g c = λ few.
    given words input output 0 _ _ _ _ (map string_bytes c.in_ok-words.words.items) c.in_ok-words.ensures few actors_give c.status_of.result c.status_of.ensures
