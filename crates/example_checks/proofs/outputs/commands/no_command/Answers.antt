use Rattle.std.specs.Prelude.{map, string_bytes}
use Rattle.example_checks.proofs.NoCommandLemmas.{nothing_given}
use Rattle.example_checks.proofs.outputs.commands.no_command.Goals as goal

pub returns : goal.returns
returns g c =
    nothing_given _ _ _ _ (map string_bytes c.in_ok-words.words.items) c.in_ok-words.ensures c.status_of.result c.status_of.ensures
