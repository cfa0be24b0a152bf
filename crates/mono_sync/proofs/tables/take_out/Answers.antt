use Rattle.std.proofs.Common.{◌∙◌, None}
use Rattle.std.proofs.lemmas.List.{set-set}
use Rattle.mono_sync.proofs.tables.take_out.Goals as goal

pub returns-clause-without : goal.returns-clause-without
returns-clause-without g c = c.remove.ensures ∙ set-set c.args.places.now c.args.key _ None
