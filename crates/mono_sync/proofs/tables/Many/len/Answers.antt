use Rattle.std.proofs.Common.{ap, ◌∙◌}
use Rattle.mono_model.specs.Table.{count_of}
use Rattle.mono_sync.proofs.ManyLemmas.{parts_count}
use Rattle.mono_sync.proofs.tables.Many.len.Goals as goal

pub returns : goal.returns
returns g c = c.count.ensures ∙ parts_count c.self.inside.places c.self.invariant.full ∙ ap count_of c.self.view_is
