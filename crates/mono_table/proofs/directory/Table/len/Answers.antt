use Rattle.std.proofs.Common.{length, ap, ◌∙◌, arith}
use Rattle.mono_table.proofs.LayoutLemmas.{length_is}
use Rattle.mono_table.proofs.directory.Table.len.Goals as goal

pub returns : goal.returns
returns g c = length_is 65536 (omega arith) c.self.inside.parts.items c.self.inside.parts.cap c.self.inside.len c.self.inside.live c.self.invariant ∙ ap length c.self.view_is
