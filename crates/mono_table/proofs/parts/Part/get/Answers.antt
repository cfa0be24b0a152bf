use Rattle.std.proofs.Common.{ap, ◌∙◌, arith}
use Rattle.mono_model.specs.Table.{value_at}
use Rattle.mono_table.proofs.LayoutLemmas.{get_reads, look_past}
use Rattle.mono_table.proofs.parts.Part.get.Goals as goal

pub returns-then-number-self : goal.returns-then-number-self
returns-then-number-self g c =
    look_past 64 (omega arith) c.self.inside.pages.items c.self.inside.pages.cap c.self.inside.len c.self.inside.live c.self.invariant c.args.number (omega arith)
    ∙ ap (λ table. value_at table c.args.number) c.self.view_is

pub returns : goal.returns
returns g c =
    c.get.ensures ∙ get_reads 64 (omega arith) c.self.inside.pages.items c.self.inside.pages.cap c.self.inside.len c.self.inside.live c.self.invariant c.args.number (omega arith) c.index.result.now c.index.ensures
    ∙ ap (λ table. value_at table c.args.number) c.self.view_is
