use Rattle.std.proofs.Common.{◌≡◌, true, Some, ap, sym, subst, ◌∙◌}
use Rattle.std.specs.Prelude.{is_some}
use Rattle.std.proofs.Math.Seq.{take-set-lt}
use Rattle.mono_model.specs.Table.{value_at, with_value}
use Rattle.mono_table.proofs.ReadyLemmas.{inside}
use Rattle.mono_table.proofs.ready.ReadyTable.replace.Goals as goal

pub returns-clause-table : goal.returns-clause-table
returns-clause-table g c =
    let there = subst (λ s. is_some (value_at s.table c.args.number) ≡ true) (sym c.self.view_is) c.requires in
    take-set-lt c.self.inside.next c.self.inside.places c.args.number (Some c.replace.new.dest) (inside c.self.inside.places c.self.inside.next c.args.number c.self.invariant.enough there)
    ∙ ap (λ s. with_value s.table c.args.number c.replace.new.dest) c.self.view_is
    ∙ ap (with_value c.args.self.now.table c.args.number) c.replace.ensures.after
