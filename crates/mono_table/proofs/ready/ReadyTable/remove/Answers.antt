use Rattle.std.proofs.Common.{◌≡◌, true, None, ap, sym, subst, ◌∙◌, take}
use Rattle.std.specs.Prelude.{is_some}
use Rattle.std.proofs.Math.Seq.{take-set-lt}
use Rattle.mono_model.specs.Table.{value_at, without}
use Rattle.mono_table.proofs.ReadyLemmas.{inside}
use Rattle.mono_table.proofs.ready.ReadyTable.remove.Goals as goal

pub returns : goal.returns
returns g c =
    let there = subst (λ s. is_some (value_at s.table c.args.number) ≡ true) (sym c.self.view_is) c.requires in
    ap (take c.self.inside.next) c.remove.ensures
    ∙ take-set-lt c.self.inside.next c.self.inside.places c.args.number None (inside c.self.inside.places c.self.inside.next c.args.number c.self.invariant.enough there)
    ∙ ap (λ s. without s.table c.args.number) c.self.view_is
