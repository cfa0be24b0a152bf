use Rattle.std.proofs.Common.{refl, sym, ap, subst, ◌∙◌, Some}
use Rattle.mono_model.specs.Table.{value_at, without}
use Rattle.mono_sync.specs.Many.{parts_of, IsIdle, IsNoted}
use Rattle.mono_sync.proofs.ManyLemmas.{parts_without, noted_without, same_some}
use Rattle.mono_sync.proofs.tables.Many.remove.Goals as goal

pub invariant_of-self : goal.invariant_of-self
invariant_of-self g c = subst (λ places. IsNoted g.X.SharedState.owes places c.self.inside.touched) (sym c.take_out.ensures.without) (noted_without g.X.SharedState.owes c.self.inside.places c.self.inside.touched c.self.invariant c.args.key)

pub returns : goal.returns
returns g c =
    let here = ap (λ xs. value_at xs c.args.key) (sym c.self.view_is) ∙ c.take_out.ensures.value in
    let same = same_some c.in-Some.part.now c.take_out.result (c.in-Some.ensures ∙ here) in
    record {
      removed = (
        here,
        subst (IsIdle g.X.SharedState.waiting g.X.SharedState.owes) same (c.is_idle.ensures.0 c.if-not-is_idle.false),
        ap parts_of c.take_out.ensures.without ∙ parts_without c.self.inside.places c.args.key ∙ ap (λ xs. without xs c.args.key) c.self.view_is,
      );
    }
