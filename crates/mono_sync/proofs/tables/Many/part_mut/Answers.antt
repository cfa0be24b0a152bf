use Rattle.std.proofs.Common.{refl, sym, ap, ◌∙◌, Some}
use Rattle.mono_model.specs.Table.{value_at, with_value}
use Rattle.mono_sync.specs.Many.{part_in}
use Rattle.mono_sync.proofs.ManyLemmas.{part_at, parts_with, noted_with}
use Rattle.mono_sync.proofs.tables.Many.part_mut.Goals as goal

pub invariant_of-self-lent : goal.invariant_of-self-lent
invariant_of-self-lent g c w = noted_with g.X.SharedState.owes c.self.inside.places c.self.inside.touched c.self.invariant c.mark.new.self c.args.key w c.mark.ensures.marked c.mark.ensures.others

pub returns : goal.returns
returns g c = (
  (refl, λ w. parts_with c.self.inside.places c.args.key w ∙ ap (λ xs. with_value xs c.args.key w) c.self.view_is),
  record {
    writes_back = tt;
    value = ap (λ xs. value_at xs c.args.key) (sym c.self.view_is) ∙ part_at c.self.inside.places c.args.key ∙ ap part_in (c.value_mut-place.ensures.value ∙ ap (λ x. Some x) c.in_place.ensures.value);
  },
)
