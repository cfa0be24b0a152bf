use Rattle.std.proofs.Common.{refl, sym, ap, ◌∙◌, arith}
use Rattle.std.specs.Prelude.{is_some}
use Rattle.mono_model.specs.Table.{value_at, with_value}
use Rattle.mono_table.proofs.LayoutLemmas.{at_child, read_value, read_number, sets}
use Rattle.mono_table.proofs.parts.Part.value_mut.Goals as goal

pub index_mut-requires : goal.index_mut-requires
index_mut-requires g c =
    let some = ap (λ table. is_some (value_at table c.args.number)) c.self.view_is ∙ c.requires in
    omega (arith, at_child 64 (omega arith) c.self.inside.pages.items c.self.inside.pages.cap c.self.inside.len c.self.inside.live c.self.invariant c.args.number some)

pub value_mut-requires : goal.value_mut-requires
value_mut-requires g c =
    let some = ap (λ table. is_some (value_at table c.args.number)) c.self.view_is ∙ c.requires in
    read_value 64 (omega arith) c.self.inside.pages.items c.self.inside.pages.cap c.self.inside.len c.self.inside.live c.self.invariant c.args.number some c.index_mut.result.now c.index_mut.ensures.value

pub invariant_of-self-lent : goal.invariant_of-self-lent
invariant_of-self-lent g c w =
    let some = ap (λ table. is_some (value_at table c.args.number)) c.self.view_is ∙ c.requires in
    (sets 64 (omega arith) c.self.inside.pages.items c.self.inside.pages.cap c.self.inside.len c.self.inside.live c.self.invariant c.args.number some c.index_mut.result.now c.index_mut.ensures.value w _ refl).0

pub returns : goal.returns
returns g c =
    let some = ap (λ table. is_some (value_at table c.args.number)) c.self.view_is ∙ c.requires in
    let found = read_number 64 (omega arith) c.self.inside.pages.items c.self.inside.pages.cap c.self.inside.len c.self.inside.live c.self.invariant c.args.number some c.index_mut.result.now c.index_mut.ensures.value in (
      (refl, λ w. (sets 64 (omega arith) c.self.inside.pages.items c.self.inside.pages.cap c.self.inside.len c.self.inside.live c.self.invariant c.args.number some c.index_mut.result.now c.index_mut.ensures.value w _ refl).1 ∙ ap (λ table. with_value table c.args.number w) c.self.view_is),
      record { writes_back = tt; value = ap (λ table. value_at table c.args.number) (sym c.self.view_is) ∙ found ∙ c.value_mut.ensures.value },
    )
