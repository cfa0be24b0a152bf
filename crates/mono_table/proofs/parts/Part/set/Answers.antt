use Rattle.std.proofs.Common.{ap, ◌∙◌, arith}
use Rattle.std.specs.Prelude.{is_some}
use Rattle.mono_model.specs.Table.{value_at, with_value}
use Rattle.mono_table.proofs.LayoutLemmas.{at_child, read_value, sets}
use Rattle.mono_table.proofs.parts.Part.set.Goals as goal

pub index_mut-requires : goal.index_mut-requires
index_mut-requires g c =
    let some = ap (λ table. is_some (value_at table c.args.number)) c.self.view_is ∙ c.requires in
    omega (arith, at_child 64 (omega arith) c.self.inside.pages.items c.self.inside.pages.cap c.self.inside.len c.self.inside.live c.self.invariant c.args.number some)

pub set-requires : goal.set-requires
set-requires g c =
    let some = ap (λ table. is_some (value_at table c.args.number)) c.self.view_is ∙ c.requires in
    read_value 64 (omega arith) c.self.inside.pages.items c.self.inside.pages.cap c.self.inside.len c.self.inside.live c.self.invariant c.args.number some c.index_mut.result.now c.index_mut.ensures.value

pub invariant_of-self : goal.invariant_of-self
invariant_of-self g c =
    let some = ap (λ table. is_some (value_at table c.args.number)) c.self.view_is ∙ c.requires in
    (sets 64 (omega arith) c.self.inside.pages.items c.self.inside.pages.cap c.self.inside.len c.self.inside.live c.self.invariant c.args.number some c.index_mut.result.now c.index_mut.ensures.value c.args.value c.set.new.self c.set.ensures).0

pub returns : goal.returns
returns g c =
    let some = ap (λ table. is_some (value_at table c.args.number)) c.self.view_is ∙ c.requires in
    (sets 64 (omega arith) c.self.inside.pages.items c.self.inside.pages.cap c.self.inside.len c.self.inside.live c.self.invariant c.args.number some c.index_mut.result.now c.index_mut.ensures.value c.args.value c.set.new.self c.set.ensures).1
    ∙ ap (λ table. with_value table c.args.number c.args.value) c.self.view_is
