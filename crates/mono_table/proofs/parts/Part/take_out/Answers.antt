use Rattle.std.proofs.Common.{◌/◌, ap, ◌∙◌, arith}
use Rattle.std.specs.Prelude.{is_some}
use Rattle.mono_model.specs.Table.{value_at, without}
use Rattle.mono_table.proofs.LayoutLemmas.{at_child, read_value, removes, some_live, below_is}
use Rattle.mono_table.proofs.parts.Part.take_out.Goals as goal

pub index_mut-requires : goal.index_mut-requires
index_mut-requires g c =
    let some = ap (λ table. is_some (value_at table c.args.number)) c.self.view_is ∙ c.requires in
    omega (arith, at_child 64 (omega arith) c.self.inside.pages.items c.self.inside.pages.cap c.self.inside.len c.self.inside.live c.self.invariant c.args.number some)

pub remove-requires : goal.remove-requires
remove-requires g c =
    let some = ap (λ table. is_some (value_at table c.args.number)) c.self.view_is ∙ c.requires in
    read_value 64 (omega arith) c.self.inside.pages.items c.self.inside.pages.cap c.self.inside.len c.self.inside.live c.self.invariant c.args.number some c.index_mut.result.now c.index_mut.ensures.value

pub overflow_sub-self : goal.overflow_sub-self
overflow_sub-self g c =
    let some = ap (λ table. is_some (value_at table c.args.number)) c.self.view_is ∙ c.requires in
    some_live 64 (omega arith) c.self.inside.pages.items c.self.inside.pages.cap c.self.inside.len c.self.inside.live c.self.invariant c.args.number some

pub invariant_of-self : goal.invariant_of-self
invariant_of-self g c =
    let some = ap (λ table. is_some (value_at table c.args.number)) c.self.view_is ∙ c.requires in
    (removes 64 (omega arith) c.self.inside.pages.items c.self.inside.pages.cap c.self.inside.len c.self.inside.live c.self.invariant c.args.number some c.index_mut.result.now c.index_mut.ensures.value _ (below_is (c.args.number / 64) (c.self.inside.len / 64)) c.remove.new.self c.remove.ensures).0

pub returns : goal.returns
returns g c =
    let some = ap (λ table. is_some (value_at table c.args.number)) c.self.view_is ∙ c.requires in
    (removes 64 (omega arith) c.self.inside.pages.items c.self.inside.pages.cap c.self.inside.len c.self.inside.live c.self.invariant c.args.number some c.index_mut.result.now c.index_mut.ensures.value _ (below_is (c.args.number / 64) (c.self.inside.len / 64)) c.remove.new.self c.remove.ensures).1
    ∙ ap (λ table. without table c.args.number) c.self.view_is
