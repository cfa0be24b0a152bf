use Rattle.std.proofs.Common.{ap, ◌∙◌, arith, length}
use Rattle.mono_model.specs.Table.{with_next}
use Rattle.mono_table.proofs.LayoutLemmas.{length_is, on_ok, pushes}
use Rattle.mono_table.proofs.parts.Part.push_or_back.Goals as goal

pub overflow_add-self : goal.overflow_add-self
overflow_add-self g c =
    omega (arith, length_is 64 (omega arith) c.self.inside.pages.items c.self.inside.pages.cap c.self.inside.len c.self.inside.live c.self.invariant, ap length c.self.view_is, c.requires)

pub invariant_of-self-in-Ok : goal.invariant_of-self-in-Ok
invariant_of-self-in-Ok g c =
    (pushes 64 (omega arith) c.self.inside.pages.items c.self.inside.pages.cap c.self.inside.len c.self.inside.live c.self.invariant c.open_page.new.pages.items c.open_page.new.pages.cap c.open_page.ensures.same c.open_page.ensures.longer c.open_page.ensures.no_more (on_ok c.open_page.result _ c.if-is_err.ensures.value c.open_page.ensures.inside) c.index_mut.result.now c.push_or_back.new.self c.index_mut.ensures.value c.args.value c.in-Ok.ensures.after).0

pub returns-in-Ok-clause-after : goal.returns-in-Ok-clause-after
returns-in-Ok-clause-after g c =
    (pushes 64 (omega arith) c.self.inside.pages.items c.self.inside.pages.cap c.self.inside.len c.self.inside.live c.self.invariant c.open_page.new.pages.items c.open_page.new.pages.cap c.open_page.ensures.same c.open_page.ensures.longer c.open_page.ensures.no_more (on_ok c.open_page.result _ c.if-is_err.ensures.value c.open_page.ensures.inside) c.index_mut.result.now c.push_or_back.new.self c.index_mut.ensures.value c.args.value c.in-Ok.ensures.after).1
    ∙ ap (λ table. with_next table c.args.value) c.self.view_is
