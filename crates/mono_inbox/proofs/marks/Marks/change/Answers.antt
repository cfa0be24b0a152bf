use Rattle.std.proofs.Common.{refl, ap, ◌∙◌, arith}
use Rattle.std.specs.Prelude.{slice_set}
use Rattle.mono_inbox.specs.Standings.{has_place, standing_at}
use Rattle.mono_inbox.proofs.LayoutLemmas.{at_child, placed_in_read, changing_is, changing_laid}
use Rattle.mono_inbox.proofs.marks.Marks.change.Goals as goal

pub index_mut-requires : goal.index_mut-requires
index_mut-requires c =
    let placed = ap (λ s. has_place (standing_at s c.args.task)) c.self.view_is ∙ c.requires in
    omega (arith, at_child 1048576 (omega arith) c.self.inside.parts.items c.self.inside.len c.self.invariant c.args.task placed)

pub change-requires : goal.change-requires
change-requires c =
    let placed = ap (λ s. has_place (standing_at s c.args.task)) c.self.view_is ∙ c.requires in
    placed_in_read 1048576 (omega arith) c.self.inside.parts.items c.self.inside.len c.self.invariant c.args.task placed c.index_mut.result.now c.index_mut.ensures.value

pub invariant_of-self : goal.invariant_of-self
invariant_of-self c =
    let placed = ap (λ s. has_place (standing_at s c.args.task)) c.self.view_is ∙ c.requires in
    changing_laid 1048576 (omega arith) c.self.inside.parts.items c.self.inside.len c.self.invariant c.args.task placed c.index_mut.result.now c.index_mut.ensures.value c.args.standing _ refl c.change.new.self c.change.ensures

pub returns : goal.returns
returns c =
    let placed = ap (λ s. has_place (standing_at s c.args.task)) c.self.view_is ∙ c.requires in
    changing_is 1048576 (omega arith) c.self.inside.parts.items c.self.inside.len c.self.invariant c.args.task placed c.index_mut.result.now c.index_mut.ensures.value c.args.standing _ refl c.change.new.self c.change.ensures
    ∙ ap (λ s. slice_set s c.args.task c.args.standing) c.self.view_is
