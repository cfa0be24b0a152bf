use Rattle.std.proofs.Common.{◌/◌, refl, ap, sym, ◌∙◌, arith}
use Rattle.std.specs.Prelude.{slice_set}
use Rattle.std.proofs.lemmas.List.{length-set}
use Rattle.mono_inbox.specs.Standings.{has_place, standing_at, count_where}
use Rattle.mono_inbox.specs.Pages.{laid_standings}
use Rattle.mono_inbox.proofs.LayoutLemmas.{at_child, placed_in_read, changing_is, changing_laid, change-count, change-some}
use Rattle.mono_inbox.proofs.parts.Part.write.Goals as goal

pub index_mut-requires : goal.index_mut-requires
index_mut-requires c =
    let placed = ap (λ s. has_place (standing_at s c.args.task)) c.self.view_is ∙ c.requires in
    omega (arith, at_child 4096 (omega arith) c.self.inside.pages.items c.self.inside.len c.self.invariant.laid c.args.task placed)

pub change-requires : goal.change-requires
change-requires c =
    let placed = ap (λ s. has_place (standing_at s c.args.task)) c.self.view_is ∙ c.requires in
    placed_in_read 4096 (omega arith) c.self.inside.pages.items c.self.inside.len c.self.invariant.laid c.args.task placed c.index_mut.result.now c.index_mut.ensures.value

pub overflow_sub-self : goal.overflow_sub-self
overflow_sub-self c =
    let placed = ap (λ s. has_place (standing_at s c.args.task)) c.self.view_is ∙ c.requires in
    omega (arith, c.self.invariant.placed_is, change-some (laid_standings 4096 c.self.inside.pages.items c.self.inside.len) c.args.task placed)

pub invariant_of-self : goal.invariant_of-self
invariant_of-self c =
    let placed = ap (λ s. has_place (standing_at s c.args.task)) c.self.view_is ∙ c.requires in
    let before = laid_standings 4096 c.self.inside.pages.items c.self.inside.len in
    let is = changing_is 4096 (omega arith) c.self.inside.pages.items c.self.inside.len c.self.invariant.laid c.args.task placed c.index_mut.result.now c.index_mut.ensures.value c.args.standing _ refl c.change.new.self c.change.ensures in
    record {
      laid = changing_laid 4096 (omega arith) c.self.inside.pages.items c.self.inside.len c.self.invariant.laid c.args.task placed c.index_mut.result.now c.index_mut.ensures.value c.args.standing _ refl c.change.new.self c.change.ensures;
      within = c.self.invariant.within;
      placed_is = omega (arith, c.self.invariant.placed_is, c.places_of.ensures, change-some before c.args.task placed, change-count before c.args.task c.args.standing placed, ap (count_where has_place) is);
      bare = λ none. c.self.invariant.bare (sym (length-set c.self.inside.pages.items (c.args.task / 4096) c.change.new.self) ∙ none);
    }

pub returns : goal.returns
returns c =
    let placed = ap (λ s. has_place (standing_at s c.args.task)) c.self.view_is ∙ c.requires in
    changing_is 4096 (omega arith) c.self.inside.pages.items c.self.inside.len c.self.invariant.laid c.args.task placed c.index_mut.result.now c.index_mut.ensures.value c.args.standing _ refl c.change.new.self c.change.ensures
    ∙ ap (λ s. slice_set s c.args.task c.args.standing) c.self.view_is
