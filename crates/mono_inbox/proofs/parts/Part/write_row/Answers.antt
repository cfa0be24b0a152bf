use Rattle.std.proofs.Common.{◌≤◌, ◌+◌, ◌/◌, ◌%◌, List, refl, ap, sym, subst, ◌∙◌, arith}
use Rattle.std.proofs.lemmas.List.{length-set}
use Rattle.mono_inbox.specs.declared.standings.Standing.{Standing}
use Rattle.mono_inbox.specs.Standings.{has_place, standing_at, count_where, AreKnown, without_row}
use Rattle.mono_inbox.specs.Pages.{laid_standings}
use Rattle.mono_inbox.proofs.LayoutLemmas.{at_child, given}
use Rattle.mono_inbox.proofs.RowRemovalLemmas.{count-without, forgetting_known, forgetting_is, forgetting_laid}
use Rattle.mono_inbox.proofs.parts.Part.write_row.Goals as goal

pub index_mut-requires : goal.index_mut-requires
index_mut-requires c =
    let placed = ap (λ s. has_place (standing_at s c.args.task)) c.self.view_is ∙ c.requires in
    omega (arith, at_child 4096 (omega arith) c.self.inside.pages.items c.self.inside.len c.self.invariant.laid c.args.task placed)

pub overflow_sub-self : goal.overflow_sub-self
overflow_sub-self c =
    let pages = c.self.inside.pages.items in
    let len = c.self.inside.len in
    let laid = c.self.invariant.laid in
    let task = c.args.task in
    let row = c.forget-row.result in
    let placed = ap (λ s. has_place (standing_at s task)) c.self.view_is ∙ c.requires in
    let fits : task % 4096 + row ≤ 4096 = omega (arith, c.forget-row.ensures.most, c.lesser_of-most.ensures.second) in
    let known = forgetting_known 4096 (omega arith) pages len laid task (given 4096 (omega arith) pages len laid task placed) (at_child 4096 (omega arith) pages len laid task placed)
    c.index_mut.result.now c.forget-row.new.self c.index_mut.ensures.value row fits c.forget-row.ensures.known _ refl c.forget-row.ensures.after in
    omega (arith, c.self.invariant.placed_is, count-without (laid_standings 4096 pages len) task row known)

pub invariant_of-self : goal.invariant_of-self
invariant_of-self c =
    let pages = c.self.inside.pages.items in
    let len = c.self.inside.len in
    let laid = c.self.invariant.laid in
    let task = c.args.task in
    let row = c.forget-row.result in
    let placed = ap (λ s. has_place (standing_at s task)) c.self.view_is ∙ c.requires in
    let fits : task % 4096 + row ≤ 4096 = omega (arith, c.forget-row.ensures.most, c.lesser_of-most.ensures.second) in
    let known = forgetting_known 4096 (omega arith) pages len laid task (given 4096 (omega arith) pages len laid task placed) (at_child 4096 (omega arith) pages len laid task placed)
    c.index_mut.result.now c.forget-row.new.self c.index_mut.ensures.value row fits c.forget-row.ensures.known _ refl c.forget-row.ensures.after in
    let is = forgetting_is 4096 (omega arith) pages len laid task (given 4096 (omega arith) pages len laid task placed) (at_child 4096 (omega arith) pages len laid task placed)
    c.index_mut.result.now c.forget-row.new.self c.index_mut.ensures.value row fits c.forget-row.ensures.known _ refl c.forget-row.ensures.after in
    record {
      laid = forgetting_laid 4096 (omega arith) pages len laid task (given 4096 (omega arith) pages len laid task placed) (at_child 4096 (omega arith) pages len laid task placed)
          c.index_mut.result.now c.forget-row.new.self c.index_mut.ensures.value row fits c.forget-row.ensures.known _ refl c.forget-row.ensures.after;
      within = c.self.invariant.within;
      placed_is = omega (arith, c.self.invariant.placed_is, count-without (laid_standings 4096 pages len) task row known, ap (count_where has_place) is);
      bare = λ none. c.self.invariant.bare (sym (length-set pages (task / 4096) c.forget-row.new.self) ∙ none);
    }

pub returns-clause-known : goal.returns-clause-known
returns-clause-known c =
    let pages = c.self.inside.pages.items in
    let len = c.self.inside.len in
    let laid = c.self.invariant.laid in
    let task = c.args.task in
    let row = c.forget-row.result in
    let placed = ap (λ s. has_place (standing_at s task)) c.self.view_is ∙ c.requires in
    let fits : task % 4096 + row ≤ 4096 = omega (arith, c.forget-row.ensures.most, c.lesser_of-most.ensures.second) in
    subst (λ (s : List Standing). AreKnown s task row) c.self.view_is
    (forgetting_known 4096 (omega arith) pages len laid task (given 4096 (omega arith) pages len laid task placed) (at_child 4096 (omega arith) pages len laid task placed)
    c.index_mut.result.now c.forget-row.new.self c.index_mut.ensures.value row fits c.forget-row.ensures.known _ refl c.forget-row.ensures.after)

pub returns-clause-after : goal.returns-clause-after
returns-clause-after c =
    let pages = c.self.inside.pages.items in
    let len = c.self.inside.len in
    let laid = c.self.invariant.laid in
    let task = c.args.task in
    let row = c.forget-row.result in
    let placed = ap (λ s. has_place (standing_at s task)) c.self.view_is ∙ c.requires in
    let fits : task % 4096 + row ≤ 4096 = omega (arith, c.forget-row.ensures.most, c.lesser_of-most.ensures.second) in
    forgetting_is 4096 (omega arith) pages len laid task (given 4096 (omega arith) pages len laid task placed) (at_child 4096 (omega arith) pages len laid task placed)
    c.index_mut.result.now c.forget-row.new.self c.index_mut.ensures.value row fits c.forget-row.ensures.known _ refl c.forget-row.ensures.after
    ∙ ap (λ s. without_row s task row) c.self.view_is
