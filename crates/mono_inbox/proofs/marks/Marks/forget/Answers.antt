use Rattle.std.proofs.Common.{◌≤◌, ◌+◌, ◌%◌, List, refl, ap, subst, ◌∙◌, arith}
use Rattle.mono_inbox.specs.declared.standings.Standing.{Standing}
use Rattle.mono_inbox.specs.Standings.{has_place, standing_at, AreKnown, without_row}
use Rattle.mono_inbox.proofs.LayoutLemmas.{at_child, given, placed_in_read}
use Rattle.mono_inbox.proofs.RowRemovalLemmas.{forgetting_known, forgetting_is, forgetting_laid}
use Rattle.mono_inbox.proofs.marks.Marks.forget.Goals as goal

pub index_mut-requires : goal.index_mut-requires
index_mut-requires c =
    let placed = ap (λ s. has_place (standing_at s c.args.task)) c.self.view_is ∙ c.requires in
    omega (arith, at_child 1048576 (omega arith) c.self.inside.parts.items c.self.inside.len c.self.invariant c.args.task placed)

pub forget-requires : goal.forget-requires
forget-requires c =
    let placed = ap (λ s. has_place (standing_at s c.args.task)) c.self.view_is ∙ c.requires in
    placed_in_read 1048576 (omega arith) c.self.inside.parts.items c.self.inside.len c.self.invariant c.args.task placed c.index_mut.result.now c.index_mut.ensures.value

pub invariant_of-self : goal.invariant_of-self
invariant_of-self c =
    let parts = c.self.inside.parts.items in
    let len = c.self.inside.len in
    let laid = c.self.invariant in
    let task = c.args.task in
    let row = c.forget.result in
    let placed = ap (λ s. has_place (standing_at s task)) c.self.view_is ∙ c.requires in
    let fits : task % 1048576 + row ≤ 1048576 = omega (arith, c.forget.ensures.most, c.lesser_of-most.ensures.second) in
    forgetting_laid 1048576 (omega arith) parts len laid task (given 1048576 (omega arith) parts len laid task placed) (at_child 1048576 (omega arith) parts len laid task placed)
    c.index_mut.result.now c.forget.new.self c.index_mut.ensures.value row fits c.forget.ensures.known _ refl c.forget.ensures.after

pub returns-clause-known : goal.returns-clause-known
returns-clause-known c =
    let parts = c.self.inside.parts.items in
    let len = c.self.inside.len in
    let laid = c.self.invariant in
    let task = c.args.task in
    let row = c.forget.result in
    let placed = ap (λ s. has_place (standing_at s task)) c.self.view_is ∙ c.requires in
    let fits : task % 1048576 + row ≤ 1048576 = omega (arith, c.forget.ensures.most, c.lesser_of-most.ensures.second) in
    subst (λ (s : List Standing). AreKnown s task row) c.self.view_is
    (forgetting_known 1048576 (omega arith) parts len laid task (given 1048576 (omega arith) parts len laid task placed) (at_child 1048576 (omega arith) parts len laid task placed)
    c.index_mut.result.now c.forget.new.self c.index_mut.ensures.value row fits c.forget.ensures.known _ refl c.forget.ensures.after)

pub returns-clause-after : goal.returns-clause-after
returns-clause-after c =
    let parts = c.self.inside.parts.items in
    let len = c.self.inside.len in
    let laid = c.self.invariant in
    let task = c.args.task in
    let row = c.forget.result in
    let placed = ap (λ s. has_place (standing_at s task)) c.self.view_is ∙ c.requires in
    let fits : task % 1048576 + row ≤ 1048576 = omega (arith, c.forget.ensures.most, c.lesser_of-most.ensures.second) in
    forgetting_is 1048576 (omega arith) parts len laid task (given 1048576 (omega arith) parts len laid task placed) (at_child 1048576 (omega arith) parts len laid task placed)
    c.index_mut.result.now c.forget.new.self c.index_mut.ensures.value row fits c.forget.ensures.known _ refl c.forget.ensures.after
    ∙ ap (λ s. without_row s task row) c.self.view_is
