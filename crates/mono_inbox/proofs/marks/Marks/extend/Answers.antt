use Rattle.std.proofs.Common.{◌≡◌, ◌<◌, ◌≤◌, ◌+◌, ◌/◌, ◌%◌, length, ap, sym, ◌∙◌, arith}
use Rattle.mono_inbox.proofs.LayoutLemmas.{child_is}
use Rattle.mono_inbox.proofs.RowGrowthLemmas.{with_row, extending_is, extending_laid}
use Rattle.mono_inbox.proofs.marks.Marks.extend.Goals as goal

pub invariant_of-self : goal.invariant_of-self
invariant_of-self c =
    let parts = c.self.inside.parts.items in
    let len = c.self.inside.len in
    let more = c.extend-more.result in
    let inside : len / 1048576 < length parts = omega arith in
    let same = sym (child_is parts (len / 1048576) c.index_mut.result.now inside c.index_mut.ensures.value) ∙ child_is parts (len / 1048576) c.index.result.now inside c.index.ensures in
    let as_far : length c.index_mut.result.now ≡ len % 1048576 = omega (arith, ap length same) in
    let fits : len % 1048576 + more ≤ 1048576 = omega (arith, c.extend-more.ensures.most, c.lesser_of.ensures.second, c.lesser_of-most.ensures.first) in
    extending_laid 1048576 (omega arith) parts len c.self.invariant inside c.index_mut.result.now c.extend-more.new.self c.index_mut.ensures.value as_far more fits c.extend-more.ensures.after

pub returns-clause-after : goal.returns-clause-after
returns-clause-after c =
    let parts = c.self.inside.parts.items in
    let len = c.self.inside.len in
    let more = c.extend-more.result in
    let inside : len / 1048576 < length parts = omega arith in
    let same = sym (child_is parts (len / 1048576) c.index_mut.result.now inside c.index_mut.ensures.value) ∙ child_is parts (len / 1048576) c.index.result.now inside c.index.ensures in
    let as_far : length c.index_mut.result.now ≡ len % 1048576 = omega (arith, ap length same) in
    let fits : len % 1048576 + more ≤ 1048576 = omega (arith, c.extend-more.ensures.most, c.lesser_of.ensures.second, c.lesser_of-most.ensures.first) in
    extending_is 1048576 (omega arith) parts len c.self.invariant inside c.index_mut.result.now c.extend-more.new.self c.index_mut.ensures.value as_far more fits c.extend-more.ensures.after
    ∙ ap (λ s. with_row s more) c.self.view_is
