use Rattle.std.proofs.Common.{◌≡◌, ◌<◌, ◌≤◌, ◌+◌, ◌/◌, ◌%◌, length, ap, sym, ◌∙◌, arith}
use Rattle.std.proofs.lemmas.List.{length-set}
use Rattle.mono_inbox.specs.Standings.{has_place, count_where}
use Rattle.mono_inbox.specs.Pages.{look_in, laid_standings}
use Rattle.mono_inbox.proofs.LayoutLemmas.{child_is, count_within, length-standings_of}
use Rattle.mono_inbox.proofs.RowGrowthLemmas.{with_row, count-row, extending_is, extending_laid}
use Rattle.mono_inbox.proofs.parts.Part.extend.Goals as goal

pub overflow_add-self-in-Ok : goal.overflow_add-self-in-Ok
overflow_add-self-in-Ok c =
    let before = laid_standings 4096 c.self.inside.pages.items c.self.inside.len in
    omega (arith, c.self.invariant.placed_is, count_within before, length-standings_of (look_in 4096 c.self.inside.pages.items) c.self.inside.len, ap length c.self.view_is, c.requires.inside, c.lesser_of-more.ensures.first)

pub invariant_of-self-in-Ok : goal.invariant_of-self-in-Ok
invariant_of-self-in-Ok c =
    let pages = c.self.inside.pages.items in
    let len = c.self.inside.len in
    let more = c.lesser_of-more.result in
    let before = laid_standings 4096 pages len in
    let inside : len / 4096 < length pages = omega arith in
    let same = sym (child_is pages (len / 4096) c.index_mut.result.now inside c.index_mut.ensures.value) ∙ child_is pages (len / 4096) c.index.result.now inside c.index.ensures in
    let as_far : length c.index_mut.result.now ≡ len % 4096 = omega (arith, ap length same) in
    let fits : len % 4096 + more ≤ 4096 = omega (arith, c.lesser_of-more.ensures.second) in
    let is = extending_is 4096 (omega arith) pages len c.self.invariant.laid inside c.index_mut.result.now c.extend.new.self c.index_mut.ensures.value as_far more fits c.in-Ok.ensures.after in
    record {
      laid = extending_laid 4096 (omega arith) pages len c.self.invariant.laid inside c.index_mut.result.now c.extend.new.self c.index_mut.ensures.value as_far more fits c.in-Ok.ensures.after;
      within = omega (arith, length-standings_of (look_in 4096 pages) len, ap length c.self.view_is, c.requires.inside, c.lesser_of-more.ensures.first);
      placed_is = omega (arith, c.self.invariant.placed_is, count-row before more, ap (count_where has_place) is);
      bare = λ none. absurd (omega (arith, none, length-set pages (len / 4096) c.extend.new.self, inside));
    }

pub returns-in-Ok-clause-after : goal.returns-in-Ok-clause-after
returns-in-Ok-clause-after c =
    let pages = c.self.inside.pages.items in
    let len = c.self.inside.len in
    let more = c.lesser_of-more.result in
    let inside : len / 4096 < length pages = omega arith in
    let same = sym (child_is pages (len / 4096) c.index_mut.result.now inside c.index_mut.ensures.value) ∙ child_is pages (len / 4096) c.index.result.now inside c.index.ensures in
    let as_far : length c.index_mut.result.now ≡ len % 4096 = omega (arith, ap length same) in
    let fits : len % 4096 + more ≤ 4096 = omega (arith, c.lesser_of-more.ensures.second) in
    extending_is 4096 (omega arith) pages len c.self.invariant.laid inside c.index_mut.result.now c.extend.new.self c.index_mut.ensures.value as_far more fits c.in-Ok.ensures.after
    ∙ ap (λ s. with_row s more) c.self.view_is
