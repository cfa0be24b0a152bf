use Rattle.std.proofs.Common.{◌≡◌, length, ap, ◌∙◌, arith}
use Rattle.mono_inbox.specs.Standings.{has_place, count_where}
use Rattle.mono_inbox.proofs.LayoutLemmas.{count_within}
use Rattle.mono_inbox.proofs.RowGrowthLemmas.{with_row, length-row, count-row}
use Rattle.mono_inbox.proofs.pages.Page.extend.Goals as goal

pub overflow_add-self : goal.overflow_add-self
overflow_add-self c = omega (arith, c.self.invariant.placed_is, count_within c.self.inside.standings.items, c.requires.inside, ap length c.self.view_is)

pub invariant_of-self-2 : goal.invariant_of-self-2
invariant_of-self-2 c =
    let before = c.self.inside.standings.items in
    let is : c.fill.new.standings.items ≡ with_row before c.args.count = c.fill.ensures.items ∙ ap (λ xs. with_row xs c.args.count) c.reserve.ensures.items in
    let longer = ap length is ∙ length-row before c.args.count in
    record {
      placed_is = omega (arith, c.self.invariant.placed_is, count-row before c.args.count, ap (count_where has_place) is);
      within = omega (arith, longer, c.requires.inside, ap length c.self.view_is);
      bare = λ none. absurd (omega (arith, none, longer, c.requires.begun, ap length c.self.view_is));
    }
