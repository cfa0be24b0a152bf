use Rattle.std.proofs.Common.{length, ap, sym, ◌∙◌, arith}
use Rattle.mono_inbox.specs.Standings.{has_place, count_where}
use Rattle.mono_inbox.proofs.RowRemovalLemmas.{length-without, count-without}
use Rattle.mono_inbox.proofs.pages.Page.write_row.Goals as goal

pub overflow_sub-self : goal.overflow_sub-self
overflow_sub-self c = omega (arith, c.self.invariant.placed_is, count-without c.self.inside.standings.items c.args.at c.clear_known-row.result c.clear_known-row.ensures.known)

pub invariant_of-self : goal.invariant_of-self
invariant_of-self c =
    let before = c.self.inside.standings.items in
    let same = ap length c.clear_known-row.ensures.items ∙ length-without before c.args.at c.clear_known-row.result in
    record {
      placed_is = omega (arith, c.self.invariant.placed_is, count-without before c.args.at c.clear_known-row.result c.clear_known-row.ensures.known, ap (count_where has_place) c.clear_known-row.ensures.items);
      within = omega (arith, same, c.self.invariant.within);
      bare = λ none. c.clear_known-row.ensures.room ∙ c.self.invariant.bare (sym same ∙ none);
    }
