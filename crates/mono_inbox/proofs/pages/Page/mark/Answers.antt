use Rattle.std.proofs.Common.{◌≡◌, ap, ◌∙◌, arith}
use Rattle.std.proofs.lemmas.List.{length-set}
use Rattle.mono_inbox.specs.declared.standings.Standing.TheVariants.{Unknown}
use Rattle.mono_inbox.specs.Standings.{standing_at}
use Rattle.mono_inbox.specs.Pages.{grown}
use Rattle.mono_inbox.proofs.LayoutLemmas.{mark-count, count_within, length-grown}
use Rattle.mono_inbox.proofs.pages.Page.mark.Goals as goal

pub overflow_add-self : goal.overflow_add-self
overflow_add-self c = omega (arith, c.self.invariant.placed_is, count_within c.self.inside.standings.items, c.self.invariant.within)

pub invariant_of-self-2 : goal.invariant_of-self-2
invariant_of-self-2 c =
    let unknown : standing_at c.self.inside.standings.items c.args.at ≡ Unknown = ap (λ s. standing_at s c.args.at) c.self.view_is ∙ c.requires.unknown in
    let same = length-set (grown c.self.inside.standings.items c.args.at) c.args.at c.args.standing in
    let longer = length-grown c.self.inside.standings.items c.args.at in
    rw c.in_ok-put_mark.ensures.items (record {
      placed_is = omega (arith, c.self.invariant.placed_is, mark-count c.self.inside.standings.items c.args.at c.args.standing unknown c.requires.placed);
      within = omega (arith, same, longer, c.self.invariant.within, c.requires.inside);
      bare = λ none. absurd (omega (arith, none, same, longer));
    })
