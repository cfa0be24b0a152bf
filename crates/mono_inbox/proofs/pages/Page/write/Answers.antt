use Rattle.std.proofs.Common.{◌≡◌, true, ap, sym, ◌∙◌, arith}
use Rattle.std.proofs.lemmas.List.{length-set}
use Rattle.mono_inbox.specs.Standings.{has_place, standing_at}
use Rattle.mono_inbox.proofs.LayoutLemmas.{change-count, change-some}
use Rattle.mono_inbox.proofs.pages.Page.write.Goals as goal

pub overflow_sub-self : goal.overflow_sub-self
overflow_sub-self c =
    let placed : has_place (standing_at c.self.inside.standings.items c.args.at) ≡ true = ap (λ s. has_place (standing_at s c.args.at)) c.self.view_is ∙ c.requires in
    omega (arith, c.self.invariant.placed_is, change-some c.self.inside.standings.items c.args.at placed)

pub invariant_of-self : goal.invariant_of-self
invariant_of-self c =
    let placed : has_place (standing_at c.self.inside.standings.items c.args.at) ≡ true = ap (λ s. has_place (standing_at s c.args.at)) c.self.view_is ∙ c.requires in
    let same = length-set c.self.inside.standings.items c.args.at c.args.standing in
    record {
      placed_is = omega (arith, c.self.invariant.placed_is, c.places_of.ensures, change-some c.self.inside.standings.items c.args.at placed, change-count c.self.inside.standings.items c.args.at c.args.standing placed);
      within = omega (arith, same, c.self.invariant.within);
      bare = λ none. c.self.invariant.bare (sym same ∙ none);
    }
