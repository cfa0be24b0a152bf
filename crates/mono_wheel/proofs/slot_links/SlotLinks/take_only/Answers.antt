use Rattle.std.proofs.Common.{arith, refl, sym, subst, ap, ◌≡◌, ◌<◌, [], ◌∷◌}
use Rattle.mono_wheel.specs.Lists.{list_at, with_list, with_entry}
use Rattle.mono_wheel.specs.Bits.{Marks}
use Rattle.mono_wheel.specs.Start.{list_count}
use Rattle.mono_wheel.proofs.OccupancyLemmas.{marks-emptied, marks-same}
use Rattle.mono_wheel.proofs.slot_links.SlotLinks.take_only.Goals as goal

pub take_only-requires-clause-list : goal.take_only-requires-clause-list
take_only-requires-clause-list c = let low = c.requires.slot in let count = c.self.invariant.lists in omega (arith, low, count)

pub take_only-requires-clause-alone : goal.take_only-requires-clause-alone
take_only-requires-clause-alone c = subst (λ v. list_at v.table c.args.slot ≡ c.args.node ∷ []) (sym c.self.view_is) c.requires.alone

pub invariant_of-self : goal.invariant_of-self
invariant_of-self c =
    let links = c.self.inside.links in
    let low : c.args.slot < list_count = let below = c.requires.slot in omega (arith, below) in
    marks-same c.clear.new.self (with_list links c.args.slot []) c.take_only.new.self
    (marks-emptied c.self.inside.occupied c.clear.new.self links (with_list links c.args.slot []) c.args.slot [] c.self.invariant refl low refl c.clear.ensures.here c.clear.ensures.others)
    (ap (λ w. w.lists) c.take_only.ensures)

pub returns-clause-taken : goal.returns-clause-taken
returns-clause-taken c = subst (λ v. c.take_only.new.self ≡ with_entry (with_list v.table c.args.slot []) c.args.node c.args.entry) c.self.view_is c.take_only.ensures
