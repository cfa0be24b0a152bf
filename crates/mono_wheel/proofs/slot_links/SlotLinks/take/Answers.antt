use Rattle.std.proofs.Common.{arith, refl, sym, subst, ◌≡◌, ◌<◌, []}
use Rattle.mono_wheel.specs.Lists.{list_at, with_list}
use Rattle.mono_wheel.specs.Rings.{Distinct}
use Rattle.mono_wheel.specs.Start.{taken_list, list_count}
use Rattle.mono_wheel.proofs.OccupancyLemmas.{marks-beyond, marks-emptied}
use Rattle.mono_wheel.proofs.slot_links.SlotLinks.take.Goals as goal

pub take-requires-clause-from : goal.take-requires-clause-from
take-requires-clause-from c = let low = c.requires.slot in let count = c.self.invariant.lists in omega (arith, low, count)

pub take-requires-clause-to : goal.take-requires-clause-to
take-requires-clause-to c = let count = c.self.invariant.lists in omega (arith, count)

pub take-requires-clause-empty : goal.take-requires-clause-empty
take-requires-clause-empty c = subst (λ v. list_at v.table taken_list ≡ []) (sym c.self.view_is) c.requires.empty

pub invariant_of-self : goal.invariant_of-self
invariant_of-self c =
    let links = c.self.inside.links in
    let low : c.args.slot < list_count = let below = c.requires.slot in omega (arith, below) in
    marks-beyond c.clear.new.self (with_list links c.args.slot []) c.take.new.self taken_list (list_at links c.args.slot)
    (marks-emptied c.self.inside.occupied c.clear.new.self links (with_list links c.args.slot []) c.args.slot [] c.self.invariant refl low refl c.clear.ensures.here c.clear.ensures.others)
    c.take.ensures.moved (omega arith) (omega arith)

pub returns-clause-moved : goal.returns-clause-moved
returns-clause-moved c = subst (λ v. c.take.new.self ≡ with_list (with_list v.table c.args.slot []) taken_list (list_at v.table c.args.slot)) c.self.view_is c.take.ensures.moved

pub returns-clause-once : goal.returns-clause-once
returns-clause-once c = subst (λ v. Distinct (list_at v.table c.args.slot)) c.self.view_is c.take.ensures.once
