-- The channels of a dispatcher stay.
use Rattle.std.proofs.Common.{◌≡◌, ◌≢◌, ◌==◌, ℕ, ◌<◌, Bool, true, false, List, length, get_or, set, refl, sym, ap, subst, ◌∙◌, arith}
use Rattle.std.proofs.lemmas.Bool.Decides.{nat_tests}
use Rattle.std.proofs.lemmas.List.{length-set, get_or-set_same, get_or-set_other, get_or_default}
use Rattle.lease_server.specs.Outlets.{Stays}
use Rattle.lease_server.specs.Dispatch.{HaveSameWays, KeepsWays}
pub use Rattle.lease_server.specs.Routers.{stays, stays_on, same_ways, ways_on, keeps_itself, keeps_on}
use Rattle.lease_server.specs.declared.lanes.Lane.{Lane}
use Rattle.lease_server.specs.declared.dispatchers.Dispatcher.{Dispatcher}

at_way : (xs ys : List Lane) (i : ℕ) (d lane : Lane) → HaveSameWays xs ys → i < length ys → Stays (get_or ys i d).outlet.sender lane.outlet.sender
    → (k : ℕ) (e : Lane) → k < length xs → (b : Bool) → (k == i) ≡ b → Stays (get_or xs k e).outlet.sender (get_or (set ys i lane) k e).outlet.sender
at_way xs ys i d lane p lt same k e within true test =
    let is : k ≡ i = grind (arith, nat_tests) in
    let here : get_or (set ys i lane) k e ≡ lane = ap (λ j. get_or (set ys i lane) j e) is ∙ get_or-set_same ys i lane e lt in
    let old : get_or ys i d ≡ get_or ys k e = get_or_default ys i d e lt ∙ ap (λ j. get_or ys j e) (sym is) in
    subst (λ (l : Lane). Stays (get_or xs k e).outlet.sender l.outlet.sender) (sym here)
    (stays_on (get_or xs k e).outlet.sender (get_or ys k e).outlet.sender lane.outlet.sender (p.each k e within) (subst (λ (l : Lane). Stays l.outlet.sender lane.outlet.sender) old same))
at_way xs ys i d lane p lt same k e within false test =
    let apart : k ≢ i = λ is. grind (arith, nat_tests) in
    subst (λ (l : Lane). Stays (get_or xs k e).outlet.sender l.outlet.sender) (sym (get_or-set_other ys i k lane e apart)) (p.each k e within)

-- one lane changed, and not its channel
pub way_at : (xs ys : List Lane) (i : ℕ) (d lane : Lane) → HaveSameWays xs ys → i < length ys → Stays (get_or ys i d).outlet.sender lane.outlet.sender → HaveSameWays xs (set ys i lane)
way_at xs ys i d lane p lt same = record { count = length-set ys i lane ∙ p.count; each = λ k e within. at_way xs ys i d lane p lt same k e within (k == i) refl }

pub keeps_lanes : (a b : Dispatcher) → b.lanes.items ≡ a.lanes.items → Stays a.refusals.outlet.sender b.refusals.outlet.sender → KeepsWays a b
keeps_lanes a b is refusals = record { lanes = subst (λ (l : List Lane). HaveSameWays a.lanes.items l) (sym is) (same_ways a.lanes.items); refusals = refusals }

pub keeps_both : (a b : Dispatcher) (was now : List Lane) → was ≡ a.lanes.items → b.lanes.items ≡ now → HaveSameWays was now → Stays a.refusals.outlet.sender b.refusals.outlet.sender → KeepsWays a b
keeps_both a b was now from to ways same = record {
  lanes = subst (λ (l : List Lane). HaveSameWays a.lanes.items l) (sym to) (subst (λ (l : List Lane). HaveSameWays l now) from ways);
  refusals = same;
}
