use Rattle.std.proofs.Common.{arith, refl, inl, inr, ◌≤◌, ◌≡◌, ◌∷◌, ◌<◌, ap, subst, sym, Some, None, true, length, map, set}
use Rattle.mono_wheel.specs.Model.{Changed, timed_at, is_reserved}
use Rattle.mono_wheel.specs.Lists.{list_at, with_list}
use Rattle.mono_wheel.specs.Credit.{CreditFollows}
use Rattle.mono_wheel.specs.Holdings.{timed_of, wheel_of}
use Rattle.mono_wheel.proofs.PlaceLemmas.{place_in-below}
use Rattle.mono_wheel.proofs.HoldingLemmas.{held-put, changed-entry, keeps-pushed}
use Rattle.mono_wheel.proofs.KeyLemmas.{some_of}
use Rattle.mono_wheel.specs.Leap.{Known}
use Rattle.mono_wheel.proofs.LeapLemmas.{known-put}
use Rattle.mono_wheel.proofs.CreditLemmas.{credit-entry}
use Rattle.mono_wheel.proofs.TickChangeLemmas.{written, held-written}
use Rattle.mono_wheel.proofs.MoveLemmas.{move-few}
use Rattle.mono_wheel.proofs.wheel.Wheel.put.Goals as goal

pub invariant_of-self : goal.invariant_of-self
invariant_of-self c = (
  held-written c.self.inside.elapsed c.self.inside.links.table.entries (with_list c.self.inside.links.table c.standing-list.result (c.args.key ∷ list_at c.self.inside.links.table c.standing-list.result)) c.put_front.new.self.table c.args.key record { tick = c.args.tick; registered = c.args.tick } refl c.put_front.ensures.put
      (held-put c.self.inside.elapsed c.self.inside.links.table.entries c.self.inside.links.table (with_list c.self.inside.links.table c.standing-list.result (c.args.key ∷ list_at c.self.inside.links.table c.standing-list.result)) c.args.key c.standing-list.result c.args.tick c.self.invariant.0
      (subst (λ w. is_reserved w c.args.key ≡ true) (sym c.self.view_is) c.requires.reserved)
      (subst (λ w. timed_at w c.args.key ≡ None) (sym c.self.view_is) c.requires.out)
      (subst (λ w. w.elapsed ≤ c.args.tick) (sym c.self.view_is) c.requires.ahead) c.requires.some c.standing-list.ensures refl),
  subst (λ es. Known c.limit_with-self-inside.result c.self.inside.near es) (sym (ap (λ w. w.entries) (written (with_list c.self.inside.links.table c.standing-list.result (c.args.key ∷ list_at c.self.inside.links.table c.standing-list.result)) c.put_front.new.self.table c.self.inside.links.table.entries c.args.key record { tick = c.args.tick; registered = c.args.tick } refl c.put_front.ensures.put)))
      (known-put c.self.inside.limit c.limit_with-self-inside.result c.self.inside.near c.self.inside.links.table.entries c.args.key record { tick = c.args.tick; registered = c.args.tick }
      (c.self.invariant.0.room c.args.key (subst (λ w. is_reserved w c.args.key ≡ true) (sym c.self.view_is) c.requires.reserved)) refl c.limit_with-self-inside.ensures.less (elim c.limit_with-self-inside.ensures.known [ inl l ↦ inl l | inr same ↦ inr (c.args.place, c.requires.place, same) ]) c.self.invariant.1),
)

pub returns-clause-changed : goal.returns-clause-changed
returns-clause-changed c =
    subst (λ w. Changed c.args.self.now (wheel_of c.self.inside.elapsed record { table = w; moves = c.put_front.new.self.moves }) c.args.key (Some record { tick = c.args.tick; registered = c.args.tick })) (sym (written (with_list c.self.inside.links.table c.standing-list.result (c.args.key ∷ list_at c.self.inside.links.table c.standing-list.result)) c.put_front.new.self.table c.self.inside.links.table.entries c.args.key record { tick = c.args.tick; registered = c.args.tick } refl c.put_front.ensures.put))
    (let low : c.standing-list.result < length c.self.inside.links.table.lists = let b = place_in-below c.self.inside.elapsed c.args.tick in let n = c.self.invariant.0.lists in let p = c.standing-list.ensures in omega (arith, p, b, n) in
    subst (λ o. Changed c.args.self.now (record { elapsed = c.self.inside.elapsed; entries = map timed_of (set c.self.inside.links.table.entries c.args.key record { tick = c.args.tick; registered = c.args.tick }); reserved = c.self.inside.links.table.nodes; lines = (with_list c.self.inside.links.table c.standing-list.result (c.args.key ∷ list_at c.self.inside.links.table c.standing-list.result)).lists; moves = c.put_front.new.self.moves }) c.args.key o)
    (some_of record { tick = c.args.tick; registered = c.args.tick } (λ z. let some = c.requires.some in omega (arith, z, some)))
    (changed-entry c.self.inside.elapsed c.self.inside.links.table.entries c.self.inside.links.table.nodes c.self.inside.links.table.nodes c.self.inside.links.table.lists (with_list c.self.inside.links.table c.standing-list.result (c.args.key ∷ list_at c.self.inside.links.table c.standing-list.result)).lists c.args.self.now c.args.key record { tick = c.args.tick; registered = c.args.tick } c.self.view_is
    (c.self.invariant.0.room c.args.key (subst (λ w. is_reserved w c.args.key ≡ true) (sym c.self.view_is) c.requires.reserved))
    refl
    (λ a b l f g h. keeps-pushed c.self.inside.links.table.lists (with_list c.self.inside.links.table c.standing-list.result (c.args.key ∷ list_at c.self.inside.links.table c.standing-list.result)).lists c.standing-list.result c.args.key low refl a b l h)))

pub returns-clause-credit : goal.returns-clause-credit
returns-clause-credit c =
    subst (λ w. CreditFollows c.args.self.now (wheel_of c.self.inside.elapsed record { table = w; moves = c.put_front.new.self.moves }) c.args.key) (sym (written (with_list c.self.inside.links.table c.standing-list.result (c.args.key ∷ list_at c.self.inside.links.table c.standing-list.result)) c.put_front.new.self.table c.self.inside.links.table.entries c.args.key record { tick = c.args.tick; registered = c.args.tick } refl c.put_front.ensures.put))
    (credit-entry c.self.inside.elapsed c.self.inside.links.table.entries c.self.inside.links.table.nodes c.self.inside.links.table.nodes c.self.inside.links.table.lists (with_list c.self.inside.links.table c.standing-list.result (c.args.key ∷ list_at c.self.inside.links.table c.standing-list.result)).lists c.args.self.now c.args.key record { tick = c.args.tick; registered = c.args.tick } c.self.view_is
    (c.self.invariant.0.room c.args.key (subst (λ w. is_reserved w c.args.key ≡ true) (sym c.self.view_is) c.requires.reserved)))

pub returns-clause-few : goal.returns-clause-few
returns-clause-few c =
    let put = c.put_front.ensures.moves in
    let few = move-few c.standing-list.result in
    let was = ap (λ w. w.moves.slots) c.self.view_is in
    omega (arith, put, few, was)

pub returns-clause-all_moves : goal.returns-clause-all_moves
returns-clause-all_moves c =
    let put = c.put_front.ensures.all_moves in
    let was = ap (λ w. w.moves.all) c.self.view_is in
    omega (arith, put, was)
