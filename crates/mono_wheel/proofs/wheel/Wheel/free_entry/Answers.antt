use Rattle.std.proofs.Common.{arith, ◌≡◌, ◌<◌, length, map, None, get_or, ap, inl, inr, subst, sym, ◌∙◌, length-set}
use Rattle.std.proofs.lemmas.Bool.Decides.{eqb_tells}
use Rattle.mono_wheel.specs.Lists.{is_node, no_entry}
use Rattle.mono_wheel.specs.Holdings.{timed_of}
use Rattle.mono_wheel.specs.Model.{timed_at}
use Rattle.mono_wheel.specs.Credit.{credit, credit_of}
use Rattle.mono_wheel.proofs.HoldingLemmas.{held-grown}
use Rattle.mono_wheel.proofs.RingLemmas.{false-true}
use Rattle.mono_wheel.proofs.LeapLemmas.{known-same}
use Rattle.mono_wheel.proofs.TickChangeLemmas.{timed-freed, order-kept}
use Rattle.mono_wheel.proofs.wheel.Wheel.free_entry.Goals as goal

pub invariant_of-self : goal.invariant_of-self
invariant_of-self c = (
  let out = subst (λ w. timed_at w c.args.key ≡ None) (sym c.self.view_is) c.requires.out in
      let same : map timed_of c.free_node.new.self.table.entries ≡ map timed_of c.self.inside.links.table.entries = ap (map timed_of) c.free_node.ensures.freed.entries ∙ timed-freed c.self.inside.links.table.entries c.args.key out in
      held-grown c.self.inside.elapsed c.self.inside.links.table.entries c.free_node.new.self.table.entries c.self.inside.links.table c.free_node.new.self.table c.self.invariant.0
      (λ k. ap (λ ts. get_or ts k None) same) c.free_node.ensures.freed.lists
      (λ k n. elim (eqb_tells k c.args.key) [
        | inl t ↦ absurd (false-true (sym c.free_node.ensures.freed.unknown ∙ ap (is_node c.free_node.new.self.table) (sym t.1) ∙ n))
        | inr t ↦
            let old : k < length c.self.inside.links.table.entries = c.self.invariant.0.room k (sym (c.free_node.ensures.freed.others k t.1) ∙ n) in
            let size : length c.free_node.new.self.table.entries ≡ length c.self.inside.links.table.entries = ap length c.free_node.ensures.freed.entries ∙ length-set c.self.inside.links.table.entries c.args.key no_entry in
            omega (arith, old, size)
      ]),
  let out = subst (λ w. timed_at w c.args.key ≡ None) (sym c.self.view_is) c.requires.out in
      let same : map timed_of c.free_node.new.self.table.entries ≡ map timed_of c.self.inside.links.table.entries = ap (map timed_of) c.free_node.ensures.freed.entries ∙ timed-freed c.self.inside.links.table.entries c.args.key out in
      known-same c.self.inside.limit c.self.inside.near c.self.inside.links.table.entries c.free_node.new.self.table.entries (λ k. ap (λ ts. get_or ts k None) same) c.self.invariant.1,
)

pub returns-clause-entries : goal.returns-clause-entries
returns-clause-entries c =
    let out = subst (λ w. timed_at w c.args.key ≡ None) (sym c.self.view_is) c.requires.out in
    ap (map timed_of) c.free_node.ensures.freed.entries ∙ timed-freed c.self.inside.links.table.entries c.args.key out ∙ ap (λ w. w.entries) c.self.view_is

pub returns-clause-order : goal.returns-clause-order
returns-clause-order c =
    let out = subst (λ w. timed_at w c.args.key ≡ None) (sym c.self.view_is) c.requires.out in
    let same : map timed_of c.free_node.new.self.table.entries ≡ map timed_of c.self.inside.links.table.entries = ap (map timed_of) c.free_node.ensures.freed.entries ∙ timed-freed c.self.inside.links.table.entries c.args.key out in
    order-kept c.self.inside.elapsed c.self.inside.links c.free_node.new.self c.args.self.now c.self.view_is c.free_node.ensures.freed.lists (λ k. ap (λ ts. get_or ts k None) same)

pub returns-clause-credit : goal.returns-clause-credit
returns-clause-credit c =
    let out = subst (λ w. timed_at w c.args.key ≡ None) (sym c.self.view_is) c.requires.out in
    let same : map timed_of c.free_node.new.self.table.entries ≡ map timed_of c.self.inside.links.table.entries = ap (map timed_of) c.free_node.ensures.freed.entries ∙ timed-freed c.self.inside.links.table.entries c.args.key out in
    ap (credit_of c.self.inside.elapsed) same ∙ ap credit c.self.view_is
