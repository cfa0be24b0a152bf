use Rattle.std.proofs.Common.{ap, ◌∙◌}
use Rattle.lease_core.specs.Places.{descends, is_of}
use Rattle.lease_core.proofs.PlaceLemmas.{entries_are, cap_is}
use Rattle.lease_core.proofs.ReleaseLemmas.{order_removed}
use Rattle.lease_core.proofs.waits.Waits.take.Goals as goal

pub invariant_of-self : goal.invariant_of-self
invariant_of-self c =
    let es = c.args.self.now.places.entries in
    let p = is_of c.args.key c.args.session in
    record {
      order = ap (λ l. descends c.args.self.now.next l) (entries_are _ _ _ c.pop.ensures.entries) ∙ order_removed p c.args.self.now.next es c.args.self.now.order;
      unbounded = cap_is _ _ _ c.pop.ensures.entries ∙ c.args.self.now.unbounded;
    }
