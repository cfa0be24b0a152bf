use Rattle.std.proofs.Common.{arith, subst, sym, ◌∙◌}
use Rattle.mono_sync.specs.Many.{LeadsEach}
use Rattle.mono_groups.specs.Nodes.{owed_by, waiting_in}
use Rattle.mono_groups.specs.Tokens.{Cancels, Grows, leads_itself}
use Rattle.mono_groups.proofs.CancelLemmas.{cancels_kept, cancels_leads, nothing_done}
use Rattle.mono_groups.proofs.tokens.Tokens.cancel.Goals as goal

pub returns-then-is_cancelled_at-clause-answer : goal.returns-then-is_cancelled_at-clause-answer
returns-then-is_cancelled_at-clause-answer c = subst (λ a. Cancels c.args.key a a) c.self.view_is (nothing_done c.self.inside.nodes c.self.invariant.grown c.args.key (sym c.is_cancelled_at.ensures ∙ c.if-is_cancelled_at.true))

pub returns-then-is_cancelled_at-clause-leads : goal.returns-then-is_cancelled_at-clause-leads
returns-then-is_cancelled_at-clause-leads c = leads_itself c.args.self.now

pub invariant_of-self : goal.invariant_of-self
invariant_of-self c =
    cancels_kept c.self.inside.nodes c.cancel_from.new.nodes c.args.key c.cancel_from.ensures c.self.invariant.grown c.self.inside.from c.args.key c.self.invariant.none
    (omega (arith, c.if-key-self.true)) (omega arith)

pub invariant_of-self-else-key-self : goal.invariant_of-self-else-key-self
invariant_of-self-else-key-self c =
    cancels_kept c.self.inside.nodes c.cancel_from.new.nodes c.args.key c.cancel_from.ensures c.self.invariant.grown c.self.inside.from c.self.inside.from c.self.invariant.none
    (omega arith) (omega (arith, c.if-key-self.false))

pub returns-then-key-self-clause-leads : goal.returns-then-key-self-clause-leads
returns-then-key-self-clause-leads c = subst (λ a. LeadsEach Grows waiting_in owed_by a c.cancel_from.new.nodes) c.self.view_is (cancels_leads c.self.inside.nodes c.cancel_from.new.nodes c.args.key c.cancel_from.ensures)

pub returns-else-key-self-clause-leads : goal.returns-else-key-self-clause-leads
returns-else-key-self-clause-leads c = subst (λ a. LeadsEach Grows waiting_in owed_by a c.cancel_from.new.nodes) c.self.view_is (cancels_leads c.self.inside.nodes c.cancel_from.new.nodes c.args.key c.cancel_from.ensures)
