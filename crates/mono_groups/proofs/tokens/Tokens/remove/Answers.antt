use Rattle.std.proofs.Common.{subst}
use Rattle.mono_sync.specs.Many.{LeadsEach}
use Rattle.mono_groups.specs.Nodes.{owed_by, waiting_in}
use Rattle.mono_groups.specs.Tokens.{Grows}
use Rattle.mono_groups.proofs.TokenLemmas.{removes_kept, removes_leads}
use Rattle.mono_groups.proofs.tokens.Tokens.remove.Goals as goal

pub invariant_of-self : goal.invariant_of-self
invariant_of-self c = removes_kept c.self.inside.nodes c.remove_from.new.nodes c.args.key c.remove_from.result c.self.inside.from c.remove_from.ensures c.self.invariant

pub returns-clause-leads : goal.returns-clause-leads
returns-clause-leads c = subst (λ a. LeadsEach Grows waiting_in owed_by a c.remove_from.new.nodes) c.self.view_is (removes_leads c.self.inside.nodes c.remove_from.new.nodes c.args.key c.remove_from.result c.remove_from.ensures)
