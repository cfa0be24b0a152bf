use Rattle.std.proofs.Common.{subst}
use Rattle.mono_sync.specs.Many.{LeadsEach}
use Rattle.mono_groups.specs.Nodes.{owed_by, waiting_in}
use Rattle.mono_groups.specs.Tokens.{Grows}
use Rattle.mono_groups.proofs.TokenLemmas.{makes_kept, makes_leads}
use Rattle.mono_groups.proofs.tokens.Tokens.add.Goals as goal

pub invariant_of-self : goal.invariant_of-self
invariant_of-self c = makes_kept c.self.inside.nodes c.add_to.new.nodes c.args.parent c.add_to.result c.self.inside.from c.add_to.ensures c.self.invariant

pub returns-clause-leads : goal.returns-clause-leads
returns-clause-leads c = subst (λ a. LeadsEach Grows waiting_in owed_by a c.add_to.new.nodes) c.self.view_is (makes_leads c.self.inside.nodes c.add_to.new.nodes c.args.parent c.add_to.result c.add_to.ensures)
