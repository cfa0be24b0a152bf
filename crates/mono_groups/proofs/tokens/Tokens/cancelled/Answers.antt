use Rattle.std.proofs.Common.{subst}
use Rattle.mono_task.specs.Owed.{Keeps}
use Rattle.mono_sync.specs.Many.{LeadsEach, lists_each}
use Rattle.mono_groups.specs.Nodes.{listed_by, owed_by, waiting_in}
use Rattle.mono_groups.specs.Tokens.{Awaits, Grows}
use Rattle.mono_groups.proofs.TokenLemmas.{awaits_keeps, awaits_kept, awaits_leads}
use Rattle.mono_groups.proofs.tokens.Tokens.cancelled.Goals as goal

pub invariant_of-self : goal.invariant_of-self
invariant_of-self c = awaits_kept c.self.inside.nodes c.ask_at.new.nodes c.args.key c.args.ticket c.args.me c.ask_at.result c.self.inside.from c.ask_at.ensures c.self.invariant

pub returns-clause-answer : goal.returns-clause-answer
returns-clause-answer c = subst (λ a. Awaits c.args.key a c.args.ticket c.args.me c.ask_at.result c.ask_at.new.nodes) c.self.view_is c.ask_at.ensures

pub returns-clause-leads : goal.returns-clause-leads
returns-clause-leads c = subst (λ a. LeadsEach Grows waiting_in owed_by a c.ask_at.new.nodes) c.self.view_is (awaits_leads c.self.inside.nodes c.ask_at.new.nodes c.args.key c.args.ticket c.args.me c.ask_at.result c.ask_at.ensures)

pub returns-clause-keeps : goal.returns-clause-keeps
returns-clause-keeps c = subst (λ a. Keeps (lists_each listed_by) c.args.me a c.ask_at.new.nodes) c.self.view_is (awaits_keeps c.self.inside.nodes c.ask_at.new.nodes c.args.key c.args.ticket c.args.me c.ask_at.result c.ask_at.ensures)
