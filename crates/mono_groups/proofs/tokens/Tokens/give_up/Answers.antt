use Rattle.std.proofs.Common.{subst}
use Rattle.mono_task.specs.Owed.{Keeps}
use Rattle.mono_sync.specs.Many.{LeadsEach, lists_each}
use Rattle.mono_groups.specs.Nodes.{listed_by, owed_by, waiting_in}
use Rattle.mono_groups.specs.Tokens.{GivesUp, Grows}
use Rattle.mono_groups.proofs.TokenLemmas.{gives_up_keeps, gives_up_kept, gives_up_leads}
use Rattle.mono_groups.proofs.tokens.Tokens.give_up.Goals as goal

pub invariant_of-self : goal.invariant_of-self
invariant_of-self c = gives_up_kept c.self.inside.nodes c.leave_at.new.nodes c.args.key c.args.ticket c.args.me c.self.inside.from c.leave_at.ensures c.self.invariant

pub returns-clause-answer : goal.returns-clause-answer
returns-clause-answer c = subst (λ a. GivesUp c.args.key a c.args.ticket c.args.me c.leave_at.new.nodes) c.self.view_is c.leave_at.ensures

pub returns-clause-leads : goal.returns-clause-leads
returns-clause-leads c = subst (λ a. LeadsEach Grows waiting_in owed_by a c.leave_at.new.nodes) c.self.view_is (gives_up_leads c.self.inside.nodes c.leave_at.new.nodes c.args.key c.args.ticket c.args.me c.leave_at.ensures)

pub returns-clause-keeps : goal.returns-clause-keeps
returns-clause-keeps c = subst (λ a. Keeps (lists_each listed_by) c.args.me a c.leave_at.new.nodes) c.self.view_is (gives_up_keeps c.self.inside.nodes c.leave_at.new.nodes c.args.key c.args.ticket c.args.me c.leave_at.ensures)
