use Rattle.std.proofs.Common.{◌≡◌, [], refl, sym, subst}
use Rattle.mono_sync.specs.Runs.{Leads}
use Rattle.mono_task.specs.Owed.{Hands}
use Rattle.mono_groups.specs.JoinSetRuns.{Step}
use Rattle.mono_groups.specs.JoinSets.{listed_by, owed_by}
use Rattle.mono_groups.specs.Nodes as node
use Rattle.mono_groups.proofs.SetLemmas.{joiner_hands, joiner_leads, member_hands, member_leads}
use Rattle.mono_groups.proofs.join_set.JoinSetSharedState.next_owed.Goals as goal

pub returns-in-Some-clause-hands : goal.returns-in-Some-clause-hands
returns-in-Some-clause-hands g c = member_hands c.args.self.now (record c.args.self.now { abort = c.pay.new.self }) c.in-Some.task c.in-Some.ensures refl

pub returns-in-Some-clause-leads : goal.returns-in-Some-clause-leads
returns-in-Some-clause-leads g c = member_leads c.args.self.now (record c.args.self.now { abort = c.pay.new.self }) c.in-Some.task c.in-Some.ensures refl

pub returns-clause-hands : goal.returns-clause-hands
returns-clause-hands g c =
    subst (λ x. Hands listed_by owed_by (record c.args.self.now { abort = x }) c.pay_joiner.result c.pay_joiner.new.self) c.in_default.ensures.1
    (joiner_hands (record c.args.self.now { abort = c.pay.new.self }) c.pay_joiner.new.self c.pay_joiner.result (subst (λ x. node.owed_by x ≡ []) (sym c.in_default.ensures.1) c.in_default.ensures.0) c.pay_joiner.ensures)

pub returns-clause-leads : goal.returns-clause-leads
returns-clause-leads g c = subst (λ x. Leads Step (record c.args.self.now { abort = x }) c.pay_joiner.new.self) c.in_default.ensures.1 (joiner_leads (record c.args.self.now { abort = c.pay.new.self }) c.pay_joiner.new.self c.pay_joiner.result c.pay_joiner.ensures)
