use Rattle.std.proofs.Common.{◌≤◌, ◌+◌, Some, [], ◌≡◌, arith, subst, sym, ◌∙◌}
use Rattle.mono_model.specs.Table.{next_number}
use Rattle.mono_task.specs.Owed.{Hands}
use Rattle.mono_sync.specs.Many.{LeadsEach, lists_each, tasks_each}
use Rattle.mono_groups.specs.Nodes.{listed_by, owed_by, waiting_in}
use Rattle.mono_groups.specs.Tokens.{Grows, IsKept, leads_itself}
use Rattle.mono_groups.proofs.HandLemmas.{none_left, none_more, pays_hands, pays_kept, pays_leads}
use Rattle.mono_groups.proofs.tokens.hand_out.Goals as goal

pub returns-in-Some-clause-kept : goal.returns-in-Some-clause-kept
returns-in-Some-clause-kept c = pays_kept c.loop-from.nodes c.pay_at.new.nodes c.loop-from.from c.in-Some.task c.loop-from.from c.in-Some.ensures c.loop-from.invariant.kept

pub returns-in-Some-clause-hands : goal.returns-in-Some-clause-hands
returns-in-Some-clause-hands c = subst (λ a. Hands (lists_each listed_by) (tasks_each owed_by) a (Some c.in-Some.task) c.pay_at.new.nodes) c.loop-from.invariant.same
    (pays_hands c.loop-from.nodes c.pay_at.new.nodes c.loop-from.from c.in-Some.task c.loop-from.invariant.kept.none c.in-Some.ensures)

pub returns-in-Some-clause-leads : goal.returns-in-Some-clause-leads
returns-in-Some-clause-leads c = subst (λ a. LeadsEach Grows waiting_in owed_by a c.pay_at.new.nodes) c.loop-from.invariant.same
    (pays_leads c.loop-from.nodes c.pay_at.new.nodes c.loop-from.from c.in-Some.task c.in-Some.ensures)

pub loop-from-preserved : goal.loop-from-preserved
loop-from-preserved c =
    record {
      same = c.in_default.ensures.1 ∙ c.loop-from.invariant.same;
      kept = subst (λ a. IsKept a (c.loop-from.from + 1)) (sym c.in_default.ensures.1)
          (record { grown = c.loop-from.invariant.kept.grown; none = none_more c.loop-from.nodes c.loop-from.from c.loop-from.invariant.kept.none c.in_default.ensures.0 });
    }

pub returns-clause-hands : goal.returns-clause-hands
returns-clause-hands c =
    let past : next_number c.loop-from.nodes ≤ c.loop-from.from = omega (arith, c.loop-from-test.false, c.len.ensures) in
    (subst (λ a. tasks_each owed_by a ≡ []) c.loop-from.invariant.same (none_left c.loop-from.nodes c.loop-from.from c.loop-from.invariant.kept.none past), c.loop-from.invariant.same)

pub returns-clause-leads : goal.returns-clause-leads
returns-clause-leads c = subst (λ a. LeadsEach Grows waiting_in owed_by a c.loop-from.nodes) c.loop-from.invariant.same (leads_itself c.loop-from.nodes)
