use Rattle.std.proofs.Common.{◌<◌, length, sym, ◌∙◌, rules}
use Rattle.mono_combine.specs.Looks.{branch_spent}
use Rattle.mono_combine.proofs.ScanLemmas.{none_yet, one_found}
use Rattle.mono_combine.proofs.row.any_branch_spent.Goals as goal

pub loop-branch-preserved : goal.loop-branch-preserved
loop-branch-preserved g c =
    let less : c.loop-branch.branch-index < length c.args.branches.now.items = search rules in
    none_yet (branch_spent g.T.TaskFuture) c.args.branches.now.items _ _ less (rw c.deref-branch-items.ensures.value at c.branch-item.is) c.loop-branch.invariant (sym c.spent.ensures ∙ c.if-spent.false)

pub returns-then-spent : goal.returns-then-spent
returns-then-spent g c =
    let less : c.loop-branch.branch-index < length c.args.branches.now.items = search rules in
    one_found (branch_spent g.T.TaskFuture) c.args.branches.now.items _ _ less (rw c.deref-branch-items.ensures.value at c.branch-item.is) (sym c.spent.ensures ∙ c.if-spent.true)
