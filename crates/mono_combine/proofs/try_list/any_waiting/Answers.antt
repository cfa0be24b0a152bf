use Rattle.std.proofs.Common.{◌<◌, length, sym, ◌∙◌, rules}
use Rattle.mono_combine.specs.Branches.{is_waiting}
use Rattle.mono_combine.proofs.ScanLemmas.{none_yet, one_found}
use Rattle.mono_combine.proofs.try_list.any_waiting.Goals as goal

pub loop-branch-preserved : goal.loop-branch-preserved
loop-branch-preserved g c =
    let less : c.loop-branch.branch-index < length c.args.branches.now = search rules in
    none_yet is_waiting c.args.branches.now _ _ less c.branch-item.is c.loop-branch.invariant (sym c.is_waiting.ensures ∙ c.if-is_waiting.false)

pub returns-then-is_waiting : goal.returns-then-is_waiting
returns-then-is_waiting g c =
    let less : c.loop-branch.branch-index < length c.args.branches.now = search rules in
    one_found is_waiting c.args.branches.now _ _ less c.branch-item.is (sym c.is_waiting.ensures ∙ c.if-is_waiting.true)
