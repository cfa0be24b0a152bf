use Rattle.std.proofs.Common.{◌<◌, length, sym, ◌∙◌, rules}
use Rattle.mono_combine.proofs.ScanLemmas.{none_yet, one_found}
use Rattle.mono_forms.proofs.race_lists.any_spent.Goals as goal

pub loop-future-preserved : goal.loop-future-preserved
loop-future-preserved g c =
    let less : c.loop-future.future-index < length c.args.futures.now.items = search rules in
    none_yet (g.T.TaskFuture.is_spent) c.args.futures.now.items _ _ less (rw c.deref-future-items.ensures.value at c.future-item.is) c.loop-future.invariant (sym c.spent.ensures ∙ c.if-spent.false)

pub returns-then-spent : goal.returns-then-spent
returns-then-spent g c =
    let less : c.loop-future.future-index < length c.args.futures.now.items = search rules in
    one_found (g.T.TaskFuture.is_spent) c.args.futures.now.items _ _ less (rw c.deref-future-items.ensures.value at c.future-item.is) (sym c.spent.ensures ∙ c.if-spent.true)
