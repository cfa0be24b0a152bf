use Rattle.std.proofs.Common.{◌≡◌, false, take}
use Rattle.std.specs.List.{list_any}
use Rattle.mono_forms.proofs.race_lists.any_spent.Given as goal

abbrev pub invariant-loop-future : goal.invariant-loop-future
invariant-loop-future g l = list_any g.T.TaskFuture.is_spent (take l.future-index l.futures.items) ≡ false
