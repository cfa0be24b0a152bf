use Rattle.std.specs.Vec.Iter.{into_iter_items, into_iter_len}
use Rattle.mono_forms.specs.RaceLists.{AllCancel}
use Rattle.mono_forms.proofs.race_lists.cancel_each.Given as goal

-- those that are left, given up from here on, are all from the start on
abbrev pub invariant-loop-future : goal.invariant-loop-future
invariant-loop-future g l = record {
  cancelled : (d : _) → AllCancel g.T.TaskFuture.cancels (into_iter_items l.left) l.cx d → AllCancel g.T.TaskFuture.cancels (into_iter_items l.initial.left) l.initial.cx d;
  reached : g.C.Context.reaches l.initial.cx l.cx;
}

abbrev pub decreases-loop-future : goal.decreases-loop-future
decreases-loop-future g l = into_iter_len l.left
