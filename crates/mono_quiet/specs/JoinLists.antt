-- A join of many futures makes no task, if none of them does.
use Rattle.std.specs.Prelude.{⊤, Bool, false, List, Result}
use Rattle.mono_model.specs.Tasks.{Tasks}
use Rattle.mono_model.specs.declared.poll.Poll.{Poll}
use Rattle.mono_model.specs.declared.poll.Poll.TheVariants.{Ready, Pending}
use Rattle.mono_task.specs.Members.{FutureOf}
use Rattle.mono_combine.specs.Branches.{Advances}
use Rattle.mono_combine.specs.BranchLists.{GivesUp, JoinListPolls, AllCancel}
use Rattle.mono_combine.specs.TryLists.{TriesOnce, TriesEach, TryJoinListPolls}
use Rattle.mono_combine.specs.declared.maybe.MaybeDone.{MaybeDone}
use Rattle.mono_quiet.specs.Numbers.{MakesNone, none_at_all, none_on, PollsMakeNone, CancelsMakeNone}
use Rattle.mono_quiet.specs.Turns.{each_makes_none}
use Rattle.mono_quiet.specs.Joins.{maybe_left, advance_makes_none, unless_makes_none}

module _ {C T O : Type 0} (work : C → Tasks ⊤) (future : FutureOf T C O) (cancels : CancelsMakeNone work future) where
  pub join_list_left : (branches : List (MaybeDone T O)) (c d : C) → AllCancel future branches c d → MakesNone work c d
  join_list_left branches c d q = each_makes_none work (GivesUp future) (λ m c n d given_up. maybe_left work future cancels m c d given_up.1) branches c q.0 d q.1

  pub join_list_makes_none : PollsMakeNone work future → (branches : List (MaybeDone T O)) (c : C) (r : Poll (List O)) (left : List (MaybeDone T O)) (has_answered : Bool) (d : C) → JoinListPolls future branches c r left has_answered d → MakesNone work c d
  join_list_makes_none polls branches c r left has_answered d q = each_makes_none work (Advances future) (advance_makes_none work future cancels polls) branches c q.polled d q.turns

module _ {C T X E : Type 0} (work : C → Tasks ⊤) (future : FutureOf T C (Result X E)) (cancels : CancelsMakeNone work future) (polls : PollsMakeNone work future) where
  tries_none : (branches polled : List (MaybeDone T (Result X E))) (one_failed : Bool) (c d : C) → TriesEach future branches c polled one_failed d → MakesNone work c d
  tries_none branches polled one_failed c d q =
      each_makes_none (λ s. work s.cx) (TriesOnce future) (λ m s n t tried. unless_makes_none work future cancels polls s.one_failed m s.cx n t.cx tried.advanced)
      branches (record { one_failed = false; cx = c }) polled (record { one_failed = one_failed; cx = d }) q

  pub try_list_makes_none : (branches : List (MaybeDone T (Result X E))) (c : C) (r : Poll (Result (List X) E)) (left : List (MaybeDone T (Result X E))) (has_answered : Bool) (d : C) → TryJoinListPolls future branches c r left has_answered d → MakesNone work c d
  try_list_makes_none branches c (Ready x) left has_answered d q = none_on work c q.after d (tries_none branches q.polled q.one_failed c q.after q.turns) (join_list_left work future cancels q.polled q.after d q.ends.1)
  try_list_makes_none branches c Pending left has_answered d q = none_on work c q.after d (tries_none branches q.polled q.one_failed c q.after q.turns) (none_at_all work q.after d q.waits.2)
