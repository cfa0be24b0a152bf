-- A select of many futures makes no task, if none of them does.
use Rattle.std.specs.Prelude.{⊤, ℕ, Bool, List, Option}
use Rattle.std.specs.Fn.{Shared}
use denote.Ref.{Bor}
use Rattle.mono_model.specs.Tasks.{Tasks}
use Rattle.mono_model.specs.declared.poll.Poll.{Poll}
use Rattle.mono_model.specs.declared.poll.Poll.TheVariants.{Ready, Pending}
use Rattle.mono_task.specs.Members.{FutureOf}
use Rattle.mono_combine.specs.Looks.{ReturnsFor}
use Rattle.mono_combine.specs.Rules.{look_at}
use Rattle.mono_combine.specs.BranchLists.{EachInTurn}
use Rattle.mono_combine.specs.ListSelects.{Row, branch_at, BranchEnds, RowCancels, RowEnds, TurnAt, SelectListPolls}
use Rattle.mono_combine.specs.declared.branch.Branch.{Branch}
use Rattle.mono_combine.specs.declared.branch.Look.{Look}
use Rattle.mono_combine.specs.declared.pick.Out as out
use Rattle.mono_combine.specs.declared.start.Start.{Start}
use Rattle.mono_quiet.specs.Numbers.{MakesNone, none_at_all, none_on, PollsMakeNone, CancelsMakeNone}
use Rattle.mono_quiet.specs.Turns.{each_makes_none, fold_makes_none}
use Rattle.mono_quiet.specs.Selects.{branch_left, turn_makes_none}

module _ {T C O : Type 0} (work : C → Tasks ⊤) (future : FutureOf T C O) (cancels : CancelsMakeNone work future) where
  each_left : (branches left : List (Branch T)) (c d : C) → EachInTurn (BranchEnds future) branches c left d → MakesNone work c d
  each_left branches left c d q = each_makes_none work (BranchEnds future) (λ b c n d over. branch_left work future cancels b c d over.1) branches c left d q

  pub select_list_left : (branches : List (Branch T)) (c d : C) → RowCancels future branches c d → MakesNone work c d
  select_list_left branches c d q = each_left branches q.0 c d q.1

  row_end : (picked : Poll (Option (ℕ × O))) (t : Row T C) (r : Poll (out.Out O)) (left : List (Branch T)) (has_answered : Bool) (d : C) → RowEnds future picked t r left has_answered d → MakesNone work t.cx d
  row_end (Ready pick) t r left has_answered d q = each_left t.branches left t.cx d q.1
  row_end Pending t r left has_answered d q = none_at_all work t.cx d q.3

  module _ {G : Type 0} (polls : PollsMakeNone work future) (call : Shared G (ℕ × (Bor O × Unit {0})) Bool) where
    row_turn : (test : G) (looks : List (Look O)) (s : Row T C) (k : ℕ) (t : Row T C) → TurnAt future call test looks s k t → MakesNone work s.cx t.cx
    row_turn test looks s k t q = turn_makes_none work future cancels polls (ReturnsFor call test k) (branch_at s.branches k) s.cx (look_at looks k) (branch_at t.branches k) t.cx q.turn

    pub select_list_makes_none : (test : G) (start : Start) (branches : List (Branch T)) (c : C) (r : Poll (out.Out O)) (left : List (Branch T)) (has_answered : Bool) (d : C) → SelectListPolls future call test start branches c r left has_answered d → MakesNone work c d
    select_list_makes_none test start branches c r left has_answered d q =
        none_on work c q.left.cx d
        (fold_makes_none (λ t. work t.cx) (TurnAt future call test q.selects.looks) (row_turn test q.selects.looks) (record { branches = branches; cx = c }) _ q.left q.selects.turns)
        (row_end q.picked q.left r left has_answered d q.ends)
