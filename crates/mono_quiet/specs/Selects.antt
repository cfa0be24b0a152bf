-- A select makes no task, if none of its futures does.
use Rattle.std.specs.Prelude.{⊤, ℕ, zero, suc, Bool, Option}
use Rattle.std.specs.Fn.{Shared, FnReturnsAt}
use denote.Ref.{Bor}
use Rattle.mono_model.specs.Tasks.{Tasks}
use Rattle.mono_model.specs.declared.poll.Poll.{Poll}
use Rattle.mono_model.specs.declared.poll.Poll.TheVariants.{Ready, Pending}
use Rattle.mono_task.specs.Members.{FutureOf}
use Rattle.mono_combine.specs.Looks.{BranchCancels, AfterPoll, TurnBy}
use Rattle.mono_combine.specs.Rules.{select_turns}
use Rattle.mono_combine.specs.Starts.{start_of}
use Rattle.mono_combine.specs.Selects.{Seats, masks, looks, TurnOf, Selects, SeatsCancel, SelectCancels, SelectEnds, SelectPolls}
use Rattle.mono_combine.specs.declared.branch.Branch.{Branch}
use Rattle.mono_combine.specs.declared.branch.Branch.TheVariants.{Live, Out, Gone}
use Rattle.mono_combine.specs.declared.branch.Look.{Look}
use Rattle.mono_combine.specs.declared.select.Out2.{Out2}
use Rattle.mono_combine.specs.declared.select.Select2.{Select2}
use Rattle.mono_quiet.specs.Numbers.{MakesNone, none_at_all, none_on, PollsMakeNone, CancelsMakeNone}
use Rattle.mono_quiet.specs.Turns.{fold_makes_none}

module _ {T C O : Type 0} (work : C → Tasks ⊤) (future : FutureOf T C O) (cancels : CancelsMakeNone work future) where
  pub branch_left : (b : Branch T) (c d : C) → BranchCancels future b c d → MakesNone work c d
  branch_left (Live f) c d q = cancels f c d q
  branch_left (Out f) c d q = cancels f c d q
  branch_left Gone c d q = none_at_all work c d q

  module _ (polls : PollsMakeNone work future) (says : O → Bool → Type 0) where
    after_look : (answer : Poll O) (left : T) (c : C) (look : Look O) (b : Branch T) (d : C) → AfterPoll future says answer left c look b d → MakesNone work c d
    after_look (Ready x) left c look b d q = cancels left c d q.0
    after_look Pending left c look b d q = none_at_all work c d q.2

    pub turn_makes_none : (b : Branch T) (c : C) (look : Look O) (n : Branch T) (d : C) → TurnBy future says b c look n d → MakesNone work c d
    turn_makes_none (Live f) c look n d q = none_on work c q.middle d (polls f c q.answer q.left q.middle q.polled) (after_look q.answer q.left q.middle look n d q.rest)
    turn_makes_none (Out f) c look n d q = none_at_all work c d q.1
    turn_makes_none Gone c look n d q = none_at_all work c d q.1

module _ {A B C X Y : Type 0} (work : C → Tasks ⊤) (a : FutureOf A C X) (b : FutureOf B C Y) (a_cancels : CancelsMakeNone work a) (b_cancels : CancelsMakeNone work b) where
  seats_left : (s : Seats A B C) (d : C) → SeatsCancel a b s d → MakesNone work s.cx d
  seats_left s d q = none_on work s.cx q.0 d (branch_left work a a_cancels s.first s.cx q.0 q.1) (branch_left work b b_cancels s.second q.0 d q.2)

  module _ {G H : Type 0} where
    pub select_left : (s : Select2 A B G H) (c d : C) → SelectCancels a b s c d → MakesNone work c d
    select_left s c d q = seats_left (record { first = s.first; second = s.second; cx = c }) d q

    select_end : (picked : Poll (Option (Out2 X Y))) (t : Seats A B C) (s : Select2 A B G H) (r : Poll (Out2 X Y)) (n : Select2 A B G H) (d : C) → SelectEnds a b picked t s r n d → MakesNone work t.cx d
    select_end (Ready pick) t s r n d q = seats_left t d q.2
    select_end Pending t s r n d q = none_at_all work t.cx d q.2

  module _ {G H : Type 0} (a_polls : PollsMakeNone work a) (b_polls : PollsMakeNone work b) (g : Shared G (Bor X × Unit {0}) Bool) (h : Shared H (Bor Y × Unit {0}) Bool) where
    seat_turn : (test_a : G) (test_b : H) (x : Look X) (y : Look Y) (s : Seats A B C) (k : ℕ) (t : Seats A B C) → TurnOf a b g h test_a test_b x y s k t → MakesNone work s.cx t.cx
    seat_turn test_a test_b x y s zero t q = turn_makes_none work a a_cancels a_polls (FnReturnsAt g test_a) s.first s.cx x t.first t.cx q.0
    seat_turn test_a test_b x y s (suc zero) t q = turn_makes_none work b b_cancels b_polls (FnReturnsAt h test_b) s.second s.cx y t.second t.cx q.0
    seat_turn test_a test_b x y s (suc (suc k)) t q = absurd q

    turns_none : (test_a : G) (test_b : H) (start : ℕ) (s : Seats A B C) (picked : Poll (Option (Out2 X Y))) (t : Seats A B C) → Selects a b g h test_a test_b start s picked t → MakesNone work s.cx t.cx
    turns_none test_a test_b start s picked t q =
        fold_makes_none (λ u. work u.cx) (TurnOf a b g h test_a test_b q.x q.y) (seat_turn test_a test_b q.x q.y) s (select_turns (masks s) start (looks q.x q.y)) t q.turns

    pub select_makes_none : (s : Select2 A B G H) (c : C) (r : Poll (Out2 X Y)) (n : Select2 A B G H) (d : C) → SelectPolls a b g h s c r n d → MakesNone work c d
    select_makes_none s c r n d q =
        none_on work c q.left.cx d
        (turns_none s.first_test s.second_test (start_of s.start 2) (record { first = s.first; second = s.second; cx = c }) q.picked q.left q.selects)
        (select_end q.picked q.left s r n d q.ends)
