-- Two branches; the answer is the first output that is ready and passes its predicate.
use Rattle.std.specs.Prelude.{◌≡◌, ⊤, ℕ, zero, suc, Bool, true, false, ◌||◌, List, [], ◌∷◌, Option, Some, None}
use Rattle.std.specs.List.{FoldsTo}
use Rattle.std.specs.Fn.{Shared, FnReturnsAt}
use denote.Ref.{Bor}
use Rattle.mono_task.specs.Members.{FutureOf}
use Rattle.mono_model.specs.declared.poll.Poll.{Poll}
use Rattle.mono_model.specs.declared.poll.Poll.TheVariants.{Ready, Pending}
use Rattle.mono_combine.specs.declared.branch.Branch.{Branch}
use Rattle.mono_combine.specs.declared.branch.Branch.TheVariants.{Live, Out, Gone}
use Rattle.mono_combine.specs.declared.branch.Look.{Look}
use Rattle.mono_combine.specs.declared.branch.Look.TheVariants.{Passes, Waits, Rests}
use Rattle.mono_combine.specs.declared.select.Out2.{Out2}
use Rattle.mono_combine.specs.declared.select.Out2.TheVariants.{First, Second, Disabled}
use Rattle.mono_combine.specs.declared.select.Select2.{Select2}
use Rattle.mono_combine.specs.Looks.{is_out, branch_spent, BranchCancels, BranchGives, BranchNarrows, HasTurn}
use Rattle.mono_combine.specs.Rules.{select_rule, select_turns}
use Rattle.mono_combine.specs.Starts.{start_of, next_start}

-- The two branches and the context.
pub record Seats (A B C : Type 0) : Type 0 where
  pub first : Branch A
  pub second : Branch B
  pub cx : C

-- A branch as the caller gives it.
abbrev pub left_out_if : {T : Type 0} → Bool → T → Branch T
left_out_if true f = Out f
left_out_if false f = Live f

abbrev pub masks : {A B C : Type 0} → Seats A B C → List Bool
masks s = is_out s.first ∷ is_out s.second ∷ []

module _ {X Y : Type 0} where
  abbrev pub as_first : Look X → Look (Out2 X Y)
  as_first (Passes x) = Passes (First x)
  as_first Waits = Waits
  as_first Rests = Rests

  abbrev pub as_second : Look Y → Look (Out2 X Y)
  as_second (Passes y) = Passes (Second y)
  as_second Waits = Waits
  as_second Rests = Rests

  abbrev pub looks : Look X → Look Y → List (Look (Out2 X Y))
  looks x y = as_first x ∷ as_second y ∷ []

  -- The select's answer from that of the second branch polled, if the first did not pass.
  abbrev pub then_look : Bool → Look (Out2 X Y) → Poll (Option (Out2 X Y))
  then_look some_wait (Passes out) = Ready (Some out)
  then_look some_wait Waits = Pending
  then_look true Rests = Pending
  then_look false Rests = Ready None

  -- The answer without the branch's number, which the output shows.
  abbrev pub without_number : Poll (Option (ℕ × Out2 X Y)) → Poll (Option (Out2 X Y))
  without_number (Ready (Some (b, out))) = Ready (Some out)
  without_number (Ready None) = Ready None
  without_number Pending = Pending

  abbrev pub or_disabled : Option (Out2 X Y) → Out2 X Y
  or_disabled (Some out) = out
  or_disabled None = Disabled

module _ {A B G H C X Y : Type 0} (a : FutureOf A C X) (b : FutureOf B C Y) (g : Shared G (Bor X × Unit {0}) Bool) (h : Shared H (Bor Y × Unit {0}) Bool) (test_a : G) (test_b : H) where
  -- The turn of a branch, given the answers of this poll.
  abbrev pub TurnOf : Look X → Look Y → Seats A B C → ℕ → Seats A B C → Type 0
  TurnOf x y s zero t = HasTurn a g test_a s.first s.cx x t.first t.cx × (t.second ≡ s.second)
  TurnOf x y s (suc zero) t = HasTurn b h test_b s.second s.cx y t.second t.cx × (t.first ≡ s.first)
  TurnOf x y s (suc (suc n)) t = ⊥

  -- The branches have their turns as the rule says, and the rule picks.
  pub record Selects (start : ℕ) (s : Seats A B C) (picked : Poll (Option (Out2 X Y))) (t : Seats A B C) : Type 0 where
    pub x : Look X
    pub y : Look Y
    pub turns : FoldsTo (TurnOf x y) s (select_turns (masks s) start (looks x y)) t
    pub picks : picked ≡ without_number (select_rule (masks s) start (looks x y))

module _ {A B G H X Y : Type 0} (a : A → X → Type 0) (b : B → Y → Type 0) (g : Shared G (Bor X × Unit {0}) Bool) (h : Shared H (Bor Y × Unit {0}) Bool) (s : Select2 A B G H) where
  -- Whether its branch gives the output, and its predicate is true for it.
  abbrev pub SelectGives : Out2 X Y → Type 0
  SelectGives (First x) = BranchGives a s.first x × FnReturnsAt g s.first_test x true
  SelectGives (Second y) = BranchGives b s.second y × FnReturnsAt h s.second_test y true
  SelectGives Disabled = ⊤

  abbrev pub PickGives : Poll (Option (Out2 X Y)) → Type 0
  PickGives (Ready (Some out)) = SelectGives out
  PickGives (Ready None) = ⊤
  PickGives Pending = ⊤

-- Whether the branches give no more than before.
abbrev pub SelectNarrows : {A B G H X Y : Type 0} → (A → X → Type 0) → (B → Y → Type 0) → Select2 A B G H → Select2 A B G H → Type 0
SelectNarrows a b new old = BranchNarrows a new.first old.first × BranchNarrows b new.second old.second

module _ {A B C X Y : Type 0} (a : FutureOf A C X) (b : FutureOf B C Y) where
  -- Whether the branches that remain are given up in the written order.
  abbrev pub SeatsCancel : Seats A B C → C → Type 0
  SeatsCancel s d = (middle : C) × BranchCancels a s.first s.cx middle × BranchCancels b s.second middle d

module _ {A B G H C X Y : Type 0} (a : FutureOf A C X) (b : FutureOf B C Y) where
  abbrev pub SelectCancels : Select2 A B G H → C → C → Type 0
  SelectCancels s c d = SeatsCancel a b (record { first = s.first; second = s.second; cx = c }) d

  abbrev pub select_spent : Select2 A B G H → Bool
  select_spent s = s.has_answered || (branch_spent a s.first || branch_spent b s.second)

  -- The select waits with the branches that remain, or it answers and gives them up.
  abbrev pub SelectEnds : Poll (Option (Out2 X Y)) → Seats A B C → Select2 A B G H → Poll (Out2 X Y) → Select2 A B G H → C → Type 0
  SelectEnds Pending t s r s' d = (r ≡ Pending) × (s' ≡ record s { first = t.first; second = t.second; start = next_start s.start }) × (d ≡ t.cx)
  SelectEnds (Ready pick) t s r s' d = (r ≡ Ready (or_disabled pick)) × (s' ≡ record s { first = Gone; second = Gone; start = next_start s.start; has_answered = true }) × SeatsCancel a b t d

module _ {A B G H C X Y : Type 0} (a : FutureOf A C X) (b : FutureOf B C Y) (g : Shared G (Bor X × Unit {0}) Bool) (h : Shared H (Bor Y × Unit {0}) Bool) where
  -- The answers and the remaining branches that one poll may give.
  pub record SelectPolls (s : Select2 A B G H) (c : C) (r : Poll (Out2 X Y)) (s' : Select2 A B G H) (d : C) : Type 0 where
    pub picked : Poll (Option (Out2 X Y))
    pub left : Seats A B C
    pub selects : Selects a b g h s.first_test s.second_test (start_of s.start 2) (record { first = s.first; second = s.second; cx = c }) picked left
    pub ends : SelectEnds a b picked left s r s' d
