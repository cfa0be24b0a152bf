-- Many branches of one type; the answer is the first output that is ready and passes the predicate.
use Rattle.std.specs.Prelude.{◌≡◌, ⊤, ℕ, Bool, true, false, List, [], ◌∷◌, length, map, ◌+◌, ◌==◌, ◌/◌, ◌%◌, ◌^◌, Option, Some, None, slice_index_or, slice_set}
use Rattle.std.specs.List.{FoldsTo}
use Rattle.std.specs.Fn.{Shared}
use denote.Ref.{Bor}
use Rattle.mono_task.specs.Members.{FutureOf}
use Rattle.mono_model.specs.declared.poll.Poll.{Poll}
use Rattle.mono_model.specs.declared.poll.Poll.TheVariants.{Ready, Pending}
use Rattle.mono_combine.specs.declared.branch.Branch.{Branch}
use Rattle.mono_combine.specs.declared.branch.Branch.TheVariants.{Gone}
use Rattle.mono_combine.specs.declared.branch.Look.{Look}
use Rattle.mono_combine.specs.declared.pick.Out as out
use Rattle.mono_combine.specs.declared.pick.Out.TheVariants.{Picked, Disabled}
use Rattle.mono_combine.specs.declared.start.Start.{Start}
use Rattle.mono_combine.specs.BranchLists.{EachInTurn}
use Rattle.mono_combine.specs.Looks.{is_out, branch_spent, BranchCanPoll, BranchCancels, BranchGives, TestsGivenAt, ReturnsFor, HasTurnAt}
use Rattle.mono_combine.specs.Rules.{look_at, select_rule, select_turns}
use Rattle.mono_combine.specs.Selects.{left_out_if}
use Rattle.mono_combine.specs.Starts.{start_of}

-- The branches and the context.
pub record Row (T C : Type 0) : Type 0 where
  pub branches : List (Branch T)
  pub cx : C

-- The futures from the number k on as branches; the mask leaves out those whose bit is set.
abbrev pub masked_from : {T : Type 0} → ℕ → ℕ → List T → List (Branch T)
masked_from mask k [] = []
masked_from mask k (f ∷ fs) = left_out_if (mask / 2 ^ k % 2 == 1) f ∷ masked_from mask (k + 1) fs

-- The branch at a place, and Gone past the end.
abbrev pub branch_at : {T : Type 0} → List (Branch T) → ℕ → Branch T
branch_at branches place = slice_index_or branches place Gone

-- For each branch, whether its bit in the mask is set.
abbrev pub are_out : {T : Type 0} → List (Branch T) → List Bool
are_out branches = map is_out branches

-- The answer of a poll that ends.
abbrev pub out_of : {X : Type 0} → Option (ℕ × X) → out.Out X
out_of (Some (number, x)) = Picked number x
out_of None = Disabled

module _ {T G O : Type 0} (gives : T → O → Type 0) (call : Shared G (ℕ × (Bor O × Unit {0})) Bool) (test : G) (branches : List (Branch T)) where
  -- Whether the branch of this number gives the output, and the predicate is true for both.
  abbrev pub SelectListGives : out.Out O → Type 0
  SelectListGives (Picked number x) = BranchGives gives (branch_at branches number) x × ReturnsFor call test number x true
  SelectListGives Disabled = ⊤

  abbrev pub PickGives : Poll (Option (ℕ × O)) → Type 0
  PickGives (Ready (Some (number, x))) = BranchGives gives (branch_at branches number) x × ReturnsFor call test number x true
  PickGives (Ready None) = ⊤
  PickGives Pending = ⊤

-- Whether the predicate may be called with each branch's number and a `&` to each output that the branch may give.
abbrev pub TestsEach : {T G O : Type 0} → (T → O → Type 0) → Shared G (ℕ × (Bor O × Unit {0})) Bool → G → List (Branch T) → Type 0
TestsEach gives call test branches = (number : ℕ) → TestsGivenAt gives call test number (branch_at branches number)

module _ {T C O : Type 0} (future : FutureOf T C O) where
  -- Whether the branch may have its turn.
  abbrev pub MayLook : Branch T → Type 0
  MayLook b = (branch_spent future b ≡ false) × BranchCanPoll future b

  -- Whether the branch, if it remains, is given up.
  abbrev pub BranchEnds : Branch T → C → Branch T → C → Type 0
  BranchEnds b c b' d = (b' ≡ Gone) × BranchCancels future b c d

  -- Whether the branches that remain are given up in the written order.
  abbrev pub RowCancels : List (Branch T) → C → C → Type 0
  RowCancels branches c d = (left : List (Branch T)) × EachInTurn BranchEnds branches c left d

  -- The select waits with the branches that remain, or it answers and gives them up.
  abbrev pub RowEnds : Poll (Option (ℕ × O)) → Row T C → Poll (out.Out O) → List (Branch T) → Bool → C → Type 0
  RowEnds Pending t r left has_answered d = (r ≡ Pending) × (left ≡ t.branches) × (has_answered ≡ false) × (d ≡ t.cx)
  RowEnds (Ready pick) t r left has_answered d = (r ≡ Ready (out_of pick)) × EachInTurn BranchEnds t.branches t.cx left d × (has_answered ≡ true)

module _ {T G C O : Type 0} (future : FutureOf T C O) (call : Shared G (ℕ × (Bor O × Unit {0})) Bool) (test : G) where
  -- The turn of a branch, given the answers of this poll; each other branch stays as it is.
  pub record TurnAt (looks : List (Look O)) (s : Row T C) (b : ℕ) (t : Row T C) : Type 0 where
    pub turn : HasTurnAt future call test b (branch_at s.branches b) s.cx (look_at looks b) (branch_at t.branches b) t.cx
    pub others : t.branches ≡ slice_set s.branches b (branch_at t.branches b)

  -- The branches have their turns as the rule says, and the rule picks.
  pub record RowSelects (start : ℕ) (s : Row T C) (picked : Poll (Option (ℕ × O))) (t : Row T C) : Type 0 where
    pub looks : List (Look O)
    pub each : length looks ≡ length s.branches
    pub turns : FoldsTo (TurnAt looks) s (select_turns (are_out s.branches) start looks) t
    pub picks : picked ≡ select_rule (are_out s.branches) start looks

  -- The answers and the remaining branches that one poll may give.
  pub record SelectListPolls (start : Start) (branches : List (Branch T)) (c : C) (r : Poll (out.Out O)) (after : List (Branch T)) (has_answered : Bool) (d : C) : Type 0 where
    pub picked : Poll (Option (ℕ × O))
    pub left : Row T C
    pub selects : RowSelects (start_of start (length branches)) (record { branches = branches; cx = c }) picked left
    pub ends : RowEnds future picked left r after has_answered d
