-- A branch of a select: its turn, and how it is given up.
use Rattle.std.specs.Prelude.{◌≡◌, ℕ, ⊤, Bool, true, false}
use Rattle.std.specs.Fn.{Shared, FnReturns, FnReturnsAt}
use denote.Ref.{Bor}
use Rattle.mono_task.specs.Members.{FutureOf}
use Rattle.mono_model.specs.declared.poll.Poll.{Poll}
use Rattle.mono_model.specs.declared.poll.Poll.TheVariants.{Ready, Pending}
use Rattle.mono_combine.specs.declared.branch.Branch.{Branch}
use Rattle.mono_combine.specs.declared.branch.Branch.TheVariants.{Live, Out, Gone}
use Rattle.mono_combine.specs.declared.branch.Look.{Look}
use Rattle.mono_combine.specs.declared.branch.Look.TheVariants.{Passes, Waits, Rests}

-- Whether its bit in the mask is set.
abbrev pub is_out : {T : Type 0} → Branch T → Bool
is_out (Live f) = false
is_out (Out f) = true
is_out Gone = true

module _ {T C O : Type 0} (future : FutureOf T C O) where
  -- Whether a branch is spent; a branch that is left out is never polled.
  abbrev pub branch_spent : Branch T → Bool
  branch_spent (Live f) = future.is_spent f
  branch_spent (Out f) = false
  branch_spent Gone = false

  abbrev pub BranchCanPoll : Branch T → Type 0
  BranchCanPoll (Live f) = future.can_poll f
  BranchCanPoll (Out f) = ⊤
  BranchCanPoll Gone = ⊤

  -- Whether the branch, if it remains, is given up.
  abbrev pub BranchCancels : Branch T → C → C → Type 0
  BranchCancels (Live f) c d = future.cancels f c d
  BranchCancels (Out f) c d = future.cancels f c d
  BranchCancels Gone c d = d ≡ c

-- Whether a branch may give the output; a branch that is out gives nothing.
abbrev pub BranchGives : {T O : Type 0} → (T → O → Type 0) → Branch T → O → Type 0
BranchGives gives (Live f) x = gives f x
BranchGives gives (Out f) x = ⊥
BranchGives gives Gone x = ⊥

-- Whether the branch gives no more than before.
abbrev pub BranchNarrows : {T O : Type 0} → (T → O → Type 0) → Branch T → Branch T → Type 0
BranchNarrows {T} {O} gives b' b = (x : O) → BranchGives gives b' x → BranchGives gives b x

-- Whether the predicate may be called with a `&` to each output that the branch may give.
abbrev pub TestsGiven : {T P O : Type 0} → (T → O → Type 0) → Shared P (Bor O × Unit {0}) Bool → P → Branch T → Type 0
TestsGiven {T} {P} {O} gives call test b = (shown : Bor O) → BranchGives gives b shown.now → call.pre test (shown, tt)

-- The same for a predicate that sees the branch's number, too.
abbrev pub TestsGivenAt : {T P O : Type 0} → (T → O → Type 0) → Shared P (ℕ × (Bor O × Unit {0})) Bool → P → ℕ → Branch T → Type 0
TestsGivenAt {T} {P} {O} gives call test number b = (shown : Bor O) → BranchGives gives b shown.now → call.pre test (number, (shown, tt))

-- Whether an output that passes is an output that the branch gives, and passes.
abbrev pub LookGives : {T O : Type 0} → (T → O → Type 0) → (O → Type 0) → Branch T → Look O → Type 0
LookGives gives is_passed b (Passes x) = BranchGives gives b x × is_passed x
LookGives gives is_passed b Waits = ⊤
LookGives gives is_passed b Rests = ⊤

abbrev pub passes_if : {O : Type 0} → Bool → O → Look O
passes_if true x = Passes x
passes_if false x = Rests

module _ {T C O : Type 0} (future : FutureOf T C O) (says : O → Bool → Type 0) where
  -- A branch that was ready is out from then on, and its future is given up at once. Its predicate says of the output
  -- whether the branch passes.
  abbrev pub AfterPoll : Poll O → T → C → Look O → Branch T → C → Type 0
  AfterPoll (Ready x) left c look b d = future.cancels left c d × (b ≡ Gone) × ((is_true : Bool) × says x is_true × (look ≡ passes_if is_true x))
  AfterPoll Pending left c look b d = (look ≡ Waits) × (b ≡ Live left) × (d ≡ c)

  pub record IsPolled (f : T) (c : C) (look : Look O) (b : Branch T) (d : C) : Type 0 where
    pub answer : Poll O
    pub left : T
    pub middle : C
    pub polled : future.polls f c answer left middle
    pub rest : AfterPoll answer left middle look b d

  -- The turn of a branch: a live branch is polled, and any other stays as it is.
  abbrev pub TurnBy : Branch T → C → Look O → Branch T → C → Type 0
  TurnBy (Live f) c look b d = IsPolled f c look b d
  TurnBy (Out f) c look b d = (b ≡ Out f) × (d ≡ c)
  TurnBy Gone c look b d = (b ≡ Gone) × (d ≡ c)

-- The turn of a branch whose predicate sees the output.
abbrev pub HasTurn : {T P C O : Type 0} → FutureOf T C O → Shared P (Bor O × Unit {0}) Bool → P → Branch T → C → Look O → Branch T → C → Type 0
HasTurn future call test b c look b' d = TurnBy future (FnReturnsAt call test) b c look b' d

-- The predicate returns this for the number and a `&` to x.
pub record ReturnsFor {P O : Type 0} (call : Shared P (ℕ × (Bor O × Unit {0})) Bool) (test : P) (number : ℕ) (x : O) (is_true : Bool) : Type 0 where
  pub shown : Bor O
  pub shows : shown.now ≡ x
  pub says : FnReturns call test (number, (shown, tt)) is_true

-- The turn of a branch whose predicate sees its number and the output.
abbrev pub HasTurnAt : {T P C O : Type 0} → FutureOf T C O → Shared P (ℕ × (Bor O × Unit {0})) Bool → P → ℕ → Branch T → C → Look O → Branch T → C → Type 0
HasTurnAt future call test number b c look b' d = TurnBy future (ReturnsFor call test number) b c look b' d
