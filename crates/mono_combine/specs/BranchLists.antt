-- Many branches of one type.
use Rattle.std.specs.Prelude.{◌≡◌, ⊤, Bool, true, false, List, [], ◌∷◌, map}
use Rattle.mono_task.specs.Members.{FutureOf}
use Rattle.mono_model.specs.Poll.{OnPending, OnReady}
use Rattle.mono_model.specs.declared.poll.Poll.{Poll}
use Rattle.mono_model.specs.declared.poll.Poll.TheVariants.{Ready, Pending}
use Rattle.mono_combine.specs.declared.maybe.MaybeDone.{MaybeDone}
use Rattle.mono_combine.specs.declared.maybe.MaybeDone.TheVariants.{Gone}
use Rattle.mono_combine.specs.Branches.{Advances, maybe_spent, MaybeCanPoll, MaybeCancels, output_of}
use Rattle.mono_combine.specs.Rules.{join_rule}

-- Whether each branch was given up or its output was taken.
abbrev pub AllGone : {T O : Type 0} → List (MaybeDone T O) → Type 0
AllGone [] = ⊤
AllGone (m ∷ ms) = (m ≡ Gone) × AllGone ms

-- Whether each branch has its turn once, in the written order.
abbrev pub EachInTurn : {M C : Type 0} → (M → C → M → C → Type 0) → List M → C → List M → C → Type 0
EachInTurn step [] c [] d = d ≡ c
EachInTurn step [] c (n ∷ ns) d = ⊥
EachInTurn step (m ∷ ms) c [] d = ⊥
EachInTurn {M} {C} step (m ∷ ms) c (n ∷ ns) d = (middle : C) × step m c n middle × EachInTurn step ms middle ns d

module _ {C T O : Type 0} (future : FutureOf T C O) where
  abbrev pub MayPoll : MaybeDone T O → Type 0
  MayPoll m = (maybe_spent future m ≡ false) × MaybeCanPoll future m

  abbrev pub AllMayPoll : List (MaybeDone T O) → Type 0
  AllMayPoll [] = ⊤
  AllMayPoll (m ∷ ms) = MayPoll m × AllMayPoll ms

  abbrev pub AllCanPoll : List (MaybeDone T O) → Type 0
  AllCanPoll [] = ⊤
  AllCanPoll (m ∷ ms) = MaybeCanPoll future m × AllCanPoll ms

  -- Whether the branch is given up, or its output dropped.
  abbrev pub GivesUp : MaybeDone T O → C → MaybeDone T O → C → Type 0
  GivesUp m c n d = (n ≡ Gone) × MaybeCancels future m c d

  -- Each branch that is not done is polled once, in the written order, and the rule gives the answer. Once it has
  -- answered, no branch remains to be given up.
  pub record JoinListPolls (branches : List (MaybeDone T O)) (c : C) (r : Poll (List O)) (left : List (MaybeDone T O)) (has_answered : Bool) (d : C) : Type 0 where
    pub polled : List (MaybeDone T O)
    pub turns : EachInTurn (Advances future) branches c polled d
    pub answer : r ≡ join_rule (map output_of polled)
    pub waits : OnPending r ((left ≡ polled) × (has_answered ≡ false))
    pub ends : OnReady r ((has_answered ≡ true) × AllGone left)

  -- Whether the branches that remain are given up in the written order.
  abbrev pub AllCancel : List (MaybeDone T O) → C → C → Type 0
  AllCancel branches c d = (left : List (MaybeDone T O)) × EachInTurn GivesUp branches c left d

-- The answer, with a vector seen as the list of its items.
abbrev pub answer_as : {V O : Type 0} → (V → List O) → Poll V → Poll (List O)
answer_as items (Ready v) = Ready (items v)
answer_as items Pending = Pending
