-- Many branches of one type that are polled until one fails or all values are there.
use Rattle.std.specs.Prelude.{◌≡◌, ◌⊎◌, Bool, true, false, ◌||◌, List, [], ◌∷◌, map, is_some, Result, Ok, Err, Option, Some, None}
use Rattle.std.specs.List.{AllZip}
use Rattle.mono_task.specs.Members.{FutureOf}
use Rattle.mono_model.specs.Poll.{OnPending, OnReady}
use Rattle.mono_model.specs.declared.poll.Poll.{Poll}
use Rattle.mono_model.specs.declared.poll.Poll.TheVariants.{Ready, Pending}
use Rattle.mono_combine.specs.declared.maybe.MaybeDone.{MaybeDone}
use Rattle.mono_combine.specs.declared.maybe.MaybeDone.TheVariants.{Future, Done, Gone}
use Rattle.mono_combine.specs.Branches.{output_of, MaybeGives}
use Rattle.mono_combine.specs.BranchLists.{EachInTurn, AllCancel, AllGone}
use Rattle.mono_combine.specs.Rules.{try_join_rule}
use Rattle.mono_combine.specs.TryJoins.{failure_of, AdvancesUnless}

-- Whether the branch has failed.
abbrev pub has_failed : {T X E : Type 0} → MaybeDone T (Result X E) → Bool
has_failed m = is_some (failure_of m)

-- The value of a branch.
abbrev pub value_in : {T X E : Type 0} → MaybeDone T (Result X E) → Option X
value_in (Future f) = None
value_in (Done (Ok x)) = Some x
value_in (Done (Err e)) = None
value_in Gone = None

-- The context, and whether a branch has failed so far.
pub record Trying (C : Type 0) : Type 0 where
  pub one_failed : Bool
  pub cx : C

-- The first of two errors.
abbrev pub earlier : {E : Type 0} → Option E → Option E → Option E
earlier None later = later
earlier (Some e) later = Some e

-- The first error among the branches.
abbrev pub first_failure : {T X E : Type 0} → List (MaybeDone T (Result X E)) → Option E
first_failure [] = None
first_failure (m ∷ ms) = earlier (failure_of m) (first_failure ms)

module _ {T X E : Type 0} (gives : T → Result X E → Type 0) where
  -- Whether the branch gives the value.
  abbrev pub GivesValue : MaybeDone T (Result X E) → X → Type 0
  GivesValue m x = MaybeGives gives m (Ok x)

  -- Whether one of the branches gives the error.
  abbrev pub OneFails : List (MaybeDone T (Result X E)) → E → Type 0
  OneFails [] e = ⊥
  OneFails (m ∷ ms) e = MaybeGives gives m (Err e) ⊎ OneFails ms e

  -- A value of each branch, or an error of one of them.
  abbrev pub TryJoinListGives : List (MaybeDone T (Result X E)) → Result (List X) E → Type 0
  TryJoinListGives branches (Ok xs) = AllZip GivesValue branches xs
  TryJoinListGives branches (Err e) = OneFails branches e

module _ {C T X E : Type 0} (future : FutureOf T C (Result X E)) where
  -- The turn of a branch: it is polled unless a branch before it has failed.
  pub record TriesOnce (m : MaybeDone T (Result X E)) (s : Trying C) (n : MaybeDone T (Result X E)) (t : Trying C) : Type 0 where
    pub advanced : AdvancesUnless future s.one_failed m s.cx n t.cx
    pub failed : t.one_failed ≡ (s.one_failed || has_failed n)

  -- The branches have their turns in the written order, up to the first that fails.
  abbrev pub TriesEach : List (MaybeDone T (Result X E)) → C → List (MaybeDone T (Result X E)) → Bool → C → Type 0
  TriesEach branches c polled one_failed d = EachInTurn TriesOnce branches (record { one_failed = false; cx = c }) polled (record { one_failed = one_failed; cx = d })

  -- Each branch that is not done is polled once, in the written order, up to the first that fails, and the rule gives
  -- the answer. Once it has answered, the unfinished branches are given up in the written order, and none remains.
  pub record TryJoinListPolls (branches : List (MaybeDone T (Result X E))) (c : C) (r : Poll (Result (List X) E)) (left : List (MaybeDone T (Result X E))) (has_answered : Bool) (d : C) : Type 0 where
    pub polled : List (MaybeDone T (Result X E))
    pub one_failed : Bool
    pub after : C
    pub turns : TriesEach branches c polled one_failed after
    pub answer : r ≡ try_join_rule (map output_of polled)
    pub waits : OnPending r ((left ≡ polled) × (has_answered ≡ false) × (d ≡ after))
    pub ends : OnReady r ((has_answered ≡ true) × AllCancel future polled after d × AllGone left)

-- A result, with a vector of values seen as the list of its items.
abbrev pub result_as : {V X E : Type 0} → (V → List X) → Result V E → Result (List X) E
result_as items (Ok v) = Ok (items v)
result_as items (Err e) = Err e

-- The answer, with a vector of values seen as the list of its items.
abbrev pub tried_as : {V X E : Type 0} → (V → List X) → Poll (Result V E) → Poll (Result (List X) E)
tried_as items (Ready (Ok v)) = Ready (Ok (items v))
tried_as items (Ready (Err e)) = Ready (Err e)
tried_as items Pending = Pending
