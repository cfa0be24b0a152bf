-- Two branches that are polled until one fails or both values are there.
use Rattle.std.specs.Prelude.{◌≡◌, ◌⊎◌, Bool, true, false, List, [], ◌∷◌, Option, is_some, Result, Ok, Err}
use Rattle.std.specs.Option.{option_map}
use Rattle.std.proofs.Common.{inl, inr}
use Rattle.mono_task.specs.Members.{FutureOf}
use Rattle.mono_model.specs.Poll.{OnPending, OnReady}
use Rattle.mono_model.specs.declared.poll.Poll.{Poll}
use Rattle.mono_model.specs.declared.poll.Poll.TheVariants.{Ready, Pending}
use Rattle.mono_combine.specs.declared.maybe.MaybeDone.{MaybeDone}
use Rattle.mono_combine.specs.declared.maybe.MaybeDone.TheVariants.{Future, Done, Gone}
use Rattle.mono_combine.specs.declared.try_joins.TryJoin2.{TryJoin2}
use Rattle.mono_combine.specs.Branches.{Advances, MaybeCancels, MaybeGives, output_of}
use Rattle.mono_combine.specs.Rules.{error_of, try_join_rule}

-- The error or the value of a branch.
abbrev pub failure_of : {Fut X E : Type 0} → MaybeDone Fut (Result X E) → Option E
failure_of m = error_of (output_of m)

-- The branch after its error, if it has one, was taken.
abbrev pub without_failure : {Fut X E : Type 0} → MaybeDone Fut (Result X E) → MaybeDone Fut (Result X E)
without_failure (Future f) = Future f
without_failure (Done (Ok x)) = Done (Ok x)
without_failure (Done (Err e)) = Gone
without_failure Gone = Gone

module _ {X Y E : Type 0} where
  abbrev pub left_value : Result X E → Result (X ⊎ Y) E
  left_value (Ok x) = Ok (inl x)
  left_value (Err e) = Err e

  abbrev pub right_value : Result Y E → Result (X ⊎ Y) E
  right_value (Ok y) = Ok (inr y)
  right_value (Err e) = Err e

  -- Two outputs as the list to which the rule applies.
  abbrev pub both_results : Option (Result X E) → Option (Result Y E) → List (Option (Result (X ⊎ Y) E))
  both_results x y = option_map left_value x ∷ option_map right_value y ∷ []

  abbrev pub as_result_list : Poll (Result (X × Y) E) → Poll (Result (List (X ⊎ Y)) E)
  as_result_list (Ready (Ok (x, y))) = Ready (Ok (inl x ∷ inr y ∷ []))
  as_result_list (Ready (Err e)) = Ready (Err e)
  as_result_list Pending = Pending

-- Both values, or an error that a branch may still give or has given.
abbrev pub TryJoinGives : {A B X Y E : Type 0} → (A → Result X E → Type 0) → (B → Result Y E → Type 0) → TryJoin2 A B X Y E → Result (X × Y) E → Type 0
TryJoinGives a b f (Ok p) = MaybeGives a f.a (Ok p.0) × MaybeGives b f.b (Ok p.1)
TryJoinGives a b f (Err e) = MaybeGives a f.a (Err e) ⊎ MaybeGives b f.b (Err e)

-- Whether a branch is polled unless a branch before it has failed.
abbrev pub AdvancesUnless : {C Fut O : Type 0} → FutureOf Fut C O → Bool → MaybeDone Fut O → C → MaybeDone Fut O → C → Type 0
AdvancesUnless future true m c n d = (n ≡ m) × (d ≡ c)
AdvancesUnless future false m c n d = Advances future m c n d

module _ {C A B X Y E : Type 0} (a : FutureOf A C (Result X E)) (b : FutureOf B C (Result Y E)) where
  -- Whether the branches that remain are given up in the written order.
  abbrev pub BothCancel : MaybeDone A (Result X E) → MaybeDone B (Result Y E) → C → C → Type 0
  BothCancel first second c d = (middle : C) × MaybeCancels a first c middle × MaybeCancels b second middle d

  -- Each branch that is not done is polled once, in the written order, up to the first that fails, and the rule gives
  -- the answer. Once it has answered, the unfinished branches are given up in the written order.
  pub record TryJoinPolls (f : TryJoin2 A B X Y E) (c : C) (r : Poll (Result (X × Y) E)) (g : TryJoin2 A B X Y E) (d : C) : Type 0 where
    pub first : MaybeDone A (Result X E)
    pub second : MaybeDone B (Result Y E)
    pub between : C
    pub after : C
    pub a_polled : Advances a f.a c first between
    pub b_polled : AdvancesUnless b (is_some (failure_of first)) f.b between second after
    pub answer : as_result_list r ≡ try_join_rule (both_results (output_of first) (output_of second))
    pub waits : OnPending r ((g ≡ record { a = first; b = second }) × (d ≡ after))
    pub ends : OnReady r ((g ≡ record { a = Gone; b = Gone }) × BothCancel first second after d)

  abbrev pub TryJoinCancels : TryJoin2 A B X Y E → C → C → Type 0
  TryJoinCancels f c d = BothCancel f.a f.b c d
