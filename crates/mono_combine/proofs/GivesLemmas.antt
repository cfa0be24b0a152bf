-- The outputs that branches give: a branch that gives no more than before, and the outputs and errors of a list.
use Rattle.std.proofs.Common.{◌≡◌, ℕ, zero, suc, ◌<◌, Bool, true, false, List, [], ◌∷◌, length, get_or, set, Option, Some, None, refl, subst, inl, inr, arith}
use Rattle.std.specs.Prelude.{Result, Ok, Err}
use Rattle.std.specs.List.{list_any, filter_map, AllZip}
use Rattle.std.specs.Fn.{Shared, FnReturnsAt}
use denote.Ref.{Bor}
use Rattle.mono_task.specs.Members.{FutureOf}
use Rattle.mono_model.specs.declared.poll.Poll.TheVariants.{Ready}
use Rattle.mono_combine.specs.declared.maybe.MaybeDone.{MaybeDone}
use Rattle.mono_combine.specs.declared.maybe.MaybeDone.TheVariants.{Future, Done, Gone}
use Rattle.mono_combine.specs.Branches.{is_waiting, output_of, MaybeGives, MaybeNarrows}
use Rattle.mono_combine.specs.declared.branch.Branch.{Branch}
use Rattle.mono_combine.specs.declared.branch.Look.{Look}
use Rattle.mono_combine.specs.declared.branch.Look.TheVariants.{Passes, Waits, Rests}
use Rattle.mono_combine.specs.declared.pick.Out as out
use Rattle.mono_combine.specs.declared.pick.Out.TheVariants as pick
use Rattle.mono_combine.specs.declared.select.Out2.{Out2}
use Rattle.mono_combine.specs.declared.select.Out2.TheVariants.{First, Second, Disabled}
use Rattle.mono_combine.specs.declared.select.Select2.{Select2}
use Rattle.mono_combine.specs.declared.try_joins.TryJoin2.{TryJoin2}
use Rattle.mono_combine.specs.BranchLists.{AllMayPoll}
use Rattle.mono_combine.specs.Looks.{BranchGives, BranchNarrows, LookGives, TestsGiven}
use Rattle.mono_combine.specs.Selects.{SelectGives, PickGives, SelectNarrows, then_look, as_first, as_second, or_disabled}
use Rattle.mono_combine.specs.ListSelects as row
use Rattle.mono_combine.specs.TryJoins.{failure_of, without_failure, TryJoinGives}
use Rattle.mono_combine.specs.TryLists.{has_failed, value_in, first_failure, GivesValue, OneFails, TryJoinListGives}

module _ {M O : Type 0} (G : M → O → Type 0) where
  -- it gives no more than before
  abbrev pub Narrows : M → M → Type 0
  Narrows n m = (x : O) → G n x → G m x

  pub narrows_itself : (xs : List M) → AllZip Narrows xs xs
  narrows_itself [] = tt
  narrows_itself (x ∷ xs) = (λ v h. h, narrows_itself xs)

  -- one more branch gives no more than before
  pub narrows_set : (xs ys : List M) (i : ℕ) (m n : M) → i < length xs → m ≡ get_or xs i m → Narrows n m → AllZip Narrows xs ys → AllZip Narrows (set xs i n) ys
  narrows_set [] ys i m n less is to h = absurd (omega arith)
  narrows_set (x ∷ xs) [] i m n less is to h = absurd h
  narrows_set (x ∷ xs) (y ∷ ys) zero m n less is to h = (λ v k. h.0 v (subst (λ z. G z v) is (to v k)), h.1)
  narrows_set (x ∷ xs) (y ∷ ys) (suc i) m n less is to h = (h.0, narrows_set xs ys i m n (omega arith) is to h.1)

  -- Each branch gives only outputs that it gave before.
  pub narrows_each : {V : Type 0} (Q : M → V → Type 0) → ((n m : M) (v : V) → Narrows n m → Q n v → Q m v) → (xs ys : List M) (vs : List V) → AllZip Narrows xs ys → AllZip Q xs vs → AllZip Q ys vs
  narrows_each Q to [] [] [] h k = tt
  narrows_each Q to [] [] (v ∷ vs) h k = absurd k
  narrows_each Q to [] (y ∷ ys) vs h k = absurd h
  narrows_each Q to (x ∷ xs) [] vs h k = absurd h
  narrows_each Q to (x ∷ xs) (y ∷ ys) [] h k = absurd k
  narrows_each Q to (x ∷ xs) (y ∷ ys) (v ∷ vs) h k = (to x y v h.0 k.0, narrows_each Q to xs ys vs h.1 k.1)

  -- The branch at a place gives only outputs that the branch there gave before.
  pub narrows_at : (xs ys : List M) (i : ℕ) (m d : M) (x : O) → i < length xs → m ≡ get_or xs i m → AllZip Narrows xs ys → G m x → G (get_or ys i d) x
  narrows_at [] ys i m d x less is h k = absurd (omega arith)
  narrows_at (z ∷ xs) [] i m d x less is h k = absurd h
  narrows_at (z ∷ xs) (y ∷ ys) zero m d x less is h k = h.0 x (subst (λ w. G w x) is k)
  narrows_at (z ∷ xs) (y ∷ ys) (suc i) m d x less is h k = narrows_at xs ys i m d x (omega arith) is h.1 k

module _ {C T O : Type 0} (future : FutureOf T C O) where
  -- If none waits, each branch has given its output.
  pub all_given : (xs : List (MaybeDone T O)) → AllMayPoll future xs → list_any is_waiting xs ≡ false → AllZip (MaybeGives future.gives) xs (filter_map output_of xs)
  all_given [] may h = tt
  all_given (Future f ∷ xs) may h = absurd (cc)
  all_given (Done x ∷ xs) may h = (refl, all_given xs may.1 h)
  all_given (Gone ∷ xs) may h = let spent = may.0.0 in absurd (cc)

module _ {C T X E : Type 0} (future : FutureOf T C (Result X E)) where
  -- If none waits and none has failed, each branch has given its value.
  pub values_given : (xs : List (MaybeDone T (Result X E))) → AllMayPoll future xs → list_any has_failed xs ≡ false → list_any is_waiting xs ≡ false → AllZip (GivesValue future.gives) xs (filter_map value_in xs)
  values_given [] may well h = tt
  values_given (Future f ∷ xs) may well h = absurd (cc)
  values_given (Done (Ok x) ∷ xs) may well h = (refl, values_given xs may.1 well h)
  values_given (Done (Err e) ∷ xs) may well h = absurd (cc)
  values_given (Gone ∷ xs) may well h = let spent = may.0.0 in absurd (cc)

module _ {T X E : Type 0} (gives : T → Result X E → Type 0) where
  -- One of the branches has given the first error.
  pub error_given : (xs : List (MaybeDone T (Result X E))) (e : E) → first_failure xs ≡ Some e → OneFails gives xs e
  error_given [] e first = absurd (cc)
  error_given (Future f ∷ xs) e first = inr (error_given xs e first)
  error_given (Done (Ok x) ∷ xs) e first = inr (error_given xs e first)
  error_given (Done (Err y) ∷ xs) e first = inl (cc)
  error_given (Gone ∷ xs) e first = inr (error_given xs e first)

  pub error_before : (xs ys : List (MaybeDone T (Result X E))) (e : E) → AllZip (MaybeNarrows gives) xs ys → OneFails gives xs e → OneFails gives ys e
  error_before [] ys e h k = absurd k
  error_before (x ∷ xs) [] e h k = absurd h
  error_before (x ∷ xs) (y ∷ ys) e h k = elim k [
    | inl one ↦ inl (h.0 (Err e) one)
    | inr later ↦ inr (error_before xs ys e h.1 later)
  ]

  -- The branch has given an error that was taken.
  pub failure_given : (m : MaybeDone T (Result X E)) (e : E) → failure_of m ≡ Some e → MaybeGives gives m (Err e)
  failure_given (Future f) e is = absurd (cc)
  failure_given (Done (Ok x)) e is = absurd (cc)
  failure_given (Done (Err y)) e is = cc
  failure_given Gone e is = absurd (cc)

  -- a branch whose error may have been taken gives no more than before
  pub without_narrows : (m : MaybeDone T (Result X E)) → MaybeNarrows gives (without_failure m) m
  without_narrows (Future f) x h = h
  without_narrows (Done (Ok y)) x h = h
  without_narrows (Done (Err e)) x h = absurd h
  without_narrows Gone x h = absurd h

  -- The list gives only results that it gave before.
  pub result_before : (xs ys : List (MaybeDone T (Result X E))) (r : Result (List X) E) → AllZip (MaybeNarrows gives) xs ys → TryJoinListGives gives xs r → TryJoinListGives gives ys r
  result_before xs ys (Ok vs) h k = narrows_each (MaybeGives gives) (GivesValue gives) (λ n m x to. to (Ok x)) xs ys vs h k
  result_before xs ys (Err e) h k = error_before xs ys e h k

-- a try-join whose branches give no more than before gives no more
pub try_before : {A B X Y E : Type 0} (a : A → Result X E → Type 0) (b : B → Result Y E → Type 0) (f g : TryJoin2 A B X Y E) → MaybeNarrows a g.a f.a → MaybeNarrows b g.b f.b
    → (r : Result (X × Y) E) → TryJoinGives a b g r → TryJoinGives a b f r
try_before a b f g first second (Ok p) h = (first (Ok p.0) h.0, second (Ok p.1) h.1)
try_before a b f g first second (Err e) h = elim h [
  | inl one ↦ inl (first (Err e) one)
  | inr other ↦ inr (second (Err e) other)
]

module _ {A B G H X Y : Type 0} (a : A → X → Type 0) (b : B → Y → Type 0) (g : Shared G (Bor X × Unit {0}) Bool) (h : Shared H (Bor Y × Unit {0}) Bool) (s : Select2 A B G H) where
  -- The pick if the second had its turn last.
  pub second_given : (some_wait : Bool) (look : Look Y) → LookGives b (λ y. FnReturnsAt h s.second_test y true) s.second look → PickGives a b g h s (then_look some_wait (as_second look))
  second_given some_wait (Passes y) given = given
  second_given some_wait Waits given = tt
  second_given true Rests given = tt
  second_given false Rests given = tt

  pub first_given : (some_wait : Bool) (look : Look X) → LookGives a (λ x. FnReturnsAt g s.first_test x true) s.first look → PickGives a b g h s (then_look some_wait (as_first look))
  first_given some_wait (Passes x) given = given
  first_given some_wait Waits given = tt
  first_given true Rests given = tt
  first_given false Rests given = tt

  pub picked_given : (pick : Option (Out2 X Y)) → PickGives a b g h s (Ready pick) → SelectGives a b g h s (or_disabled pick)
  picked_given (Some out) given = given
  picked_given None given = tt

  pub select_before : (t : Select2 A B G H) → SelectNarrows a b t s → t.first_test ≡ s.first_test → t.second_test ≡ s.second_test → (out : Out2 X Y) → SelectGives a b g h t out → SelectGives a b g h s out
  select_before t narrows first second (First x) given = (narrows.0 x given.0, subst (λ p. FnReturnsAt g p x true) first given.1)
  select_before t narrows first second (Second y) given = (narrows.1 y given.0, subst (λ p. FnReturnsAt h p y true) second given.1)
  select_before t narrows first second Disabled given = tt

-- A predicate that may be called with all that a branch gives may be called with all that it gives later.
pub tests_fewer : {T P O : Type 0} (gives : T → O → Type 0) (call : Shared P (Bor O × Unit {0}) Bool) (test kept : P) (new old : Branch T)
    → kept ≡ test → BranchNarrows gives new old → TestsGiven gives call test old → TestsGiven gives call kept new
tests_fewer gives call test kept new old same narrows tests = rw same (λ shown h. tests shown (narrows shown.now h))

module _ {T O : Type 0} (gives : T → O → Type 0) where
  narrows_branch : (xs ys : List (Branch T)) (k : ℕ) (x : O) → AllZip (BranchNarrows gives) xs ys → BranchGives gives (row.branch_at xs k) x → BranchGives gives (row.branch_at ys k) x
  narrows_branch [] ys k x h given = absurd given
  narrows_branch (z ∷ xs) [] k x h given = absurd h
  narrows_branch (z ∷ xs) (y ∷ ys) zero x h given = h.0 x given
  narrows_branch (z ∷ xs) (y ∷ ys) (suc k) x h given = narrows_branch xs ys k x h.1 given

  module _ {G : Type 0} (call : Shared G (ℕ × (Bor O × Unit {0})) Bool) (test : G) where
    pub out_given : (branches : List (Branch T)) (pick : Option (ℕ × O)) → row.PickGives gives call test branches (Ready pick) → row.SelectListGives gives call test branches (row.out_of pick)
    out_given branches (Some (number, x)) given = given
    out_given branches None given = tt

    pub each_fewer : (xs ys : List (Branch T)) → AllZip (BranchNarrows gives) xs ys → row.TestsEach gives call test ys → row.TestsEach gives call test xs
    each_fewer xs ys h tests = λ number shown given. tests number shown (narrows_branch xs ys number shown.now h given)

    pub row_before : (xs ys : List (Branch T)) → AllZip (BranchNarrows gives) xs ys → (out : out.Out O) → row.SelectListGives gives call test xs out → row.SelectListGives gives call test ys out
    row_before xs ys h (pick.Picked number x) given = (narrows_branch xs ys number x h given.0, given.1)
    row_before xs ys h pick.Disabled given = tt
