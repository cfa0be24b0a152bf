-- The turns of a try-join over a list, and its answer.
use Rattle.std.proofs.Common.{◌≡◌, ℕ, ◌+◌, ◌<◌, Bool, true, false, List, [], ◌∷◌, ◌++◌, length, get_or, take, drop, set, map, refl, sym, ◌∙◌, ap, arith, Option, Some, None, is_none, Result, Ok, Err}
use Rattle.std.specs.List.{list_any, filter_map}
use Rattle.std.proofs.lemmas.List.{drop-set-lt, take_more_set, append_assoc, take-append-drop, get_or-set_same}
use Rattle.mono_task.specs.Members.{FutureOf}
use Rattle.mono_model.specs.declared.poll.Poll.TheVariants.{Ready, Pending}
use Rattle.mono_combine.specs.declared.maybe.MaybeDone.{MaybeDone}
use Rattle.mono_combine.specs.declared.maybe.MaybeDone.TheVariants.{Future, Done, Gone}
use Rattle.mono_combine.specs.Branches.{Advances, is_waiting, output_of}
use Rattle.mono_combine.specs.Rules.{try_join_rule, unless_failed, error_of, value_of}
use Rattle.mono_combine.specs.BranchLists.{EachInTurn, AllMayPoll, AllCanPoll, AllCancel, AllGone, GivesUp}
use Rattle.mono_combine.specs.TryJoins.{failure_of}
use Rattle.mono_combine.specs.TryLists.{Trying, TriesOnce, has_failed, value_in, earlier, first_failure}
use Rattle.mono_combine.proofs.ListLemmas.{here, any_more, or_true, turn_more, may_append}

earlier_assoc : {E : Type 0} (a b c : Option E) → earlier (earlier a b) c ≡ earlier a (earlier b c)
earlier_assoc None b c = refl
earlier_assoc (Some e) b c = refl

module _ {T X E : Type 0} where
  no_errors : (xs : List (MaybeDone T (Result X E))) → list_any has_failed xs ≡ false → filter_map error_of (map output_of xs) ≡ []
  no_errors [] h = refl
  no_errors (Future f ∷ xs) h = no_errors xs h
  no_errors (Done (Ok x) ∷ xs) h = no_errors xs h
  no_errors (Done (Err e) ∷ xs) h = absurd (cc)
  no_errors (Gone ∷ xs) h = no_errors xs h

  values : (xs : List (MaybeDone T (Result X E))) → filter_map value_of (map output_of xs) ≡ filter_map value_in xs
  values [] = refl
  values (Future f ∷ xs) = values xs
  values (Done (Ok x) ∷ xs) = ap (λ rest. x ∷ rest) (values xs)
  values (Done (Err e) ∷ xs) = values xs
  values (Gone ∷ xs) = values xs

  -- the first error is the answer
  pub tries_failed : (xs : List (MaybeDone T (Result X E))) (e : E) → first_failure xs ≡ Some e → Ready (Err e) ≡ try_join_rule (map output_of xs)
  tries_failed xs e first = first_error xs (map output_of xs) e first
    where
      first_error : (xs : List (MaybeDone T (Result X E))) (outputs : List (Option (Result X E))) (e : E) → first_failure xs ≡ Some e → Ready (Err e) ≡ unless_failed (filter_map error_of (map output_of xs)) outputs
      first_error [] outputs e first = absurd (cc)
      first_error (Future f ∷ xs) outputs e first = first_error xs outputs e first
      first_error (Done (Ok x) ∷ xs) outputs e first = first_error xs outputs e first
      first_error (Done (Err y) ∷ xs) outputs e first = cc
      first_error (Gone ∷ xs) outputs e first = first_error xs outputs e first

  -- If one has failed there is a first error.
  pub one_fails : (xs : List (MaybeDone T (Result X E))) → list_any has_failed xs ≡ true → first_failure xs ≡ None → ⊥
  one_fails [] h none = cc
  one_fails (Future f ∷ xs) h none = one_fails xs h none
  one_fails (Done (Ok x) ∷ xs) h none = one_fails xs h none
  one_fails (Done (Err e) ∷ xs) h none = cc
  one_fails (Gone ∷ xs) h none = one_fails xs h none

  -- one more branch was asked for its error
  pub error_more : (xs : List (MaybeDone T (Result X E))) (i : ℕ) (m n : MaybeDone T (Result X E)) (first later : Option E) → i < length xs → m ≡ get_or xs i m → later ≡ failure_of m
      → earlier (earlier first later) (first_failure (drop (i + 1) (set xs i n))) ≡ earlier first (first_failure (drop i xs))
  error_more xs i m n first later less is its = rw (drop-set-lt {A = MaybeDone T (Result X E)} (i + 1) xs i n (omega arith), here xs i m less is, its) (earlier_assoc first (failure_of m) (first_failure (drop (i + 1) xs)))

module _ {C T X E : Type 0} (future : FutureOf T C (Result X E)) where
  -- after a failure the branches stay as they are
  pub rest_stays : (xs : List (MaybeDone T (Result X E))) (c : C) → EachInTurn (TriesOnce future) xs (record { one_failed = true; cx = c }) xs (record { one_failed = true; cx = c })
  rest_stays [] c = refl
  rest_stays (x ∷ xs) c = (record { one_failed = true; cx = c }, record { advanced = (refl, refl); failed = refl }, rest_stays xs c)

  -- If nothing waits, there is nothing to give up.
  pub nothing_left : (xs : List (MaybeDone T (Result X E))) (c : C) → list_any is_waiting xs ≡ false → AllCancel future xs c c
  nothing_left [] c h = ([], refl)
  nothing_left (Future f ∷ xs) c h = absurd (cc)
  nothing_left (Done x ∷ xs) c h = let rest = nothing_left xs c h in (Gone ∷ rest.0, (c, (refl, refl), rest.1))
  nothing_left (Gone ∷ xs) c h = let rest = nothing_left xs c h in (Gone ∷ rest.0, (c, (refl, refl), rest.1))

  missing : (xs : List (MaybeDone T (Result X E))) → AllMayPoll future xs → list_any is_none (map output_of xs) ≡ list_any is_waiting xs
  missing [] h = refl
  missing (Future f ∷ xs) h = refl
  missing (Done x ∷ xs) h = missing xs h.1
  missing (Gone ∷ xs) h = absurd (cc)

  pub tries_waiting : (xs : List (MaybeDone T (Result X E))) → AllMayPoll future xs → list_any has_failed xs ≡ false → list_any is_waiting xs ≡ true → Pending ≡ try_join_rule (map output_of xs)
  tries_waiting xs may well waits = rw (no_errors xs well, missing xs may, waits) refl

  pub tries_all : (xs : List (MaybeDone T (Result X E))) → AllMayPoll future xs → list_any has_failed xs ≡ false → list_any is_waiting xs ≡ false → Ready (Ok (filter_map value_in xs)) ≡ try_join_rule (map output_of xs)
  tries_all xs may well waits = rw (no_errors xs well, missing xs may, waits, values xs) refl

module _ {T X E : Type 0} where
  -- The test's answer for the branch at its place is right for the branch.
  pub tested : (xs : List (MaybeDone T (Result X E))) (i : ℕ) (n shown : MaybeDone T (Result X E)) → i < length xs → shown ≡ get_or (set xs i n) i shown
      → (answer b : Bool) → answer ≡ has_failed shown → answer ≡ b → has_failed n ≡ b
  tested xs i n shown less is answer b says answered = let same = get_or-set_same xs i n shown less in cc

  -- one more branch has not failed
  pub none_more : (xs : List (MaybeDone T (Result X E))) (i : ℕ) (n : MaybeDone T (Result X E)) → i < length xs → list_any has_failed (take i xs) ≡ false → has_failed n ≡ false
      → list_any has_failed (take (i + 1) (set xs i n)) ≡ false
  none_more xs i n less before now = rw (any_more has_failed xs i n less, before, now) refl

  some_before : (xs ys : List (MaybeDone T (Result X E))) (n : MaybeDone T (Result X E)) → has_failed n ≡ true → list_any has_failed (xs ++ (n ∷ ys)) ≡ true
  some_before [] ys n now = rw now refl
  some_before (x ∷ xs) ys n now = rw (some_before xs ys n now) (or_true (has_failed x))

  split_at : (xs : List (MaybeDone T (Result X E))) (i : ℕ) (n : MaybeDone T (Result X E)) → i < length xs → set xs i n ≡ take i xs ++ (n ∷ drop (i + 1) xs)
  split_at xs i n less =
      sym (take-append-drop (i + 1) (set xs i n)) ∙ rw (take_more_set xs i n less, drop-set-lt (i + 1) xs i n (omega arith), append_assoc (take i xs) (n ∷ []) (drop (i + 1) xs)) refl

  -- the branch that had its turn has failed
  pub one_now : (xs : List (MaybeDone T (Result X E))) (i : ℕ) (n : MaybeDone T (Result X E)) → i < length xs → has_failed n ≡ true → true ≡ list_any has_failed (set xs i n)
  one_now xs i n less now = rw (split_at xs i n less) (sym (some_before (take i xs) (drop (i + 1) xs) n now))

module _ {C T X E : Type 0} (future : FutureOf T C (Result X E)) (xs : List (MaybeDone T (Result X E))) (i : ℕ) (m n : MaybeDone T (Result X E)) (less : i < length xs) (is : m ≡ get_or xs i m) where
  -- the turn of a branch that failed was the last
  pub ends_here : (start : List (MaybeDone T (Result X E))) (c0 c d : C)
      → ((rest : List (MaybeDone T (Result X E))) (t : Trying C) → EachInTurn (TriesOnce future) (drop i xs) (record { one_failed = false; cx = c }) rest t → EachInTurn (TriesOnce future) start (record { one_failed = false; cx = c0 }) (take i xs ++ rest) t)
      → Advances future m c n d → has_failed n ≡ true
      → EachInTurn (TriesOnce future) start (record { one_failed = false; cx = c0 }) (set xs i n) (record { one_failed = true; cx = d })
  ends_here start c0 c d so_far advanced now =
      let ended : EachInTurn (TriesOnce future) start (record { one_failed = false; cx = c0 }) (take (i + 1) (set xs i n) ++ drop (i + 1) (set xs i n)) (record { one_failed = true; cx = d }) =
      turn_more (TriesOnce future) xs i m n less is start (record { one_failed = false; cx = c0 }) (record { one_failed = false; cx = c }) (record { one_failed = true; cx = d })
      so_far (record { advanced = advanced; failed = sym now }) (drop (i + 1) (set xs i n)) (record { one_failed = true; cx = d }) (rest_stays future (drop (i + 1) (set xs i n)) d) in
      rw (take-append-drop (i + 1) (set xs i n)) at ended

  -- All may be polled again after one more was polled.
  pub all_may : AllMayPoll future (take (i + 1) (set xs i n)) → AllMayPoll future (drop (i + 1) (set xs i n)) → AllMayPoll future (set xs i n)
  all_may before later = rw (take-append-drop (i + 1) (set xs i n)) at (may_append future (take (i + 1) (set xs i n)) (drop (i + 1) (set xs i n)) before later)

module _ {C T O : Type 0} (future : FutureOf T C O) where
  -- nothing is left of branches that were given up
  pub all_gone : (xs ys : List (MaybeDone T O)) (c d : C) → EachInTurn (GivesUp future) xs c ys d → AllGone ys
  all_gone [] [] c d h = tt
  all_gone [] (y ∷ ys) c d h = absurd h
  all_gone (x ∷ xs) [] c d h = absurd h
  all_gone (x ∷ xs) (y ∷ ys) c d h = (h.1.0, all_gone xs ys h.0 d h.2)

  -- branches that were given up ask nothing of a poll
  pub gone_can_poll : (xs ys : List (MaybeDone T O)) (c d : C) → EachInTurn (GivesUp future) xs c ys d → AllCanPoll future ys
  gone_can_poll [] [] c d h = tt
  gone_can_poll [] (y ∷ ys) c d h = absurd h
  gone_can_poll (x ∷ xs) [] c d h = absurd h
  gone_can_poll (x ∷ xs) (y ∷ ys) c d h = (rw h.1.0 tt, gone_can_poll xs ys h.0 d h.2)
