-- One more branch of a list had its turn.
use Rattle.std.proofs.Common.{◌≡◌, ℕ, suc, ◌≤◌, append-nil, ◌+◌, ◌<◌, Bool, true, false, ◌||◌, List, [], ◌∷◌, ◌++◌, length, get_or, take, drop, set, map, refl, sym, ◌∙◌, ap, arith, drop-cons, add-one, is_none}
use Rattle.std.specs.List.{list_any, filter_map, cons_option}
use Rattle.std.proofs.lemmas.List.{drop-set-lt, take_more_set, append_assoc, take_all, drop_all}
use Rattle.mono_task.specs.Members.{FutureOf}
use Rattle.mono_model.specs.declared.poll.Poll.{Poll}
use Rattle.mono_model.specs.declared.poll.Poll.TheVariants.{Ready, Pending}
use Rattle.mono_model.specs.Poll.{is_pending, OnPending}
use Rattle.mono_combine.specs.declared.maybe.MaybeDone.{MaybeDone}
use Rattle.mono_combine.specs.declared.maybe.MaybeDone.TheVariants.{Future, Done, Gone}
use Rattle.mono_combine.specs.Branches.{Advances, AfterBranch, is_waiting, maybe_spent, output_of}
use Rattle.mono_combine.specs.Rules.{join_rule}
use Rattle.mono_combine.specs.BranchLists.{EachInTurn, MayPoll, AllMayPoll, AllCanPoll}

pub here : {M : Type 0} (xs : List M) (i : ℕ) (m : M) → i < length xs → m ≡ get_or xs i m → drop i xs ≡ m ∷ drop (i + 1) xs
here xs i m less is = rw add-one (drop-cons xs i m less ∙ ap (λ x. x ∷ drop (suc i) xs) (sym is))

pub or_assoc : (a b c : Bool) → ((a || b) || c) ≡ (a || (b || c))
or_assoc true b c = refl
or_assoc false b c = refl

pub or_false : (b : Bool) → (b || false) ≡ b
or_false true = refl
or_false false = refl

pub or_true : (b : Bool) → (b || true) ≡ true
or_true true = refl
or_true false = refl

any-append : {X : Type 0} (p : X → Bool) (xs ys : List X) → list_any p (xs ++ ys) ≡ (list_any p xs || list_any p ys)
any-append p [] ys = refl
any-append p (x ∷ xs) ys = ap (λ b. p x || b) (any-append p xs ys) ∙ sym (or_assoc (p x) (list_any p xs) (list_any p ys))

pub any_more : {X : Type 0} (p : X → Bool) (xs : List X) (i : ℕ) (n : X) → i < length xs
    → list_any p (take (i + 1) (set xs i n)) ≡ (list_any p (take i xs) || p n)
any_more p xs i n less = rw (take_more_set xs i n less, any-append p (take i xs) (n ∷ []), or_false (p n)) refl

pub any_after : {X : Type 0} (p : X → Bool) (xs : List X) (i : ℕ) (n : X) → i < length xs → (w : Bool) → w ≡ list_any p (take i xs)
    → (b : Bool) → p n ≡ b → (w || b) ≡ list_any p (take (i + 1) (set xs i n))
any_after p xs i n less w before b now = rw (before, sym now) (sym (any_more p xs i n less))

module _ {M C : Type 0} (step : M → C → M → C → Type 0) (xs : List M) (i : ℕ) (m n : M) (less : i < length xs) (is : m ≡ get_or xs i m) where
  pub turn_more : (start : List M) (c0 c d : C)
      → ((rest : List M) (e : C) → EachInTurn step (drop i xs) c rest e → EachInTurn step start c0 (take i xs ++ rest) e)
      → step m c n d
      → (rest : List M) (e : C) → EachInTurn step (drop (i + 1) (set xs i n)) d rest e → EachInTurn step start c0 (take (i + 1) (set xs i n) ++ rest) e
  turn_more start c0 c d so_far stepped rest e h =
      let after = rw (drop-set-lt (i + 1) xs i n (omega arith)) at h in
      rw (take_more_set xs i n less, append_assoc (take i xs) (n ∷ []) rest) (so_far (n ∷ rest) e (rw (here xs i m less is) (d, stepped, after)))

module _ {M C : Type 0} (step : M → C → M → C → Type 0) where
  pub all_turns : (start ys : List M) (c0 c : C) (k : ℕ) → length ys ≤ k
      → ((rest : List M) (e : C) → EachInTurn step (drop k ys) c rest e → EachInTurn step start c0 (take k ys ++ rest) e)
      → EachInTurn step start c0 ys c
  all_turns start ys c0 c k past so_far =
      let done = so_far [] c (rw (drop_all k ys past) refl) in
      rw (take_all k ys past, append-nil) at done

pub neither : (a b : Bool) → (a || b) ≡ false → (a ≡ false) × (b ≡ false)
neither true b h = absurd (cc)
neither false b h = (refl, h)

pub if_pending : {X : Type 0} (r : Poll X) (P : Type 0) → OnPending r P → is_pending r ≡ true → P
if_pending (Ready x) P h is = absurd (cc)
if_pending Pending P h is = h

module _ {C T O : Type 0} (future : FutureOf T C O) where
  pub may_append : (xs ys : List (MaybeDone T O)) → AllMayPoll future xs → AllMayPoll future ys → AllMayPoll future (xs ++ ys)
  may_append [] ys h k = k
  may_append (x ∷ xs) ys h k = (h.0, may_append xs ys h.1 k)

  pub may_more : (xs : List (MaybeDone T O)) (i : ℕ) (n : MaybeDone T O) → i < length xs → AllMayPoll future (take i xs) → MayPoll future n → AllMayPoll future (take (i + 1) (set xs i n))
  may_more xs i n less before now = rw (take_more_set xs i n less) (may_append (take i xs) (n ∷ []) before (now, tt))

  pub may_here : (xs : List (MaybeDone T O)) (i : ℕ) (m : MaybeDone T O) → i < length xs → m ≡ get_or xs i m → AllMayPoll future (drop i xs) → MayPoll future m
  may_here xs i m less is h = let all = rw (here xs i m less is) at h in all.0

  pub may_later : (xs : List (MaybeDone T O)) (i : ℕ) (m n : MaybeDone T O) → i < length xs → m ≡ get_or xs i m → AllMayPoll future (drop i xs) → AllMayPoll future (drop (i + 1) (set xs i n))
  may_later xs i m n less is h =
      let all = rw (here xs i m less is) at h in
      rw (drop-set-lt (i + 1) xs i n (omega arith)) all.1

  not_gone : (answer : Poll O) (left : T) (middle d : C) → AfterBranch future answer left middle Gone d → ⊥
  not_gone (Ready x) left middle d h = let e = h.1 in cc
  not_gone Pending left middle d h = let e = h.0 in cc

  -- a branch that was polled may be polled again
  pub polled_again : (m n : MaybeDone T O) (c d : C) (pending : Bool) → Advances future m c n d → pending ≡ is_waiting n
      → (pending ≡ true → maybe_spent future n ≡ false) → maybe_spent future n ≡ false
  polled_again m (Future g) c d pending advances is again = again is
  polled_again m (Done x) c d pending advances is again = refl
  polled_again (Future f) Gone c d pending advances is again = absurd (not_gone advances.answer advances.left advances.middle d advances.rest)
  polled_again (Done x) Gone c d pending advances is again = absurd (cc)
  polled_again Gone Gone c d pending advances is again = absurd advances

  pub may_from : (xs : List (MaybeDone T O)) → list_any (maybe_spent future) xs ≡ false → AllCanPoll future xs → AllMayPoll future xs
  may_from [] h k = tt
  may_from (x ∷ xs) h k = (((neither (maybe_spent future x) _ h).0, k.0), may_from xs (neither (maybe_spent future x) _ h).1 k.1)

  pub can_from : (xs : List (MaybeDone T O)) → AllMayPoll future xs → AllCanPoll future xs
  can_from [] h = tt
  can_from (x ∷ xs) h = (h.0.1, can_from xs h.1)

  pub unspent_from : (xs : List (MaybeDone T O)) → AllMayPoll future xs → list_any (maybe_spent future) xs ≡ false
  unspent_from [] h = refl
  unspent_from (x ∷ xs) h = rw h.0.0 (unspent_from xs h.1)

  missing : (xs : List (MaybeDone T O)) → AllMayPoll future xs → list_any is_none (map output_of xs) ≡ list_any is_waiting xs
  missing [] h = refl
  missing (Future f ∷ xs) h = refl
  missing (Done x ∷ xs) h = missing xs h.1
  missing (Gone ∷ xs) h = absurd (cc)

  present : (xs : List (MaybeDone T O)) → filter_map (λ output. output) (map output_of xs) ≡ filter_map output_of xs
  present [] = refl
  present (x ∷ xs) = ap (λ rest. cons_option (output_of x) rest) (present xs)

  pub joins_waiting : (xs : List (MaybeDone T O)) → AllMayPoll future xs → list_any is_waiting xs ≡ true → Pending ≡ join_rule (map output_of xs)
  joins_waiting xs h waits = rw (missing xs h, waits) refl

  pub joins_all : (xs : List (MaybeDone T O)) → AllMayPoll future xs → list_any is_waiting xs ≡ false → Ready (filter_map output_of xs) ≡ join_rule (map output_of xs)
  joins_all xs h waits = rw (missing xs h, waits, present xs) refl
