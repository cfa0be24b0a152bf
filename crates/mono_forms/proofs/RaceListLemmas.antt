-- The turns of a race of a list.
use Rattle.std.proofs.Common.{◌≡◌, ℕ, zero, suc, ◌+◌, ◌<◌, Bool, true, false, ◌||◌, List, [], ◌∷◌, ◌++◌, length, get_or, take, drop, set, Some, None, refl, subst, inl, inr, arith}
use Rattle.std.specs.List.{list_any, All}
use Rattle.std.proofs.lemmas.List.{take-append-drop}
use Rattle.mono_task.specs.Members.{FutureOf}
use Rattle.mono_combine.specs.BranchLists.{EachInTurn}
use Rattle.mono_combine.proofs.ListLemmas.{turn_more}
use Rattle.mono_forms.specs.RaceLists.{Racing, RacesOnce, OneGives}

module _ {T X : Type 0} (gives : T → X → Type 0) where
  -- The list gives each output of the future at a place.
  pub gives_at : (xs : List T) (i : ℕ) (f : T) → i < length xs → f ≡ get_or xs i f → (x : X) → gives f x → OneGives gives xs x
  gives_at [] i f less is x h = absurd (omega arith)
  gives_at (y ∷ ys) zero f less is x h = inl (subst (λ t. gives t x) is h)
  gives_at (y ∷ ys) (suc i) f less is x h = inr (gives_at ys i f (omega arith) is x h)

  -- A future that gives no more than before takes its place.
  pub gives_set : (xs : List T) (i : ℕ) (f g : T) → i < length xs → f ≡ get_or xs i f → (x : X) → (gives g x → gives f x) → OneGives gives (set xs i g) x → OneGives gives xs x
  gives_set [] i f g less is x same h = absurd (omega arith)
  gives_set (y ∷ ys) zero f g less is x same h = elim h [
    | inl k ↦ inl (subst (λ t. gives t x) is (same k))
    | inr k ↦ inr k
  ]
  gives_set (y ∷ ys) (suc i) f g less is x same h = elim h [
    | inl k ↦ inl k
    | inr k ↦ inr (gives_set ys i f g (omega arith) is x same k)
  ]

module _ {T C X : Type 0} (future : FutureOf T C X) where
  -- after an answer the futures stay as they are
  rest_stays : (xs : List T) (x : X) (c : C) → EachInTurn (RacesOnce future) xs (record { won = Some x; cx = c }) xs (record { won = Some x; cx = c })
  rest_stays [] x c = refl
  rest_stays (y ∷ ys) x c = (record { won = Some x; cx = c }, (refl, refl, refl), rest_stays ys x c)

  -- the turn of a future that answered was the last
  pub ends_here : (xs : List T) (i : ℕ) (f g : T) → i < length xs → f ≡ get_or xs i f → (start : List T) (c0 c d : C) (x : X)
      → ((rest : List T) (t : Racing C X) → EachInTurn (RacesOnce future) (drop i xs) (record { won = None; cx = c }) rest t → EachInTurn (RacesOnce future) start (record { won = None; cx = c0 }) (take i xs ++ rest) t)
      → RacesOnce future f (record { won = None; cx = c }) g (record { won = Some x; cx = d })
      → EachInTurn (RacesOnce future) start (record { won = None; cx = c0 }) (set xs i g) (record { won = Some x; cx = d })
  ends_here xs i f g less is start c0 c d x so_far raced =
      let ended : EachInTurn (RacesOnce future) start (record { won = None; cx = c0 }) (take (i + 1) (set xs i g) ++ drop (i + 1) (set xs i g)) (record { won = Some x; cx = d }) =
      turn_more (RacesOnce future) xs i f g less is start (record { won = None; cx = c0 }) (record { won = None; cx = c }) (record { won = Some x; cx = d })
      so_far raced (drop (i + 1) (set xs i g)) (record { won = Some x; cx = d }) (rest_stays (drop (i + 1) (set xs i g)) x d) in
      rw (take-append-drop (i + 1) (set xs i g)) at ended

  neither : (a b : Bool) → (a || b) ≡ false → (a ≡ false) × (b ≡ false)
  neither true b h = absurd (cc)
  neither false b h = (refl, h)

  pub fresh_from : (a b : Bool) → (a || b) ≡ false → a ≡ false
  fresh_from a b h = (neither a b h).0

  all_unspent : (xs : List T) → list_any future.is_spent xs ≡ false → All (λ f. future.is_spent f ≡ false) xs
  all_unspent [] h k d less = absurd (omega arith)
  all_unspent (y ∷ ys) h zero d less = (neither _ _ h).0
  all_unspent (y ∷ ys) h (suc k) d less = all_unspent ys (neither (future.is_spent y) _ h).1 k d (omega arith)

  pub may_from : (a : Bool) (xs : List T) → (a || list_any future.is_spent xs) ≡ false → All future.can_poll xs → All (λ f. (future.is_spent f ≡ false) × future.can_poll f) xs
  may_from a xs h can k d less = (all_unspent xs (neither a _ h).1 k d less, can k d less)

  pub unspent_from : (xs : List T) → All (λ f. (future.is_spent f ≡ false) × future.can_poll f) xs → list_any future.is_spent xs ≡ false
  unspent_from [] h = refl
  unspent_from (y ∷ ys) h = rw (h 0 y (omega arith)).0 (unspent_from ys (λ k d less. h (suc k) d (omega arith)))
