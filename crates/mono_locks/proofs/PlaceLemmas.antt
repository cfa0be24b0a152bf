-- The task at the place of a future, and the mark at that place.
use Rattle.std.proofs.Common.{◌≡◌, ◌==◌, ◌+◌, ℕ, Bool, true, false, not, cond, List, [], ◌∷◌, length, Option, Some, None, refl, sym, ap, ◌∙◌, suc, nat_lt, slice_set, slice_index_or, inl, inr, arith}
use Rattle.std.proofs.lemmas.Bool.{cases_lt, lt-ltb, le-ltb}
use Rattle.std.specs.List.{position_or_len}
use Rattle.mono_locks.specs.declared.queues.Entry.{Entry}
use Rattle.mono_locks.specs.Queues.{place_of, marked, holder_of}

abbrev place : ℕ → List Entry → ℕ
place t ws = position_or_len (λ w. w.ticket == t) ws

pub lt_later : (n m : ℕ) → nat_lt (suc n) (suc m) ≡ nat_lt n m
lt_later n m = elim (cases_lt n m) [
  | inl less ↦ lt-ltb (suc n) (suc m) (omega (arith, less)) ∙ sym (lt-ltb n m less)
  | inr past ↦ le-ltb (suc n) (suc m) (omega (arith, past)) ∙ sym (le-ltb n m past)
]

pub later : (n : ℕ) → suc n ≡ 1 + n
later n = omega arith

some-none : (i : ℕ) → Some i ≡ None → ⊥
some-none i e = cc

same_place : (i j : ℕ) → Some i ≡ Some j → i ≡ j
same_place i j e = cc

module _ (t : ℕ) (x : Entry) where
  set : List Entry → List Entry
  set [] = []
  set (w ∷ ws) = cond (w.ticket == t) (x ∷ ws) (w ∷ set ws)

  set_past : (b : Bool) (w : Entry) (ws us : List Entry) → w ∷ cond b us ws ≡ cond b (w ∷ us) (w ∷ ws)
  set_past true w ws us = refl
  set_past false w ws us = refl

  step : (b : Bool) (n : ℕ) (w : Entry) (ws rest : List Entry) → rest ≡ cond (nat_lt n (length ws)) (slice_set ws n x) ws
      → cond b (x ∷ ws) (w ∷ rest) ≡ cond (nat_lt (cond (not b) (1 + n) 0) (length (w ∷ ws))) (slice_set (w ∷ ws) (cond (not b) (1 + n) 0) x) (w ∷ ws)
  step true n w ws rest is = ap (λ b. cond b (x ∷ ws) (w ∷ ws)) (sym (lt-ltb 0 (length (w ∷ ws)) (omega arith)))
  step false n w ws rest is =
      ap (λ us. w ∷ us) is ∙ set_past (nat_lt n (length ws)) w ws (slice_set ws n x) ∙ ap (λ b. cond b (w ∷ slice_set ws n x) (w ∷ ws)) (sym (lt_later n (length ws)))
      ∙ ap (λ m. cond (nat_lt m (length (w ∷ ws))) (slice_set (w ∷ ws) m x) (w ∷ ws)) (later n)

module _ (t u : ℕ) where
  abbrev left : Entry
  left = record { ticket = t; task = u; amount = 0 }

  by_place : (ws : List Entry) → marked ws t u ≡ cond (nat_lt (place t ws) (length ws)) (slice_set ws (place t ws) left) ws
  by_place [] = refl
  by_place (w ∷ ws) = step t left (w.ticket == t) (place t ws) w ws (marked ws t u) (by_place ws)

  found : (b : Bool) (n : ℕ) (ws : List Entry) (i : ℕ) → cond b (Some n) None ≡ Some i → slice_set ws i left ≡ cond b (slice_set ws n left) ws
  found true n ws i is = ap (λ k. slice_set ws k left) (sym (same_place n i is))
  found false n ws i is = absurd (some-none i (sym is))

  absent : (b : Bool) (n : ℕ) (ws : List Entry) → cond b (Some n) None ≡ None → ws ≡ cond b (slice_set ws n left) ws
  absent true n ws is = absurd (some-none n is)
  absent false n ws is = refl

  pub marked_at : (ws : List Entry) (i : ℕ) → place_of ws t ≡ Some i → slice_set ws i left ≡ marked ws t u
  marked_at ws i is = found (nat_lt (place t ws) (length ws)) (place t ws) ws i is ∙ sym (by_place ws)

  pub marked_nowhere : (ws : List Entry) → place_of ws t ≡ None → ws ≡ marked ws t u
  marked_nowhere ws is = absent (nat_lt (place t ws) (length ws)) (place t ws) ws is ∙ sym (by_place ws)

module _ (t : ℕ) (d : Entry) where
  abbrev task_at : List Entry → ℕ → Option ℕ
  task_at ws i = Some (slice_index_or ws i d).task

  at_step : (b : Bool) (n : ℕ) (w : Entry) (ws : List Entry) (rest : Option ℕ) → rest ≡ cond (nat_lt n (length ws)) (task_at ws n) None
      → cond b (Some w.task) rest ≡ cond (nat_lt (cond (not b) (1 + n) 0) (length (w ∷ ws))) (task_at (w ∷ ws) (cond (not b) (1 + n) 0)) None
  at_step true n w ws rest is = ap (λ b. cond b (Some w.task) None) (sym (lt-ltb 0 (length (w ∷ ws)) (omega arith)))
  at_step false n w ws rest is =
      is ∙ ap (λ b. cond b (task_at ws n) None) (sym (lt_later n (length ws))) ∙ ap (λ m. cond (nat_lt m (length (w ∷ ws))) (task_at (w ∷ ws) m) None) (later n)

  holder_by_place : (ws : List Entry) → holder_of ws t ≡ cond (nat_lt (place t ws) (length ws)) (task_at ws (place t ws)) None
  holder_by_place [] = refl
  holder_by_place (w ∷ ws) = at_step (w.ticket == t) (place t ws) w ws (holder_of ws t) (holder_by_place ws)

  at_found : (b : Bool) (n : ℕ) (ws : List Entry) (i : ℕ) → cond b (Some n) None ≡ Some i → cond b (task_at ws n) None ≡ task_at ws i
  at_found true n ws i is = ap (task_at ws) (same_place n i is)
  at_found false n ws i is = absurd (some-none i (sym is))

  at_none : (b : Bool) (n : ℕ) (ws : List Entry) → cond b (Some n) None ≡ None → cond b (task_at ws n) None ≡ None
  at_none true n ws is = absurd (some-none n is)
  at_none false n ws is = refl

  pub holder_at : (ws : List Entry) (i : ℕ) → place_of ws t ≡ Some i → d ≡ slice_index_or ws i d → Some d.task ≡ holder_of ws t
  holder_at ws i is at = ap (λ w. Some w.task) at ∙ sym (at_found (nat_lt (place t ws) (length ws)) (place t ws) ws i is) ∙ sym (holder_by_place ws)

pub holder_nowhere : (t : ℕ) (ws : List Entry) → place_of ws t ≡ None → None ≡ holder_of ws t
holder_nowhere t ws is =
    let d : Entry = record { ticket = 0; task = 0; amount = 0 } in
    sym (holder_by_place t d ws ∙ at_none t d (nat_lt (place t ws) (length ws)) (place t ws) ws is)
