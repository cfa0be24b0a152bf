-- What goes into guards and comes back.
use Rattle.std.proofs.Common.{◌≡◌, ◌+◌, ◌≤◌, List, [], ◌∷◌, ◌++◌, length, Option, Some, None, sym, ap, ◌∙◌, append_assoc, append-nil, arith}
use Rattle.std.proofs.lemmas.List.{length-append}
use Rattle.mono_locks.specs.MutexRuns.{kept}

module _ {T : Type 0} where
  pub stays : (m n : Option T) → n ≡ m → [] ++ kept n ≡ kept m ++ []
  stays m n same = ap kept same ∙ sym (append-nil (kept m))

  pub comes_out : (x : T) (m n : Option T) → m ≡ Some x → n ≡ None → (x ∷ []) ++ kept n ≡ kept m ++ []
  comes_out x m n p q = ap (λ k. (x ∷ []) ++ kept k) q ∙ sym (ap kept p) ∙ sym (append-nil (kept m))

  pub goes_in : (x : T) (m n : Option T) → m ≡ None → n ≡ Some x → [] ++ kept n ≡ kept m ++ x ∷ []
  goes_in x m n p q = ap kept q ∙ sym (ap (λ k. kept k ++ x ∷ []) p)

  pub joined : (r rs b m a s ss : List T) → r ++ m ≡ a ++ s → rs ++ b ≡ m ++ ss → (r ++ rs) ++ b ≡ a ++ (s ++ ss)
  joined r rs b m a s ss one rest =
      append_assoc r rs b ∙ ap (λ xs. r ++ xs) rest ∙ sym (append_assoc r m ss) ∙ ap (λ xs. xs ++ ss) one ∙ append_assoc a s ss

  at_most : (o : Option T) → length (kept o) ≤ 1
  at_most None = omega arith
  at_most (Some x) = omega arith

  lengths : (xs ys us vs : List T) → xs ++ ys ≡ us ++ vs → length xs + length ys ≡ length us + length vs
  lengths xs ys us vs is = sym (length-append xs ys) ∙ ap length is ∙ length-append us vs

  pub one_out : (xs ys : List T) (n m : Option T) → xs ++ kept n ≡ kept m ++ ys → length xs ≤ length ys + 1
  one_out xs ys n m is =
      let both : length xs + length (kept n) ≡ length (kept m) + length ys = lengths xs (kept n) (kept m) ys is in
      let before : length (kept m) ≤ 1 = at_most m in
      omega (arith, both, before)

  pub none_out : (xs ys : List T) (n m : Option T) (x : T) → n ≡ Some x → xs ++ kept n ≡ kept m ++ ys → length xs ≤ length ys
  none_out xs ys n m x some is =
      let both : length xs + length (kept n) ≡ length (kept m) + length ys = lengths xs (kept n) (kept m) ys is in
      let before : length (kept m) ≤ 1 = at_most m in
      let after : length (kept n) ≡ 1 = ap (λ o. length (kept o)) some in
      omega (arith, both, before, after)
