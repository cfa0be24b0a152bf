-- The readings that a list of instants leaves.
use Rattle.std.proofs.Common.{◌≡◌, ◌<◌, ℕ, ◌+◌, suc, Some, List, ◌∷◌, map, drop, length, get_or, refl, ap, sym, subst, ◌∙◌, add-one, arith}
use Rattle.std.proofs.Math.Seq.{drop-cons}
use Rattle.std.proofs.lemmas.List.{length-map, get_or-map}
use Rattle.mono_driver.specs.Drivers.{Reads}

-- The reading at i is removed if another one follows.
reads_at : (ns : List ℕ) (i : ℕ) → i + 1 < length ns → Reads (Some (drop i ns)) (get_or ns i 0) (Some (drop (i + 1) ns))
reads_at ns i inside =
    let here : drop i ns ≡ get_or ns i 0 ∷ drop (i + 1) ns =
    subst (λ k. drop i ns ≡ get_or ns i 0 ∷ drop k ns) (sym (add-one i)) (drop-cons ns i 0 (omega (arith, inside))) in
    let next = drop-cons ns (i + 1) 0 inside in
    subst (λ l. Reads (Some l) (get_or ns i 0) (Some (drop (i + 1) ns))) (sym (here ∙ ap (λ l. get_or ns i 0 ∷ l) next)) (refl, ap Some next)

-- The same for a list whose items have numbers.
module _ {X : Type 0} (number : X → ℕ) where
  pub reads_one : (xs : List X) (i : ℕ) (x : X) (now : List ℕ) → drop i (map number xs) ≡ now → x ≡ get_or xs i x → i + 1 < length xs →
      Reads (Some now) (number x) (Some (drop (i + 1) (map number xs)))
  reads_one xs i x now is read inside =
      let more : i + 1 < length (map number xs) = subst (λ n. i + 1 < n) (sym (length-map xs number)) inside in
      let at : get_or (map number xs) i 0 ≡ number x = get_or-map number xs i x 0 (omega (arith, inside)) ∙ ap number (sym read) in
      subst (λ l. Reads (Some l) (number x) (Some (drop (i + 1) (map number xs)))) is
      (subst (λ n. Reads (Some (drop i (map number xs))) n (Some (drop (i + 1) (map number xs)))) at (reads_at (map number xs) i more))
