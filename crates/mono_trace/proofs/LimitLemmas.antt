-- Whether a table is full, by its places.
use Rattle.std.proofs.Common.{◌≡◌, ◌<◌, ◌≤◌, ℕ, ◌+◌, List, [], ◌∷◌, length, Some, None, Option, refl, ap, sym, ◌∙◌}
use Rattle.std.specs.Prelude.{◌-◌, ◌^◌, ◌==◌, ◌||◌, map, nat_le}
use Rattle.std.specs.Option.{option_map}
use Rattle.std.proofs.lemmas.Bool.{le-leb, lt-leb}
use Rattle.std.proofs.lemmas.List.{length-map}
use Rattle.mono_model.specs.Table.{count_of, is_full}
use Rattle.mono_model.proofs.CountLemmas.{counted, counted-count_of}

module _ {V W : Type 0} (f : V → W) where
  counted_as : (places : List (Option V)) → counted (map (option_map f) places) ≡ counted places
  counted_as [] = refl
  counted_as (None ∷ places) = counted_as places
  counted_as (Some x ∷ places) = ap (λ n. 1 + n) (counted_as places)

  same_count : (places : List (Option V)) → count_of (map (option_map f) places) ≡ count_of places
  same_count places = sym (counted-count_of (map (option_map f) places)) ∙ counted_as places ∙ counted-count_of places

  module _ (places : List (Option V)) (live limit : ℕ) (counts : live ≡ count_of places) where
    full_by : is_full (map (option_map f) places) limit ≡ (nat_le limit live || (length places == 2 ^ 64 - 1))
    full_by = ap (λ n. nat_le limit n || (length (map (option_map f) places) == 2 ^ 64 - 1)) (same_count places ∙ sym counts)
        ∙ ap (λ n. nat_le limit live || (n == 2 ^ 64 - 1)) (length-map places (option_map f))

    pub full_at_limit : limit ≤ live → nat_le limit live ≡ is_full (map (option_map f) places) limit
    full_at_limit over = le-leb limit live over ∙ sym (full_by ∙ ap (λ b. b || (length places == 2 ^ 64 - 1)) (le-leb limit live over))

    pub full_at_last : live < limit → (length places == 2 ^ 64 - 1) ≡ is_full (map (option_map f) places) limit
    full_at_last below = sym (full_by ∙ ap (λ b. b || (length places == 2 ^ 64 - 1)) (lt-leb limit live below))
