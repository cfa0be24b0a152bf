-- An interleaving weighs what its parts do.
use Rattle.std.proofs.Common.{◌≡◌, ◌≢◌, ◌==◌, ◌+◌, ℕ, true, false, Bool, List, [], ◌∷◌, map, sym, refl, ap, ◌∙◌, arith}
use Rattle.std.specs.Prelude.{if◌then◌else◌}
use Rattle.std.proofs.lemmas.Bool.Decides.{nat_tests}
use mathlib.Core.Logic.{dite}
use native.Mathlib.Decide.{ℕ_discrete}
use Rattle.mono_channel.specs.Delivery.{of, IsNew, HasAll, AreOf}
use Rattle.mono_channel.specs.Weights.{weigh, InterleavingWeighs}
use Rattle.mono_channel.proofs.DeliveryLemmas.{same_is, other_is}
use Rattle.mono_channel.proofs.Interleaving.{no_head}

is_same : (m n : ℕ) → (m == n) ≡ true → m ≡ n
is_same m n is = grind (arith, nat_tests)

module _ {T : Type 0} where
  -- the messages with other numbers
  abbrev without : ℕ → List (ℕ × T) → List (ℕ × T)
  without n [] = []
  without n (m ∷ ms) = if m.0 == n then without n ms else m ∷ without n ms

  none_left : (all : List (ℕ × T)) → ((n : ℕ) → of n all ≡ []) → map (λ m. m.1) all ≡ []
  none_left [] none = refl
  none_left (m ∷ ms) none = no_head m.1 (of m.0 ms) (sym (ap (λ (b : Bool). if b then m.1 ∷ of m.0 ms else of m.0 ms) (same_is m.0)) ∙ none m.0)

  split_step : (h : T → ℕ) (n : ℕ) (m : ℕ × T) (ms : List (ℕ × T)) (b : Bool) → (m.0 == n) ≡ b → weigh h (map (λ m. m.1) ms) ≡ weigh h (of n ms) + weigh h (map (λ m. m.1) (without n ms))
      → weigh h (map (λ m. m.1) (m ∷ ms)) ≡ weigh h (of n (m ∷ ms)) + weigh h (map (λ m. m.1) (without n (m ∷ ms)))
  split_step h n m ms true is rest =
      let mine : of n (m ∷ ms) ≡ m.1 ∷ of n ms = ap (λ (b : Bool). if b then m.1 ∷ of n ms else of n ms) is in
      let theirs : without n (m ∷ ms) ≡ without n ms = ap (λ (b : Bool). if b then without n ms else m ∷ without n ms) is in
      let a : weigh h (of n (m ∷ ms)) ≡ h m.1 + weigh h (of n ms) = ap (λ l. weigh h l) mine in
      let b : weigh h (map (λ m. m.1) (without n (m ∷ ms))) ≡ weigh h (map (λ m. m.1) (without n ms)) = ap (λ l. weigh h (map (λ m. m.1) l)) theirs in omega arith
  split_step h n m ms false is rest =
      let mine : of n (m ∷ ms) ≡ of n ms = ap (λ (b : Bool). if b then m.1 ∷ of n ms else of n ms) is in
      let theirs : without n (m ∷ ms) ≡ m ∷ without n ms = ap (λ (b : Bool). if b then without n ms else m ∷ without n ms) is in
      let a : weigh h (of n (m ∷ ms)) ≡ weigh h (of n ms) = ap (λ l. weigh h l) mine in
      let b : weigh h (map (λ m. m.1) (without n (m ∷ ms))) ≡ h m.1 + weigh h (map (λ m. m.1) (without n ms)) = ap (λ l. weigh h (map (λ m. m.1) l)) theirs in omega arith

  split : (h : T → ℕ) (n : ℕ) (all : List (ℕ × T)) → weigh h (map (λ m. m.1) all) ≡ weigh h (of n all) + weigh h (map (λ m. m.1) (without n all))
  split h n [] = omega arith
  split h n (m ∷ ms) = split_step h n m ms (m.0 == n) refl (split h n ms)

  -- what has another number stays
  stays_step : (k n : ℕ) (m : ℕ × T) (ms : List (ℕ × T)) → k ≢ n → (b : Bool) → (m.0 == n) ≡ b → of k (without n ms) ≡ of k ms → of k (without n (m ∷ ms)) ≡ of k (m ∷ ms)
  stays_step k n m ms apart true is rest =
      let other : (m.0 == k) ≡ false = other_is m.0 k (λ same. apart (sym same ∙ is_same m.0 n is)) in
      ap (λ (b : Bool). of k (if b then without n ms else m ∷ without n ms)) is ∙ rest ∙ sym (ap (λ (b : Bool). if b then m.1 ∷ of k ms else of k ms) other)
  stays_step k n m ms apart false is rest =
      ap (λ (b : Bool). of k (if b then without n ms else m ∷ without n ms)) is ∙ ap (λ l. if m.0 == k then m.1 ∷ l else l) rest

  stays : (k n : ℕ) (all : List (ℕ × T)) → k ≢ n → of k (without n all) ≡ of k all
  stays k n [] apart = refl
  stays k n (m ∷ ms) apart = stays_step k n m ms apart (m.0 == n) refl (stays k n ms apart)

  gone_step : (n : ℕ) (m : ℕ × T) (ms : List (ℕ × T)) (b : Bool) → (m.0 == n) ≡ b → of n (without n ms) ≡ [] → of n (without n (m ∷ ms)) ≡ []
  gone_step n m ms true is rest = ap (λ (b : Bool). of n (if b then without n ms else m ∷ without n ms)) is ∙ rest
  gone_step n m ms false is rest =
      ap (λ (b : Bool). of n (if b then without n ms else m ∷ without n ms)) is ∙ ap (λ (b : Bool). if b then m.1 ∷ of n (without n ms) else of n (without n ms)) is ∙ rest

  gone : (n : ℕ) (all : List (ℕ × T)) → of n (without n all) ≡ []
  gone n [] = refl
  gone n (m ∷ ms) = gone_step n m ms (m.0 == n) refl (gone n ms)

  still_has : (n : ℕ) (all : List (ℕ × T)) (es : List (ℕ × List T)) → IsNew n es → HasAll all es → HasAll (without n all) es
  still_has n all [] new has = tt
  still_has n all (e ∷ es) new has = (stays e.0 n all new.0 ∙ has.0, has.1, still_has n all es new.1 has.2)

  weighed : (h : T → ℕ) (es : List (ℕ × List T)) (all : List (ℕ × T)) → HasAll all es → AreOf all es → weigh h (map (λ m. m.1) all) ≡ weigh (weigh h) (map (λ e. e.1) es)
  weighed h [] all has are = ap (λ l. weigh h l) (none_left all (λ n. are n tt))
  weighed h (e ∷ es) all has are =
      let more = weighed h es (without e.0 all) (still_has e.0 all es has.1 has.2)
      (λ n new. dite (ℕ_discrete n e.0) (λ same. ap (λ k. of k (without e.0 all)) same ∙ gone e.0 all) (λ apart. stays n e.0 all apart ∙ are n ((λ same. apart (sym same)), new))) in
      let mine : weigh h (of e.0 all) ≡ weigh h e.1 = ap (λ l. weigh h l) has.0 in
      let parted = split h e.0 all in omega arith

  pub weighs : InterleavingWeighs T
  weighs h parts whole a = ap (λ l. weigh h l) (sym a.2) ∙ weighed h a.1 a.0 a.4 a.5 ∙ ap (λ l. weigh (weigh h) l) a.3
