-- A beginning of an interleaving interleaves a beginning of each part.
use Rattle.std.proofs.Common.{◌≡◌, ℕ, List, [], ◌∷◌, ◌++◌, map, sym, refl, ap, ◌∙◌, subst}
use Rattle.mono_channel.specs.Delivery.{of, IsNew, HasAll}
use Rattle.mono_channel.specs.Beginnings.{AreBeginnings, BeginningsInterleave}
use Rattle.mono_channel.proofs.DeliveryLemmas.{of_append}
use Rattle.mono_channel.proofs.Interleaving.{no_head, head_is, tail_is}

module _ {T : Type 0} where
  -- the numbered messages, cut where the first of the lists ends
  cut : (all : List (ℕ × T)) (xs ys : List T) → map (λ m. m.1) all ≡ xs ++ ys → (a : List (ℕ × T)) × (b : List (ℕ × T)) × (all ≡ a ++ b) × (map (λ m. m.1) a ≡ xs)
  cut all [] ys e = ([], all, refl, refl)
  cut [] (x ∷ xs) ys e = no_head x (xs ++ ys) (sym e)
  cut (m ∷ ms) (x ∷ xs) ys e =
      let more = cut ms xs ys (tail_is m.1 x (map (λ m. m.1) ms) (xs ++ ys) e) in
      (m ∷ more.0, more.1, ap (λ l. m ∷ l) more.2, ap (λ l. m.1 ∷ l) more.3 ∙ ap (λ y. y ∷ xs) (head_is m.1 x (map (λ m. m.1) ms) (xs ++ ys) e))

  -- what came of each
  abbrev came : List (ℕ × T) → List (ℕ × List T) → List (ℕ × List T)
  came a [] = []
  came a (e ∷ es) = (e.0, of e.0 a) ∷ came a es

  new_came : (n : ℕ) (a : List (ℕ × T)) (es : List (ℕ × List T)) → IsNew n es → IsNew n (came a es)
  new_came n a [] new = tt
  new_came n a (e ∷ es) new = (new.0, new_came n a es new.1)

  new_sent : (n : ℕ) (a : List (ℕ × T)) (es : List (ℕ × List T)) → IsNew n (came a es) → IsNew n es
  new_sent n a [] new = tt
  new_sent n a (e ∷ es) new = (new.0, new_sent n a es new.1)

  has_came : (a b : List (ℕ × T)) (es : List (ℕ × List T)) → HasAll (a ++ b) es → HasAll a (came a es)
  has_came a b [] has = tt
  has_came a b (e ∷ es) has = (refl, new_came e.0 a es has.1, has_came a b es has.2)

  begin_each : (a b : List (ℕ × T)) (es : List (ℕ × List T)) → HasAll (a ++ b) es → AreBeginnings (map (λ e. e.1) (came a es)) (map (λ e. e.1) es)
  begin_each a b [] has = tt
  begin_each a b (e ∷ es) has = ((of e.0 b, sym (of_append e.0 a b) ∙ has.0), begin_each a b es has.2)

  none_before : (xs ys : List T) → xs ++ ys ≡ [] → xs ≡ []
  none_before [] ys e = refl
  none_before (x ∷ xs) ys e = no_head x (xs ++ ys) e

  pub beginnings : BeginningsInterleave T
  beginnings sent received queued i =
      let c = cut i.0 received queued i.2 in
      let has : HasAll (c.0 ++ c.1) i.1 = subst (λ l. HasAll l i.1) c.2 i.4 in (
        map (λ e. e.1) (came c.0 i.1),
        (
          c.0,
          came c.0 i.1,
          c.3,
          refl,
          has_came c.0 c.1 i.1 has,
          λ n new. none_before (of n c.0) (of n c.1) (sym (of_append n c.0 c.1) ∙ ap (λ l. of n l) (sym c.2) ∙ i.5 n (new_sent n c.0 i.1 new)),
        ),
        subst (λ l. AreBeginnings (map (λ e. e.1) (came c.0 i.1)) l) i.3 (begin_each c.0 c.1 i.1 has),
      )
