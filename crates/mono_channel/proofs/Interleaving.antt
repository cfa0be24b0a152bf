-- What an interleaving says.
use Rattle.std.proofs.Common.{◌≡◌, ◌≢◌, ◌==◌, ℕ, true, false, Bool, List, [], ◌∷◌, ◌++◌, map, length, sym, refl, ap, ◌∙◌, arith}
use Rattle.std.specs.Prelude.{if◌then◌else◌}
use Rattle.std.specs.List.{flat_map}
use Rattle.std.proofs.lemmas.List.{map-append}
use Rattle.mono_channel.specs.Delivery.{of, IsNew, HasAll, Arrived, Interleaves, all_shares}
use Rattle.mono_channel.proofs.DeliveryLemmas.{of_append, same_is, never}

abbrev head_or : {A : Type 0} → A → List A → A
head_or x [] = x
head_or x (y ∷ ys) = y

abbrev tail_of : {A : Type 0} → List A → List A
tail_of [] = []
tail_of (x ∷ xs) = xs

pub no_head : {A : Type 0} {B : Type 0} (x : A) (xs : List A) → x ∷ xs ≡ [] → B
no_head x xs e = let n : length (x ∷ xs) ≡ 0 = ap length e in absurd (omega arith)

pub head_is : {A : Type 0} (x y : A) (xs ys : List A) → x ∷ xs ≡ y ∷ ys → x ≡ y
head_is x y xs ys e = ap (λ l. head_or x l) e

pub tail_is : {A : Type 0} (x y : A) (xs ys : List A) → x ∷ xs ≡ y ∷ ys → xs ≡ ys
tail_is x y xs ys e = ap (λ l. tail_of l) e

module _ {T : Type 0} where
  -- with all shares, what was received interleaves what the settled senders sent
  pub interleaved : (shares : ℕ) (received : List T) (settled : List (List T)) → Arrived shares received settled → shares ≡ all_shares → Interleaves settled received
  interleaved shares received settled a all = (a.0, a.1, a.2, a.3, a.4, a.5 all)

  none_rest : (k : ℕ) (m : ℕ × T) (ms : List (ℕ × T)) (b : Bool) → (m.0 == k) ≡ b → of k (m ∷ ms) ≡ [] → of k ms ≡ []
  none_rest k m ms true is e = no_head m.1 (of k ms) (sym (ap (λ (b : Bool). if b then m.1 ∷ of k ms else of k ms) is) ∙ e)
  none_rest k m ms false is e = sym (ap (λ (b : Bool). if b then m.1 ∷ of k ms else of k ms) is) ∙ e

  all_step : (n : ℕ) (m : ℕ × T) (ms : List (ℕ × T)) (b : Bool) → (m.0 == n) ≡ b → ((k : ℕ) → k ≢ n → of k (m ∷ ms) ≡ []) → of n ms ≡ map (λ m. m.1) ms
      → of n (m ∷ ms) ≡ map (λ m. m.1) (m ∷ ms)
  all_step n m ms true is none rest = ap (λ (b : Bool). if b then m.1 ∷ of n ms else of n ms) is ∙ ap (λ l. m.1 ∷ l) rest
  all_step n m ms false is none rest =
      no_head m.1 (of m.0 ms) (sym (ap (λ (b : Bool). if b then m.1 ∷ of m.0 ms else of m.0 ms) (same_is m.0)) ∙ none m.0 (λ same. never (sym is ∙ ap (λ k. m.0 == k) (sym same) ∙ same_is m.0)))

  -- messages that all have one number are those of that number
  all_of : (n : ℕ) (all : List (ℕ × T)) → ((k : ℕ) → k ≢ n → of k all ≡ []) → of n all ≡ map (λ m. m.1) all
  all_of n [] none = refl
  all_of n (m ∷ ms) none = all_step n m ms (m.0 == n) refl none (all_of n ms (λ k apart. none_rest k m ms (m.0 == k) refl (none k apart)))

  -- an interleaving of one list is that list
  pub alone : (xs ys : List T) → Interleaves (xs ∷ []) ys → ys ≡ xs
  alone xs ys (all, [], e, p, has, are) = no_head xs [] (sym p)
  alone xs ys (all, m ∷ [], e, p, has, are) = sym e ∙ (sym (all_of m.0 all (λ k apart. are k ((λ same. apart (sym same)), tt))) ∙ (has.0 ∙ head_is m.1 xs [] [] p))
  alone xs ys (all, m ∷ (n ∷ ns), e, p, has, are) = no_head n.1 (map (λ e. e.1) ns) (tail_is m.1 xs (n.1 ∷ map (λ e. e.1) ns) [] p)

module _ {T U : Type 0} (f : T → List U) where
  abbrev put_at : ℕ → List U → List (ℕ × U)
  put_at n [] = []
  put_at n (x ∷ xs) = (n, x) ∷ put_at n xs

  -- each message's parts have its number
  abbrev spread : List (ℕ × T) → List (ℕ × U)
  spread [] = []
  spread (m ∷ ms) = put_at m.0 (f m.1) ++ spread ms

  abbrev each : List (ℕ × List T) → List (ℕ × List U)
  each [] = []
  each (e ∷ es) = (e.0, flat_map f e.1) ∷ each es

  put_is : (n : ℕ) (xs : List U) → map (λ m. m.1) (put_at n xs) ≡ xs
  put_is n [] = refl
  put_is n (x ∷ xs) = ap (λ l. x ∷ l) (put_is n xs)

  spread_is : (ms : List (ℕ × T)) → map (λ m. m.1) (spread ms) ≡ flat_map f (map (λ m. m.1) ms)
  spread_is [] = refl
  spread_is (m ∷ ms) =
      map-append (λ m. m.1) (put_at m.0 (f m.1)) (spread ms) ∙ ap (λ l. l ++ map (λ m. m.1) (spread ms)) (put_is m.0 (f m.1)) ∙ ap (λ l. f m.1 ++ l) (spread_is ms)

  put_of : (n k : ℕ) (xs : List U) (b : Bool) → (n == k) ≡ b → of k (put_at n xs) ≡ (if b then xs else [])
  put_of n k [] true is = refl
  put_of n k [] false is = refl
  put_of n k (x ∷ xs) true is = ap (λ (b : Bool). if b then x ∷ of k (put_at n xs) else of k (put_at n xs)) is ∙ ap (λ l. x ∷ l) (put_of n k xs true is)
  put_of n k (x ∷ xs) false is = ap (λ (b : Bool). if b then x ∷ of k (put_at n xs) else of k (put_at n xs)) is ∙ put_of n k xs false is

  of_step : (k : ℕ) (m : ℕ × T) (ms : List (ℕ × T)) (b : Bool) → (m.0 == k) ≡ b → of k (spread ms) ≡ flat_map f (of k ms) → of k (spread (m ∷ ms)) ≡ flat_map f (of k (m ∷ ms))
  of_step k m ms true is rest =
      of_append k (put_at m.0 (f m.1)) (spread ms) ∙ ap (λ l. l ++ of k (spread ms)) (put_of m.0 k (f m.1) true is) ∙ ap (λ l. f m.1 ++ l) rest
      ∙ sym (ap (λ (b : Bool). flat_map f (if b then m.1 ∷ of k ms else of k ms)) is)
  of_step k m ms false is rest =
      of_append k (put_at m.0 (f m.1)) (spread ms) ∙ ap (λ l. l ++ of k (spread ms)) (put_of m.0 k (f m.1) false is) ∙ rest
      ∙ sym (ap (λ (b : Bool). flat_map f (if b then m.1 ∷ of k ms else of k ms)) is)

  of_spread : (k : ℕ) (ms : List (ℕ × T)) → of k (spread ms) ≡ flat_map f (of k ms)
  of_spread k [] = refl
  of_spread k (m ∷ ms) = of_step k m ms (m.0 == k) refl (of_spread k ms)

  new_each : (n : ℕ) (es : List (ℕ × List T)) → IsNew n es → IsNew n (each es)
  new_each n [] new = tt
  new_each n (e ∷ es) new = (new.0, new_each n es new.1)

  new_from : (n : ℕ) (es : List (ℕ × List T)) → IsNew n (each es) → IsNew n es
  new_from n [] new = tt
  new_from n (e ∷ es) new = (new.0, new_from n es new.1)

  has_each : (all : List (ℕ × T)) (es : List (ℕ × List T)) → HasAll all es → HasAll (spread all) (each es)
  has_each all [] has = tt
  has_each all (e ∷ es) has = (of_spread e.0 all ∙ ap (λ l. flat_map f l) has.0, new_each e.0 es has.1, has_each all es has.2)

  each_is : (es : List (ℕ × List T)) → map (λ e. e.1) (each es) ≡ map (λ l. flat_map f l) (map (λ e. e.1) es)
  each_is [] = refl
  each_is (e ∷ es) = ap (λ l. flat_map f e.1 ∷ l) (each_is es)

  -- the parts of the messages interleave as the messages do
  pub parts_interleaved : (parts : List (List T)) (whole : List T) → Interleaves parts whole → Interleaves (map (λ l. flat_map f l) parts) (flat_map f whole)
  parts_interleaved parts whole a = (
    spread a.0,
    each a.1,
    spread_is a.0 ∙ ap (λ l. flat_map f l) a.2,
    each_is a.1 ∙ ap (λ l. map (λ l. flat_map f l) l) a.3,
    has_each a.0 a.1 a.4,
    λ n new. of_spread n a.0 ∙ ap (λ l. flat_map f l) (a.5 n (new_from n a.1 new)),
  )
