-- A beginning of an interleaving extends to an interleaving of the whole parts.
use Rattle.std.proofs.Common.{◌≡◌, ◌≢◌, ◌+◌, ◌≤◌, ◌==◌, zero, suc, if◌then◌else◌, ℕ, Bool, List, [], ◌∷◌, ◌++◌, map, refl, sym, ap, subst, ◌∙◌, append_assoc, arith}
use Rattle.std.specs.Prelude.{⊤}
use Rattle.std.proofs.lemmas.List.{append-nil, map-append}
use Rattle.mono_channel.specs.Delivery.{of, IsNew, HasAll, Interleaves}
use Rattle.mono_channel.specs.Beginnings.{AreBeginnings}
use Rattle.mono_channel.proofs.DeliveryLemmas.{of_append, same_is, other_is}

module _ {T : Type 0} where
  -- ---- more elements of a part

  abbrev put_at : ℕ → List T → List (ℕ × T)
  put_at n [] = []
  put_at n (x ∷ xs) = (n, x) ∷ put_at n xs

  put_same : (n : ℕ) (xs : List T) → of n (put_at n xs) ≡ xs
  put_same n [] = refl
  put_same n (x ∷ xs) = ap (λ (b : Bool). if b then x ∷ of n (put_at n xs) else of n (put_at n xs)) (same_is n) ∙ ap (λ l. x ∷ l) (put_same n xs)

  put_other : (n k : ℕ) → n ≢ k → (xs : List T) → of k (put_at n xs) ≡ []
  put_other n k apart [] = refl
  put_other n k apart (x ∷ xs) = ap (λ (b : Bool). if b then x ∷ of k (put_at n xs) else of k (put_at n xs)) (other_is n k apart) ∙ put_other n k apart xs

  -- each part with its rest, and the elements of the rests
  abbrev grown : List (ℕ × List T) → List (List T) → List (ℕ × List T)
  grown [] rs = []
  grown (e ∷ es) [] = e ∷ es
  grown (e ∷ es) (r ∷ rs) = (e.0, e.1 ++ r) ∷ grown es rs

  abbrev added : List (ℕ × List T) → List (List T) → List (ℕ × T)
  added [] rs = []
  added (e ∷ es) [] = []
  added (e ∷ es) (r ∷ rs) = put_at e.0 r ++ added es rs

  new_grown : (n : ℕ) (es : List (ℕ × List T)) (rs : List (List T)) → IsNew n es → IsNew n (grown es rs)
  new_grown n [] rs new = tt
  new_grown n (e ∷ es) [] new = new
  new_grown n (e ∷ es) (r ∷ rs) new = (new.0, new_grown n es rs new.1)

  new_before : (n : ℕ) (es : List (ℕ × List T)) (rs : List (List T)) → IsNew n (grown es rs) → IsNew n es
  new_before n [] rs new = tt
  new_before n (e ∷ es) [] new = new
  new_before n (e ∷ es) (r ∷ rs) new = (new.0, new_before n es rs new.1)

  none_added : (n : ℕ) (es : List (ℕ × List T)) (rs : List (List T)) → IsNew n es → of n (added es rs) ≡ []
  none_added n [] rs new = refl
  none_added n (e ∷ es) [] new = refl
  none_added n (e ∷ es) (r ∷ rs) new = of_append n (put_at e.0 r) (added es rs) ∙ ap (λ l. l ++ of n (added es rs)) (put_other e.0 n new.0 r) ∙ none_added n es rs new.1

  -- the elements are of none of these
  abbrev AreNone : List (ℕ × T) → List (ℕ × List T) → Type 0
  AreNone b [] = ⊤
  AreNone b (e ∷ es) = (of e.0 b ≡ []) × AreNone b es

  none_first : (es : List (ℕ × List T)) → AreNone [] es
  none_first [] = tt
  none_first (e ∷ es) = (refl, none_first es)

  none_more : (b : List (ℕ × T)) (n : ℕ) (r : List T) (es : List (ℕ × List T)) → IsNew n es → AreNone b es → AreNone (b ++ put_at n r) es
  none_more b n r [] new none = tt
  none_more b n r (e ∷ es) new none = (
    of_append e.0 b (put_at n r) ∙ ap (λ l. l ++ of e.0 (put_at n r)) none.0 ∙ put_other n e.0 (λ same. new.0 (sym same)) r,
    none_more b n r es new.1 none.1,
  )

  has_none : (all b : List (ℕ × T)) (es : List (ℕ × List T)) → HasAll all es → AreNone b es → HasAll (all ++ b) es
  has_none all b [] has none = tt
  has_none all b (e ∷ es) has none = (of_append e.0 all b ∙ ap (λ l. of e.0 all ++ l) none.0 ∙ append-nil (of e.0 all) ∙ has.0, has.1, has_none all b es has.2 none.1)

  has_grown : (all b : List (ℕ × T)) (es : List (ℕ × List T)) (rs : List (List T)) → HasAll all es → AreNone b es → HasAll (all ++ (b ++ added es rs)) (grown es rs)
  has_grown all b [] rs has none = tt
  has_grown all b (e ∷ es) [] has none = subst (λ l. HasAll (all ++ l) (e ∷ es)) (sym (append-nil b)) (has_none all b (e ∷ es) has none)
  has_grown all b (e ∷ es) (r ∷ rs) has none =
      let put = put_at e.0 r in
      let others = added es rs in
      let mine : of e.0 (put ++ others) ≡ r = of_append e.0 put others ∙ ap (λ l. l ++ of e.0 others) (put_same e.0 r) ∙ ap (λ l. r ++ l) (none_added e.0 es rs has.1) ∙ append-nil r in
      let later : of e.0 (b ++ (put ++ others)) ≡ r = of_append e.0 b (put ++ others) ∙ ap (λ l. l ++ of e.0 (put ++ others)) none.0 ∙ mine in (
        of_append e.0 all (b ++ (put ++ others)) ∙ ap (λ l. of e.0 all ++ l) later ∙ ap (λ l. l ++ r) has.0,
        new_grown e.0 es rs has.1,
        subst (λ l. HasAll (all ++ l) (grown es rs)) (append_assoc b put others) (has_grown all (b ++ put) es rs has.2 (none_more b e.0 r es has.1 none.1)),
      )

  abbrev rests_of : (es : List (ℕ × List T)) (ws : List (List T)) → AreBeginnings (map (λ e. e.1) es) ws → List (List T)
  rests_of [] [] b = []
  rests_of [] (w ∷ ws) b = []
  rests_of (e ∷ es) [] b = []
  rests_of (e ∷ es) (w ∷ ws) b = b.0.0 ∷ rests_of es ws b.1

  grown_is : (es : List (ℕ × List T)) (ws : List (List T)) (b : AreBeginnings (map (λ e. e.1) es) ws) → map (λ e. e.1) (grown es (rests_of es ws b)) ≡ ws
  grown_is [] [] b = refl
  grown_is [] (w ∷ ws) b = absurd b
  grown_is (e ∷ es) [] b = absurd b
  grown_is (e ∷ es) (w ∷ ws) b = ap (λ l. l ∷ map (λ e. e.1) (grown es (rests_of es ws b.1))) b.0.1 ∙ ap (λ l. w ∷ l) (grown_is es ws b.1)

  -- a beginning of an interleaving extends to one of the whole parts
  pub extends : (parts wholes : List (List T)) (received : List T) → Interleaves parts received → AreBeginnings parts wholes → (more : List T) × Interleaves wholes (received ++ more)
  extends parts wholes received i begun =
      let all = i.0 in
      let es = i.1 in
      let b : AreBeginnings (map (λ e. e.1) es) wholes = subst (λ l. AreBeginnings l wholes) (sym i.3) begun in
      let rs = rests_of es wholes b in
      let more = added es rs in (
        map (λ m. m.1) more,
        (
          all ++ more,
          grown es rs,
          map-append (λ m. m.1) all more ∙ ap (λ l. l ++ map (λ m. m.1) more) i.2,
          grown_is es wholes b,
          has_grown all [] es rs i.4 (none_first es),
          λ n new. of_append n all more ∙ ap (λ l. l ++ of n more) (i.5 n (new_before n es rs new)) ∙ none_added n es rs (new_before n es rs new),
        ),
      )

  -- ---- more parts, without elements

  abbrev fresh : List (ℕ × List T) → ℕ
  fresh [] = 0
  fresh (e ∷ es) = e.0 + 1 + fresh es

  fresh_is : (es : List (ℕ × List T)) (n : ℕ) → fresh es ≤ n → IsNew n es
  fresh_is [] n le = tt
  fresh_is (e ∷ es) n le = (λ same. absurd (omega (arith, same, le)), fresh_is es n (omega (arith, le)))

  new_end : (k n : ℕ) (es : List (ℕ × List T)) → n ≢ k → IsNew k es → IsNew k (es ++ (n, []) ∷ [])
  new_end k n [] apart new = (apart, tt)
  new_end k n (e ∷ es) apart new = (new.0, new_end k n es apart new.1)

  new_front : (k : ℕ) (es others : List (ℕ × List T)) → IsNew k (es ++ others) → IsNew k es
  new_front k [] others new = tt
  new_front k (e ∷ es) others new = (new.0, new_front k es others new.1)

  has_end : (n : ℕ) (all : List (ℕ × T)) (es : List (ℕ × List T)) → of n all ≡ [] → IsNew n es → HasAll all es → HasAll all (es ++ (n, []) ∷ [])
  has_end n all [] none new has = (none, tt, tt)
  has_end n all (e ∷ es) none new has = (has.0, new_end e.0 n es (λ same. new.0 (sym same)) has.1, has_end n all es none new.1 has.2)

  pad_one : (parts : List (List T)) (received : List T) → Interleaves parts received → Interleaves (parts ++ [] ∷ []) received
  pad_one parts received i =
      let n = fresh i.1 in
      let new = fresh_is i.1 n (omega arith) in
      (i.0, i.1 ++ (n, []) ∷ [], i.2, map-append (λ e. e.1) i.1 ((n, []) ∷ []) ∙ ap (λ l. l ++ [] ∷ []) i.3, has_end n i.0 i.1 (i.5 n new) new i.4, λ k more. i.5 k (new_front k i.1 ((n, []) ∷ []) more))

  abbrev pub nones : ℕ → List (List T)
  nones zero = []
  nones (suc d) = [] ∷ nones d

  pub pads : (d : ℕ) (parts : List (List T)) (received : List T) → Interleaves parts received → Interleaves (parts ++ nones d) received
  pads zero parts received i = subst (λ l. Interleaves l received) (sym (append-nil parts)) i
  pads (suc d) parts received i = subst (λ l. Interleaves l received) (append_assoc parts ([] ∷ []) (nones d)) (pads d (parts ++ [] ∷ []) received (pad_one parts received i))
