-- Each call of an end keeps the rule of the channel.
use Rattle.std.proofs.Common.{◌≡◌, ◌≢◌, ◌==◌, ◌<◌, ◌≤◌, ◌+◌, ℕ, zero, suc, true, false, true≢false, Bool, List, [], ◌∷◌, ◌++◌, map, length, set, sym, refl, ap, ◌∙◌, subst, ⊎_elim, inl, inr, append_assoc, arith}
use Rattle.std.specs.Prelude.{if◌then◌else◌, ◌⊎◌}
use Rattle.std.proofs.lemmas.Bool.Decides.{nat_tests}
use Rattle.std.proofs.lemmas.List.{map-append, length-set, length-append, append-nil}
use mathlib.Core.Option.{some, some-ne-none, some-injective}
use mathlib.Core.Logic.{dite}
use native.Mathlib.Decide.{dec_le}
use lib.ListN.{get_elem?}
use Rattle.crossbeam_queue.specs.Fifo.{Pushes, Pops, Forks, Merges, Learns, Held}
use Rattle.crossbeam_queue.proofs.Lists.{at_set, set_else}
use Rattle.mono_channel.specs.declared.rule.Hand.{Hand}
use Rattle.mono_channel.specs.Queues.{IsQueued, HeldBelow}
use Rattle.mono_channel.specs.Delivery.{of, IsNew, HasAll, AreBelow, AreOf, Arrived, Fit, Delivers, total, all_shares, shares_kept, shares_given, hand, sender, spent}

pub same_is : (n : ℕ) → (n == n) ≡ true
same_is n = grind (arith, nat_tests)

pub other_is : (m n : ℕ) → m ≢ n → (m == n) ≡ false
other_is m n apart = grind (arith, nat_tests)

pub never : {A : Type 0} → false ≡ true → A
never p = absurd (true≢false (sym p))

module _ {T : Type 0} where
  of_step : (b : Bool) (y : T) (xs ys zs : List T) → xs ≡ ys ++ zs → (if b then y ∷ xs else xs) ≡ (if b then y ∷ ys else ys) ++ zs
  of_step true y xs ys zs e = ap (λ l. y ∷ l) e
  of_step false y xs ys zs e = e

  pub of_append : (n : ℕ) (ms ns : List (ℕ × T)) → of n (ms ++ ns) ≡ of n ms ++ of n ns
  of_append n [] ns = refl
  of_append n (m ∷ ms) ns = of_step (m.0 == n) m.1 (of n (ms ++ ns)) (of n ms) (of n ns) (of_append n ms ns)

  of_mine : (n : ℕ) (x : T) (all : List (ℕ × T)) → of n (all ++ (n, x) ∷ []) ≡ of n all ++ x ∷ []
  of_mine n x all = of_append n all ((n, x) ∷ []) ∙ ap (λ (b : Bool). of n all ++ (if b then x ∷ [] else [])) (same_is n)

  of_else : (n m : ℕ) (x : T) (all : List (ℕ × T)) → m ≢ n → of n (all ++ (m, x) ∷ []) ≡ of n all
  of_else n m x all apart = of_append n all ((m, x) ∷ []) ∙ ap (λ (b : Bool). of n all ++ (if b then x ∷ [] else [])) (other_is m n apart) ∙ append-nil (of n all)

  has_put : (all : List (ℕ × T)) (n : ℕ) (x : T) (es : List (ℕ × List T)) → IsNew n es → HasAll all es → HasAll (all ++ (n, x) ∷ []) es
  has_put all n x [] new has = tt
  has_put all n x (e ∷ es) new has = (of_else e.0 n x all (λ same. new.0 (sym same)) ∙ has.0, has.1, has_put all n x es new.1 has.2)

  new_end : (k n : ℕ) (s : List T) (es : List (ℕ × List T)) → IsNew k es → n ≢ k → IsNew k (es ++ (n, s) ∷ [])
  new_end k n s [] new apart = (apart, tt)
  new_end k n s (e ∷ es) new apart = (new.0, new_end k n s es new.1 apart)

  has_end : (all : List (ℕ × T)) (n : ℕ) (s : List T) (es : List (ℕ × List T)) → of n all ≡ s → IsNew n es → HasAll all es → HasAll all (es ++ (n, s) ∷ [])
  has_end all n s [] is new has = (is, tt, tt)
  has_end all n s (e ∷ es) is new has = (has.0, new_end e.0 n s es has.1 (λ same. new.0 (sym same)), has_end all n s es is new.1 has.2)

  below_longer : (n m : ℕ) (es : List (ℕ × List T)) → n ≤ m → AreBelow n es → AreBelow m es
  below_longer n m [] le below = tt
  below_longer n m (e ∷ es) le below = (let b = below.0 in omega arith, below_longer n m es le below.1)

  below_end : (n k : ℕ) (s : List T) (es : List (ℕ × List T)) → k < n → AreBelow n es → AreBelow n (es ++ (k, s) ∷ [])
  below_end n k s [] lt below = (lt, tt)
  below_end n k s (e ∷ es) lt below = (below.0, below_end n k s es lt below.1)

  below_new : (n m : ℕ) (es : List (ℕ × List T)) → n ≤ m → AreBelow n es → IsNew m es
  below_new n m [] le below = tt
  below_new n m (e ∷ es) le below = (λ same. let b = below.0 in absurd (omega arith), below_new n m es le below.1)

  inside : (l : List (Hand T)) (i : ℕ) (v : Hand T) → get_elem? l i ≡ some v → i < length l
  inside [] i v at = absurd (some-ne-none v (sym at))
  inside (u ∷ us) zero v at = omega arith
  inside (u ∷ us) (suc i) v at = let r = inside us i v at in omega arith

  at_back : (l : List (Hand T)) (a b : Hand T) (j : ℕ) → get_elem? (l ++ a ∷ []) j ≡ some b → (get_elem? l j ≡ some b) ⊎ ((j ≡ length l) × (a ≡ b))
  at_back [] a b zero e = inr (refl, some-injective a b e)
  at_back [] a b (suc j) e = absurd (some-ne-none b (sym e))
  at_back (x ∷ xs) a b zero e = inl e
  at_back (x ∷ xs) a b (suc j) e = ⊎_elim (λ t. inl t) (λ t. inr (ap suc t.0, t.1)) (at_back xs a b j e)

  abbrev All : (ℕ → Hand T → Type 0) → List (Hand T) → Type 0
  All F views = (n : ℕ) (v : Hand T) → get_elem? views n ≡ some v → F n v

  all_set : (F : ℕ → Hand T → Type 0) (views : List (Hand T)) (port : ℕ) (w : Hand T) → F port w → ((j : ℕ) (u : Hand T) → j ≢ port → get_elem? views j ≡ some u → F j u) → All F (set views port w)
  all_set F views port w mine others j u e = ⊎_elim (λ (x : (j ≡ port) × (w ≡ u)). subst (λ (y : ℕ × Hand T). F y.0 y.1) (λ i. (sym x.0 i, x.1 i)) mine)
      (λ (x : (j ≢ port) × (get_elem? views j ≡ some u)). others j u x.0 x.1) (at_set views port j w u e)

  new_front : (k : ℕ) (e : ℕ × List T) (es : List (ℕ × List T)) → IsNew k (es ++ e ∷ []) → IsNew k es
  new_front k e [] new = tt
  new_front k e (x ∷ es) new = (new.0, new_front k e es new.1)

  new_not : (n : ℕ) (s : List T) (es : List (ℕ × List T)) → IsNew n (es ++ (n, s) ∷ []) → ⊥
  new_not n s [] new = new.0 refl
  new_not n s (x ∷ es) new = new_not n s es new.1

  found : (views : List (Hand T)) (n : ℕ) → n < length views → (v : Hand T) × (get_elem? views n ≡ some v)
  found [] n lt = absurd (omega arith)
  found (u ∷ us) zero lt = (u, refl)
  found (u ∷ us) (suc n) lt = found us n (omega arith)

  total_set : (views : List (Hand T)) (port : ℕ) (v w : Hand T) → get_elem? views port ≡ some v → total (set views port w) + v.shares ≡ total views + w.shares
  total_set [] port v w at = absurd (some-ne-none v (sym at))
  total_set (u ∷ us) zero v w at = let same : u.shares ≡ v.shares = ap (λ (y : Hand T). y.shares) (some-injective u v at) in omega arith
  total_set (u ∷ us) (suc port) v w at = let more = total_set us port v w at in omega arith

  total_back : (views : List (Hand T)) (w : Hand T) → total (views ++ w ∷ []) ≡ total views + w.shares
  total_back [] w = omega arith
  total_back (u ∷ us) w = let more = total_back us w in omega arith

  total_one : (views : List (Hand T)) (n : ℕ) (v : Hand T) → get_elem? views n ≡ some v → v.shares ≤ total views
  total_one views n v at = let t = total_set views n v spent at in omega arith

  total_two : (views : List (Hand T)) (n m : ℕ) (v u : Hand T) → m ≢ n → get_elem? views n ≡ some v → get_elem? views m ≡ some u → v.shares + u.shares ≤ total views
  total_two views n m v u apart at at' =
      let t = total_set views n v spent at in
      let one = total_one (set views n spent) m u (set_else views n m spent apart ∙ at') in omega arith

  pub begins : Delivers {T = T} [] (hand all_shares [] [] ∷ [])
  begins = (
    0,
    [],
    [],
    [],
    refl,
    tt,
    tt,
    (λ n le. refl),
    (λ n v at. ⊎_elim (λ none. absurd (some-ne-none v (sym none)))
        (λ (is : (n ≡ 0) × (hand all_shares [] [] ≡ v)). (
          (λ p. never (ap (λ (y : Hand T). y.sends) is.1 ∙ p)),
          (λ p. (is.0, ap (λ (y : Hand T). y.received) (sym is.1), ap (λ (y : Hand T). y.settled) (sym is.1), ap (λ (y : Hand T). y.sends) (sym is.1))),
          λ p new. refl,
        )) (at_back [] (hand all_shares [] []) v n at)),
    omega arith,
    (λ e n v at. ⊎_elim (λ none. absurd (some-ne-none v (sym none)))
        (λ (is : (n ≡ 0) × (hand all_shares [] [] ≡ v)). λ p. never (ap (λ (y : Hand T). y.sends) is.1 ∙ p)) (at_back [] (hand all_shares [] []) v n at)),
  )

  pub sends : (n port : ℕ) (v : Hand T) (x : T) → v.sends ≡ true → Pushes Delivers n port v x (λ w. w ≡ sender v.shares (v.sent ++ x ∷ []))
  sends n port v x may items views _ h at =
      let w : Hand T = sender v.shares (v.sent ++ x ∷ []) in
      let all = h.2 ++ (port, x) ∷ [] in
      let mine = (h.8 port v at).0 may in
      let here = inside views port v at in
      let same = length-set views port w in
      let t : total (set views port w) + v.shares ≡ total views + v.shares = total_set views port v w at in
      let most = h.9 in (
        w,
        (
          h.0,
          h.1,
          all,
          h.3,
          map-append (λ m. m.1) h.2 ((port, x) ∷ []) ∙ ap (λ l. l ++ x ∷ []) h.4 ∙ append_assoc h.1 items (x ∷ []),
          has_put h.2 port x h.3 mine.1 h.5,
          subst (λ k. AreBelow k h.3) (sym same) h.6,
          (λ q le. of_else q port x h.2 (λ is. omega arith) ∙ h.7 q (omega arith)),
          all_set (Fit h.0 h.1 all h.3) views port w ((λ _. (of_mine port x h.2 ∙ ap (λ l. l ++ x ∷ []) mine.0, mine.1)), (λ p. never p), λ p. never (sym p))
              (λ j u other e. ((λ p. (of_else j port x h.2 (λ is. other (sym is)) ∙ ((h.8 j u e).0 p).0, ((h.8 j u e).0 p).1)), (h.8 j u e).1, λ p new. of_else j port x h.2 (λ is. other (sym is)) ∙ (h.8 j u e).2 p new)),
          omega arith,
          (λ e. let old : total views ≡ all_shares = omega arith in all_set (λ j u. u.sends ≡ true → 0 < u.shares) views port w (λ p. h.10 old port v at may) (λ j u other a. h.10 old j u a)),
        ),
        refl,
      )

  pub gets : (port : ℕ) (v : Hand T) → v.receives ≡ true → Pops Delivers port v (λ x w. w ≡ hand v.shares (v.received ++ x ∷ []) v.settled)
  gets port v may x items views h at =
      let w : Hand T = hand v.shares (v.received ++ x ∷ []) v.settled in
      let got = h.1 ++ x ∷ [] in
      let mine = (h.8 port v at).1 may in
      let same = length-set views port w in
      let t : total (set views port w) + v.shares ≡ total views + v.shares = total_set views port v w at in
      let most = h.9 in (
        w,
        (
          h.0,
          got,
          h.2,
          h.3,
          h.4 ∙ sym (append_assoc h.1 (x ∷ []) items),
          h.5,
          subst (λ k. AreBelow k h.3) (sym same) h.6,
          (λ q le. h.7 q (omega arith)),
          all_set (Fit h.0 got h.2 h.3) views port w ((λ p. never p), (λ _. (mine.0, ap (λ l. l ++ x ∷ []) mine.1, mine.2, refl)), λ p new. (h.8 port v at).2 mine.3 new)
              (λ j u other e. ((h.8 j u e).0, (λ p. absurd (other (((h.8 j u e).1 p).0 ∙ sym mine.0))), (h.8 j u e).2)),
          omega arith,
          (λ e. let old : total views ≡ all_shares = omega arith in all_set (λ j u. u.sends ≡ true → 0 < u.shares) views port w (λ p. never p) (λ j u other a. h.10 old j u a)),
        ),
        refl,
      )

  -- A further sender gets shares of an end. It and the end have less together than the end had, or each has some.
  forked : (port : ℕ) (v left : Hand T) (s : ℕ) (items : List T) (views : List (Hand T)) (h : Delivers items views) → get_elem? views port ≡ some v → Fit h.0 h.1 h.2 h.3 port left
      → left.shares + s ≤ v.shares → (left.shares + s ≡ v.shares → 0 < v.shares → (left.sends ≡ true → 0 < left.shares) × (0 < s)) → (total views ≡ all_shares → 0 < v.shares)
      → Delivers items (set views port left ++ sender s [] ∷ [])
  forked port v left s items views h at fits less parts some_share =
      let vs : List (Hand T) = set views port left in
      let same : length vs ≡ length views = length-set views port left in
      let longer : length (vs ++ sender s [] ∷ []) ≡ length vs + 1 = length-append vs (sender s [] ∷ []) in
      let t : total vs + v.shares ≡ total views + left.shares = total_set views port v left at in
      let back : total (vs ++ sender s [] ∷ []) ≡ total vs + s = total_back vs (sender s []) in
      let most = h.9 in
      let old_fits = all_set (Fit h.0 h.1 h.2 h.3) views port left fits (λ i y other a. h.8 i y a) in (
        h.0,
        h.1,
        h.2,
        h.3,
        h.4,
        h.5,
        below_longer (length views) (length (vs ++ sender s [] ∷ [])) h.3 (omega arith) h.6,
        (λ q le. h.7 q (omega arith)),
        (λ j u e. ⊎_elim (λ old. old_fits j u old)
            (λ (is : (j ≡ length vs) × (sender s [] ≡ u)). (
              (λ p. (h.7 j (let i = is.0 in omega arith) ∙ ap (λ (y : Hand T). y.sent) is.1, below_new (length views) j h.3 (let i = is.0 in omega arith) h.6)),
              (λ p. never (ap (λ (y : Hand T). y.receives) is.1 ∙ p)),
              λ p. never (sym (ap (λ (y : Hand T). y.sends) is.1 ∙ p)),
            ))
            (at_back vs (sender s []) u j e)),
        omega arith,
        (λ whole.
            let old : total views ≡ all_shares = omega arith in
            let both = parts (omega arith) (some_share old) in
            λ j u e. ⊎_elim (λ there. all_set (λ i y. y.sends ≡ true → 0 < y.shares) views port left both.0 (λ i y other a. h.10 old i y a) j u there)
            (λ (is : (j ≡ length vs) × (sender s [] ≡ u)). λ p. subst (λ (y : Hand T). 0 < y.shares) is.1 both.1)
            (at_back vs (sender s []) u j e)),
      )

  -- the receiver makes the first sender
  pub opens : (port : ℕ) (v : Hand T) → v.receives ≡ true → v.shares ≡ all_shares → Forks Delivers port v (hand 0 v.received v.settled) (sender v.shares [])
  opens port v may whole items views h at =
      let mine = (h.8 port v at).1 may in
      forked port v (hand 0 v.received v.settled) v.shares items views h at ((λ p. never p), (λ _. (mine.0, mine.1, mine.2, refl)), λ p new. (h.8 port v at).2 mine.3 new)
      (omega arith) (λ e some_share. ((λ p. never p), some_share)) (λ old. omega arith)

  -- a sender makes a further one
  pub forks : (port : ℕ) (v : Hand T) → v.sends ≡ true → Forks Delivers port v (sender (shares_kept v.shares) v.sent) (sender (shares_given v.shares) [])
  forks port v may items views h at =
      forked port v (sender (shares_kept v.shares) v.sent) (shares_given v.shares) items views h at ((λ _. (h.8 port v at).0 may), (λ p. never p), λ p. never (sym p))
      (omega arith) (λ e some_share. ((λ p. omega arith), omega arith)) (λ old. h.10 old port v at may)

  pub merges : (port : ℕ) (v : Hand T) (other : ℕ) (u : Hand T) → v.receives ≡ true → u.sends ≡ true
      → Merges Delivers port v other u (hand (v.shares + u.shares) v.received (v.settled ++ u.sent ∷ [])) spent
  merges port v other u may also items views h at two at' =
      let both : Hand T = hand (v.shares + u.shares) v.received (v.settled ++ u.sent ∷ []) in
      let vs : List (Hand T) = set views port both in
      let was : get_elem? views other ≡ some u = ⊎_elim (λ x. absurd (two x.0)) (λ x. x.1) (at_set views port other both u at') in
      let theirs = (h.8 other u was).0 also in
      let mine = (h.8 port v at).1 may in
      let ended = h.3 ++ (other, u.sent) ∷ [] in
      let here = inside views other u was in
      let same = length-set views port both in
      let again = length-set vs other spent in
      let settled : v.settled ++ u.sent ∷ [] ≡ map (λ e. e.1) ended = ap (λ l. l ++ u.sent ∷ []) mine.2 ∙ sym (map-append (λ e. e.1) h.3 ((other, u.sent) ∷ [])) in
      let Now : ℕ → Hand T → Type 0 = λ j y. j ≢ other → Fit h.0 h.1 h.2 ended j y in
      let now : All Now vs = all_set Now views port both (λ _. ((λ p. never p), (λ _. (mine.0, mine.1, settled, refl)), λ p new. (h.8 port v at).2 mine.3 (new_front port (other, u.sent) h.3 new)))
      (λ j y away e apart. (
        (λ p. (((h.8 j y e).0 p).0, new_end j other u.sent h.3 ((h.8 j y e).0 p).1 (λ is. apart (sym is)))),
        (λ p. absurd (away (((h.8 j y e).1 p).0 ∙ sym mine.0))),
        λ p new. (h.8 j y e).2 p (new_front j (other, u.sent) h.3 new),
      )) in
      let t : total vs + v.shares ≡ total views + (v.shares + u.shares) = total_set views port v both at in
      let t' : total (set vs other spent) + u.shares ≡ total vs + 0 = total_set vs other u spent at' in
      let most = h.9 in (
        h.0,
        h.1,
        h.2,
        ended,
        h.4,
        has_end h.2 other u.sent h.3 theirs.0 theirs.1 h.5,
        subst (λ k. AreBelow k ended) (sym (again ∙ same)) (below_end (length views) other u.sent h.3 here h.6),
        (λ q le. h.7 q (omega arith)),
        all_set (Fit h.0 h.1 h.2 ended) vs other spent ((λ p. never p), (λ p. never p), λ p new. absurd (new_not other u.sent h.3 new)) (λ j y apart e. now j y e apart),
        omega arith,
        (λ whole.
            let old : total views ≡ all_shares = omega arith in
            all_set (λ j y. y.sends ≡ true → 0 < y.shares) vs other spent (λ p. never p)
            (λ j y apart e. all_set (λ j y. y.sends ≡ true → 0 < y.shares) views port both (λ p. never p) (λ j y away a. h.10 old j y a) j y e)),
      )

  -- with all shares at the receiver there is no sender, so each message has the number of a settled one
  one_of : (items : List T) (views : List (Hand T)) (h : Delivers items views) (port : ℕ) (v : Hand T) → get_elem? views port ≡ some v → v.sends ≡ false → v.shares ≡ all_shares
      → (n : ℕ) (u : Hand T) → get_elem? views n ≡ some u → (b : Bool) → u.sends ≡ b → IsNew n h.3 → of n h.2 ≡ []
  one_of items views h port v at idle whole n u at' false is new = (h.8 n u at').2 is new
  one_of items views h port v at idle whole n u at' true is new =
      let apart : n ≢ port = λ same. never (sym idle ∙ ap (λ (y : Hand T). y.sends) (some-injective v u (sym at ∙ ap (λ k. get_elem? views k) (sym same) ∙ at')) ∙ is) in
      let two = total_two views port n v u apart at at' in
      let most = h.9 in
      let some_share = h.10 (omega arith) n u at' is in absurd (omega arith)

  are_of : (items : List T) (views : List (Hand T)) (h : Delivers items views) (port : ℕ) (v : Hand T) → get_elem? views port ≡ some v → v.sends ≡ false → v.shares ≡ all_shares → AreOf h.2 h.3
  are_of items views h port v at idle whole n new = dite (dec_le (length views) n) (λ out. h.7 n out)
      (λ in_it. let there = found views n (omega arith) in one_of items views h port v at idle whole n there.0 there.1 there.0.sends refl new)

  pub learns : (port : ℕ) (v : Hand T) → v.receives ≡ true → Learns Delivers port v (λ items. Arrived v.shares (v.received ++ items) v.settled)
  learns port v may items views h at = let mine = (h.8 port v at).1 may in (h.2, h.3, h.4 ∙ ap (λ l. l ++ items) (sym mine.1), sym mine.2, h.5, λ whole. are_of items views h port v at mine.3 whole)

  -- where none is queued, all that the settled senders sent has been received
  pub all_arrived : (shares : ℕ) (received : List T) (settled : List (List T)) → Held 0 (λ items. Arrived shares (received ++ items) settled) → Arrived shares received settled
  all_arrived shares received settled ([], none, arrived) = subst (λ l. Arrived shares l settled) (append-nil received) arrived
  all_arrived shares received settled (x ∷ items, none, arrived) = absurd (omega arith)

  -- a sender knows that what it sent is among the messages sent, of which the queued ones are the last
  pub knows : (port : ℕ) (v : Hand T) → v.sends ≡ true → Learns Delivers port v (λ items. IsQueued v.sent items)
  knows port v may items views h at = (port, h.1, h.2, h.4, ((h.8 port v at).0 may).0)

  -- a push to a queue with so many places finds fewer messages queued
  pub sends_into : (n places port : ℕ) (v : Hand T) (x : T) → n ≡ places → v.sends ≡ true → Pushes Delivers n port v x (λ w. (w ≡ sender v.shares (v.sent ++ x ∷ [])) × HeldBelow places (IsQueued v.sent))
  sends_into n places port v x is may items views room h at =
      let sent = sends n port v x may items views room h at in (sent.0, sent.1, (sent.2, (items, subst (λ k. length items < k) is room, knows port v may items views h at)))
