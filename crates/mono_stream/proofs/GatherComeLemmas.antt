-- The items that may come of a stream, as a future gathers them.
use Rattle.std.proofs.Common.{◌≡◌, Bool, true, false, List, [], ◌∷◌, ◌++◌, Option, Some, None, refl, sym, ap, subst, ◌∙◌}
use Rattle.std.specs.Fn.{Mut}
use Rattle.std.specs.Global.{Vec}
use Rattle.std.specs.List.{cons_option, FoldsTo}
use Rattle.std.proofs.lemmas.List.{append_assoc, append-nil}
use Rattle.std.specs.Prelude.{IsSome, Result, Ok, Err}
use Rattle.mono_stream.specs.Collects.{CollectSifts, CollectingSifts, CollectGives}
use Rattle.mono_stream.specs.Comes.{MayCome}
use Rattle.mono_stream.specs.Folds.{is_nothing, FoldSifts, FoldsAt, FoldingSifts, Combines, FoldsOver, FoldGives}
use Rattle.mono_stream.specs.SiftedComes.{AbleOver, SiftsTo, Taken, Finds}
use Rattle.mono_stream.specs.SiftedItems.{AreSifted}
use Rattle.mono_stream.specs.declared.collects.Collect.{Collect}
use Rattle.mono_stream.specs.declared.collects.Collecting.{Collecting}
use Rattle.mono_stream.specs.declared.collects.Uncollected.{Uncollected}
use Rattle.mono_stream.specs.declared.folds.Fold.{Fold}
use Rattle.mono_stream.specs.declared.folds.Folding.{Folding}

some_inj : {T : Type 0} (t u : T) → Some t ≡ Some u → t ≡ u
some_inj t u e = cc

not_false : {P : Type 0} → true ≡ false → P
not_false e = absurd (cc)

not_cons : {P X : Type 0} (x : X) (xs : List X) → [] ≡ x ∷ xs → P
not_cons x xs e = absurd (cc)

-- A value that is not lacking.
some_of : {T : Type 0} (o : Option T) → is_nothing o ≡ false → (t : T) × (o ≡ Some t)
some_of (Some t) some = (t, refl)
some_of None some = not_false some

is_some_of : {T : Type 0} (o : Option T) (t : T) → o ≡ Some t → IsSome o
is_some_of o t is = subst (λ p. IsSome p) (sym is) refl

something : {T : Type 0} (o : Option T) (t : T) → o ≡ Some t → is_nothing o ≡ false
something o t is = subst (λ p. is_nothing p ≡ false) (sym is) refl

-- ---- fold

module _ {F T X : Type 0} (call : Mut F (T × (X × Unit {0})) T) where
  abbrev never : Folding T F → Bool
  never v = false

  abbrev Are : Folding T F → List X → List (Unit {0}) → Folding T F → Type 0
  Are v xs ys w = AreSifted never (FoldingSifts call) v xs ys w

  -- The items that were taken are combined into the value.
  combined : (xs : List X) (ys : List (Unit {0})) (v w : Folding T F) (t : T) → v.value ≡ Some t → Are v xs ys w → (u : T) × (w.value ≡ Some u) × FoldsTo (Combines call) (v.f, t) xs (w.f, u)
  combined [] ys v w t is (none, same) = (t, ap (λ k. k.value) same ∙ is, ap (λ k. (k.f, t)) (sym same))
  combined (x ∷ xs) ys v w t is (unfinished, y, k, one, zs, are, rest) =
      let (n, called, has, nothing) = subst (λ o. FoldSifts call o v.f x y k.value k.f) is one in
      let (u, last, chain) = combined xs zs k w n has rest in
      (u, last, ((k.f, n), called, chain))

  -- So there is a value after them.
  pub still_some : (Before Later : List X → Type 0) (v w : Folding T F) → is_nothing v.value ≡ false → Taken never (FoldingSifts call) Before Later v w → is_nothing w.value ≡ false
  still_some Before Later v w some taken =
      let (t, is) = some_of v.value some in
      let (u, has, chain) = combined taken.items [] v w t is taken.sifted in
      something w.value u has

  pub some_at_end : (Come : List X → Type 0) (v w : Folding T F) → is_nothing v.value ≡ false → SiftsTo never (FoldingSifts call) Come v [] w → (o : Option T) → o ≡ w.value → IsSome o
  some_at_end Come v w some came o same =
      let (t, is) = some_of v.value some in
      let (u, has, chain) = combined came.items [] v w t is came.sifted in
      is_some_of o u (same ∙ has)

  -- What is combined is taken.
  taken_of : (xs : List X) (v : Folding T F) (t : T) (q : F × T) → v.value ≡ Some t → FoldsTo (Combines call) (v.f, t) xs q → (w : Folding T F) × (w.value ≡ Some q.1) × (w.f ≡ q.0) × Are v xs [] w
  taken_of [] v t q is same = (v, is ∙ ap (λ p. Some p.1) same, ap (λ p. p.0) same, (refl, refl))
  taken_of (x ∷ xs) v t q is (j, one, chain) =
      let (w, has, func, rest) = taken_of xs (record { value = Some j.1; f = j.0 }) j.1 q refl chain in
      (w, has, func, (refl, None, record { value = Some j.1; f = j.0 }, subst (λ o. FoldSifts call o v.f x None (Some j.1) j.0) (sym is) (j.1, one, refl, refl), [], refl, rest))

  abbrev CanFold : Folding T F → X → Type 0
  CanFold v x = IsSome v.value × FoldsAt call v.value v.f x

  at_some : (o : Option T) (f : F) (x : X) (u : T) → o ≡ Some u → call.pre f (u, (x, tt)) → FoldsAt call o f x
  at_some o f x u has can = λ t is. subst (λ p. call.pre f (p, (x, tt))) (some_inj u t (sym has ∙ is)) can

  pub able_to_fold : {S : Type 0} (gives : S → List X → Type 0) (s : S) (v : Folding T F) → is_nothing v.value ≡ false → FoldsOver call gives s v.value v.f → AbleOver never (FoldingSifts call) CanFold gives s v
  able_to_fold gives s v some over = let (t, is) = some_of v.value some in record {
    at = λ xs ys x w come are last.
        let (u, has, chain) = combined xs ys v w t is are in
        (is_some_of w.value u has, at_some w.value w.f x u has (over.at xs x t (w.f, u) come is chain));
  }

  pub folds_over : {S : Type 0} (gives : S → List X → Type 0) (s : S) (v : Folding T F) → AbleOver never (FoldingSifts call) CanFold gives s v → FoldsOver call gives s v.value v.f
  folds_over gives s v able = record {
    at = λ xs x t q come is chain.
        let (w, has, func, are) = taken_of xs v t q is chain in
        subst (λ f. call.pre f (q.1, (x, tt))) func ((able.at xs [] x w come are refl).1 q.1 has);
  }

folded_then : {P A : Type 0} (R : P → A → P → Type 0) (us : List A) (p q : P) → FoldsTo R p us q → (xs : List A) (r : P) → FoldsTo R q xs r → FoldsTo R p (us ++ xs) r
folded_then R [] p q same xs r rest = subst (λ o. FoldsTo R o xs r) (sym same) rest
folded_then R (a ∷ us) p q (j, one, more) xs r rest = (j, one, folded_then R us j q more xs r rest)

module _ {S F T X : Type 0} (gives : S → List X → Type 0) (call : Mut F (T × (X × Unit {0})) T) (f : Fold S T F) (some : is_nothing f.folding.value ≡ false) where
  -- The stream has ended, and this is the value.
  pub fold_answers : (w : Folding T F) (last : T) → SiftsTo (never call) (FoldingSifts call) (MayCome gives f.stream) f.folding [] w → w.value ≡ Some last → FoldGives gives call f last
  fold_answers w last came has =
      let (t, is) = some_of f.folding.value some in
      let (u, whole, chain) = combined call came.items [] f.folding w t is came.sifted in record {
        first = t;
        value = is;
        items = came.items;
        may = came.may;
        after = w.f;
        folded = subst (λ r. FoldsTo (Combines call) (f.folding.f, t) came.items (w.f, r)) (some_inj u last (sym whole ∙ has)) chain;
      }

  -- It waits, and gives no more than before.
  pub fold_waits : (g : Fold S T F) → Taken (never call) (FoldingSifts call) (MayCome gives f.stream) (MayCome gives g.stream) f.folding g.folding → (last : T) → FoldGives gives call g last → FoldGives gives call f last
  fold_waits g taken last later =
      let (t, is) = some_of f.folding.value some in
      let (u, has, chain) = combined call taken.items [] f.folding g.folding t is taken.sifted in
      let next : FoldsTo (Combines call) (g.folding.f, u) later.items (later.after, last) =
      subst (λ r. FoldsTo (Combines call) (g.folding.f, r) later.items (later.after, last)) (some_inj later.first u (sym later.value ∙ has)) later.folded in record {
        first = t;
        value = is;
        items = taken.items ++ later.items;
        may = taken.follow later.items later.may;
        after = later.after;
        folded = folded_then (Combines call) taken.items (f.folding.f, t) (g.folding.f, u) chain later.items (later.after, last) next;
      }

-- ---- collect

module _ {X : Type 0} where
  abbrev never_full : Collecting X → Bool
  never_full v = false

  kept_on : (x : X) (xs : List X) (y : Option X) (v k w : Collecting X) (zs : List X) → CollectSifts v.items x y k.items → [] ≡ cons_option y zs → AreSifted never_full CollectingSifts k xs zs w
      → (AreSifted never_full CollectingSifts k xs [] w → w.items.items ≡ k.items.items ++ xs) → w.items.items ≡ v.items.items ++ x ∷ xs
  kept_on x xs (Some y) v k w zs one are rest next = not_cons y zs are
  kept_on x xs None v k w zs one are rest next =
      next (subst (λ l. AreSifted never_full CollectingSifts k xs l w) (sym are) rest) ∙ (ap (λ l. l ++ xs) one ∙ append_assoc v.items.items (x ∷ []) xs)

  -- The items that were taken are kept.
  kept : (xs : List X) (v w : Collecting X) → AreSifted never_full CollectingSifts v xs [] w → w.items.items ≡ v.items.items ++ xs
  kept [] v w (none, same) = ap (λ k. k.items.items) same ∙ sym (append-nil v.items.items)
  kept (x ∷ xs) v w (unfinished, y, k, one, zs, are, rest) = kept_on x xs y v k w zs one are rest (kept xs k w)

module _ {S X : Type 0} (gives : S → List X → Type 0) (f : Collect S X) where
  -- The stream has ended, and these are its items.
  pub collect_answers : (w : Collecting X) (all : Vec X) → SiftsTo never_full CollectingSifts (MayCome gives f.stream) f.collecting [] w → all.items ≡ w.items.items → CollectGives gives f (Ok all)
  collect_answers w all came same = record { items = came.items; may = came.may; are = same ∙ kept came.items f.collecting w came.sifted }

  -- There was no memory for an item.
  pub collect_refuses : (t : S) (w : Collecting X) (some : Uncollected X) → Finds never_full CollectingSifts some.refused (MayCome gives f.stream) (MayCome gives t) f.collecting w → some.items.items ≡ w.items.items → CollectGives gives f (Err some)
  collect_refuses t w some found same =
      let front : some.items.items ≡ f.collecting.items.items ++ found.items = same ∙ (found.sifted.1 ∙ kept found.items f.collecting found.sieve found.passed) in record {
        items = found.items ++ found.item ∷ [];
        may = found.follow [] tt;
        are = ap (λ l. l ++ some.refused ∷ []) front ∙ (ap (λ x. (f.collecting.items.items ++ found.items) ++ x ∷ []) found.sifted.0 ∙ append_assoc f.collecting.items.items found.items (found.item ∷ []));
      }

  -- It waits, and gives no more than before.
  pub collect_waits : (g : Collect S X) → Taken never_full CollectingSifts (MayCome gives f.stream) (MayCome gives g.stream) f.collecting g.collecting → (answer : Result (Vec X) (Uncollected X)) → CollectGives gives g answer → CollectGives gives f answer
  collect_waits g taken answer later = record {
    items = taken.items ++ later.items;
    may = taken.follow later.items later.may;
    are = later.are ∙ (ap (λ l. l ++ later.items) (kept taken.items f.collecting g.collecting taken.sifted) ∙ append_assoc f.collecting.items.items taken.items later.items);
  }
