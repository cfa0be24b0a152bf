-- The items that a sieve takes, and the values that may come.
use Rattle.std.proofs.Common.{◌≡◌, Bool, false, List, [], ◌∷◌, ◌++◌, Option, Some, None, refl, sym, ap, subst, ◌∙◌}
use Rattle.std.specs.List.{cons_option}
use Rattle.std.proofs.lemmas.List.{append_assoc, append-nil}
use Rattle.mono_stream.specs.Comes.{MayCome}
use Rattle.mono_stream.specs.SiftedComes.{AbleOver, SiftsTo, Taken, Finds, SiftedGives}
use Rattle.mono_stream.specs.SiftedItems.{AreSifted}
use Rattle.mono_stream.specs.declared.sifts.Sifted.{Sifted}
use Rattle.mono_stream.proofs.ComeLemmas.{any_come}

cons_append : {Y : Type 0} (y : Option Y) (ys zs : List Y) → cons_option y ys ++ zs ≡ cons_option y (ys ++ zs)
cons_append (Some y) ys zs = refl
cons_append None ys zs = refl

module _ {V X Y : Type 0} (done : V → Bool) (sifts : V → X → Option Y → V → Type 0) where
  -- Items after items.
  pub sifted_then : (us : List X) (v w : V) (bs : List Y) → AreSifted done sifts v us bs w → (xs : List X) (ys : List Y) (u : V) → AreSifted done sifts w xs ys u → AreSifted done sifts v (us ++ xs) (bs ++ ys) u
  sifted_then [] v w bs (none, same) xs ys u rest =
      subst (λ l. AreSifted done sifts v xs (l ++ ys) u) (sym none) (subst (λ k. AreSifted done sifts k xs ys u) same rest)
  sifted_then (a ∷ us) v w bs (unfinished, y, k, one, zs, are, more) xs ys u rest =
      (unfinished, y, k, one, zs ++ ys, ap (λ l. l ++ ys) are ∙ cons_append y zs ys, sifted_then us k w zs more xs ys u rest)

  pub none_taken : (Come : List X → Type 0) (v : V) → Taken done sifts Come Come v v
  none_taken Come v = record { items = []; follow = λ xs h. h; sifted = (refl, refl) }

  pub able_here : {S : Type 0} (can_sift : V → X → Type 0) (gives : S → List X → Type 0) (s t : S) (v : V) (x : X) → AbleOver done sifts can_sift gives s v → ((xs : List X) → MayCome gives t xs → MayCome gives s (x ∷ xs)) → MayCome gives t [] → done v ≡ false → can_sift v x
  able_here can_sift gives s t v x able follow none unfinished = able.at [] [] x v (follow [] none) (refl, refl) unfinished

  module _ {S : Type 0} (can_sift : V → X → Type 0) (gives : S → List X → Type 0) (s t : S) (v w : V) where
    pub able_after : (x : X) (y : Option Y) → AbleOver done sifts can_sift gives s v → ((xs : List X) → MayCome gives t xs → MayCome gives s (x ∷ xs)) → done v ≡ false → sifts v x y w → AbleOver done sifts can_sift gives t w
    able_after x y able follow unfinished one =
        record { at = λ xs ys z u come chain last. able.at (x ∷ xs) (cons_option y ys) z u (follow (xs ++ z ∷ []) come) (unfinished, y, w, one, ys, refl, chain) last }

    pub able_still : AbleOver done sifts can_sift gives s v → ((xs : List X) → MayCome gives t xs → MayCome gives s xs) → w ≡ v → AbleOver done sifts can_sift gives t w
    able_still able follow same =
        record { at = λ xs ys z u come chain last. able.at xs ys z u (follow (xs ++ z ∷ []) come) (subst (λ k. AreSifted done sifts k xs ys u) same chain) last }

  module _ (Before Now Later : List X → Type 0) (v k w : V) where
    pub taken_more : (x : X) → Taken done sifts Before Now v k → ((xs : List X) → Later xs → Now (x ∷ xs)) → done k ≡ false → sifts k x None w → Taken done sifts Before Later v w
    taken_more x taken follow unfinished one = record {
      items = taken.items ++ x ∷ [];
      follow = λ xs h. subst Before (sym (append_assoc taken.items (x ∷ []) xs)) (taken.follow (x ∷ xs) (follow xs h));
      sifted = sifted_then taken.items v k [] taken.sifted (x ∷ []) [] w (unfinished, None, w, one, [], refl, (refl, refl));
    }

    pub finds : (x : X) (y : Y) → Taken done sifts Before Now v k → ((xs : List X) → Later xs → Now (x ∷ xs)) → done k ≡ false → sifts k x (Some y) w → Finds done sifts y Before Later v w
    finds x y taken follow unfinished one = record {
      items = taken.items;
      item = x;
      follow = λ xs h. taken.follow (x ∷ xs) (follow xs h);
      sieve = k;
      passed = taken.sifted;
      unfinished = unfinished;
      sifted = one;
    }

  module _ (Before Now Later : List X → Type 0) (v k : V) where
    pub taken_still : Taken done sifts Before Now v k → ((xs : List X) → Later xs → Now xs) → Taken done sifts Before Later v k
    taken_still taken follow = record { items = taken.items; follow = λ xs h. taken.follow xs (follow xs h); sifted = taken.sifted }

  module _ (Before Now : List X → Type 0) (v k : V) where
    pub taken_all : Taken done sifts Before Now v k → Now [] → SiftsTo done sifts Before v [] k
    taken_all taken now = record { items = taken.items; may = subst Before (append-nil taken.items) (taken.follow [] now); sifted = taken.sifted }

  module _ {S : Type 0} (gives : S → List X → Type 0) (m n : Sifted S V) where
    none_sifted : SiftedGives gives done sifts n []
    none_sifted = record { items = []; may = tt; after = n.sieve; sifted = (refl, refl) }

    pub found_on : (y : Y) → Finds done sifts y (MayCome gives m.stream) (MayCome gives n.stream) m.sieve n.sieve → (ys : List Y) → MayCome (SiftedGives gives done sifts) n ys → SiftedGives gives done sifts m (y ∷ ys)
    found_on y found ys may =
        let later = any_come (SiftedGives gives done sifts) n none_sifted ys may in
        record {
          items = found.items ++ found.item ∷ later.items;
          may = found.follow later.items later.may;
          after = later.after;
          sifted = sifted_then found.items m.sieve found.sieve [] found.passed (found.item ∷ later.items) (y ∷ ys) later.after (found.unfinished, Some y, n.sieve, found.sifted, ys, refl, later.sifted);
        }

    pub taken_on : Taken done sifts (MayCome gives m.stream) (MayCome gives n.stream) m.sieve n.sieve → (y : Y) (ys : List Y) → SiftedGives gives done sifts n (y ∷ ys) → SiftedGives gives done sifts m (y ∷ ys)
    taken_on taken y ys later = record {
      items = taken.items ++ later.items;
      may = taken.follow later.items later.may;
      after = later.after;
      sifted = sifted_then taken.items m.sieve n.sieve [] taken.sifted later.items (y ∷ ys) later.after later.sifted;
    }
