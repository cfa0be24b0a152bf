-- The lists of a wheel after a key goes in or out.
use Rattle.std.proofs.Common.{arith, ◌≡◌, ◌≢◌, zero, suc, ℕ, ◌<◌, ◌≤◌, ◌⊎◌, inl, inr, length, Bool, true, false, List, [], ◌∷◌, map, Option, Some, None, get_or, set, ap, refl, sym, ◌∙◌, subst, get_or-set_same, get_or-set_other, length-set, is_some}
use Rattle.std.proofs.lemmas.Bool.Decides.{eqb_tells}
use Rattle.std.specs.Prelude.{replicate}
use Rattle.mono_wheel.specs.Rings.{at}
use Rattle.mono_wheel.specs.Lists.{Lists, IsIn, IsListed, with_list, without, list_at, is_node}
use Rattle.mono_wheel.specs.Model.{Timed, Wheel, Changed, Precedes, StandsBehind, Fits, timed_at, Extended}
use Rattle.mono_wheel.specs.Holdings.{place_of, place_in, timed_of, timed_in, StandsIn, Held}
use Rattle.mono_wheel.specs.declared.entry.Entry.{Entry}
use Rattle.mono_wheel.proofs.ChainLemmas.{is_in_equal, without-in, without-stays}
use Rattle.mono_wheel.proofs.RingLemmas.{false-true}
use Rattle.mono_wheel.proofs.PlaceLemmas.{place_of-below, place_in-below, place-ahead}
use Rattle.mono_wheel.proofs.KeyLemmas.{none_of, some_of, timed-here, timed-other, entry-in, entry-inside, entry-below}
use Rattle.mono_wheel.proofs.OrderLemmas.{behind-pushed, behind-removed}
use Rattle.mono_wheel.specs.Start.{slot_count, taken_list, list_count}
use Rattle.mono_wheel.specs.Counts.{Moves}

-- One key has other ticks, and is in the list of its ticks.
held-changed : (elapsed : ℕ) (entries : List Entry) (links new : Lists) (key : ℕ) (x : Entry) → Held elapsed entries links → key < length entries →
    length new.lists ≡ length links.lists → new.nodes ≡ links.nodes →
    ((k l : ℕ) → IsIn k (list_at new l) → ((k ≡ key) × StandsIn elapsed l (timed_of x)) ⊎ ((k ≢ key) × IsIn k (list_at links l))) →
    ((k l : ℕ) → k ≢ key → IsIn k (list_at links l) → IsIn k (list_at new l)) →
    ((l : ℕ) → StandsIn elapsed l (timed_of x) → IsIn key (list_at new l)) →
    Fits elapsed (timed_of x) →
    Held elapsed (set entries key x) new
held-changed elapsed entries links new key x h below lists nodes came stay put fits = record {
  lists = lists ∙ h.lists;
  within = λ k l i. elim (came k l i) [
    | inl t ↦ subst (λ z. StandsIn elapsed l (timed_in (set entries key x) z)) (sym t.0) (subst (StandsIn elapsed l) (sym (timed-here entries key x below)) t.1)
    | inr t ↦ subst (StandsIn elapsed l) (sym (timed-other entries key k x t.0)) (h.within k l t.1)
  ];
  found = λ k l s. elim (eqb_tells k key) [
    | inl t ↦ is_in_equal key k (list_at new l) (sym t.1) (put l (subst (StandsIn elapsed l) (timed-here entries key x below) (subst (λ z. StandsIn elapsed l (timed_in (set entries key x) z)) t.1 s)))
    | inr t ↦ stay k l t.1 (h.found k l (subst (StandsIn elapsed l) (timed-other entries key k x t.1) s))
  ];
  fits = λ k. elim (eqb_tells k key) [
    | inl t ↦ subst (λ z. Fits elapsed (timed_in (set entries key x) z)) (sym t.1) (subst (Fits elapsed) (sym (timed-here entries key x below)) fits)
    | inr t ↦ subst (Fits elapsed) (sym (timed-other entries key k x t.1)) (h.fits k)
  ];
  room = λ k n. let b = h.room k (subst (λ bs. get_or bs k false ≡ true) nodes n) in let e = length-set entries key x in omega (arith, b, e);
}

pub list-same : (v : Lists) (l : ℕ) (xs : List ℕ) → l < length v.lists → list_at (with_list v l xs) l ≡ xs
list-same v l xs b = get_or-set_same v.lists l xs [] b

pub list-other : (v : Lists) (l m : ℕ) (xs : List ℕ) → m ≢ l → list_at (with_list v l xs) m ≡ list_at v m
list-other v l m xs ne = get_or-set_other v.lists l m xs [] ne

-- the entry of a key that goes in
pub timed-ahead : (elapsed tick : ℕ) → elapsed < tick → timed_of record { tick = tick; registered = tick } ≡ Some record { tick = tick; registered = tick }
timed-ahead elapsed tick ahead = some_of record { tick = tick; registered = tick } (λ z. omega (arith, z, ahead))

pub held-inserted : (elapsed : ℕ) (entries : List Entry) (links new : Lists) (key list tick : ℕ) → Held elapsed entries links → is_node links key ≡ true → timed_in entries key ≡ None →
    elapsed < tick → list ≡ place_of elapsed tick → new ≡ with_list links list (key ∷ list_at links list) →
    Held elapsed (set entries key record { tick = tick; registered = tick }) new
held-inserted elapsed entries links new key list tick h known out ahead place is =
    let here : place_in elapsed tick ≡ place_of elapsed tick = place-ahead elapsed tick (λ e. omega (arith, ahead, e)) in
    let b : place_of elapsed tick < slot_count = place_of-below elapsed tick in
    let low : list < length links.lists = let n = h.lists in omega (arith, place, b, n) in
    let new : timed_of record { tick = tick; registered = tick } ≡ Some record { tick = tick; registered = tick } = timed-ahead elapsed tick ahead in
    let no : (k l : ℕ) → IsIn k (list_at links l) → k ≢ key = λ k l i e. subst (StandsIn elapsed l) (ap (timed_in entries) e ∙ out) (h.within k l i) in
    subst (Held elapsed _) (sym is)
    (held-changed elapsed entries links _ key _ h (h.room key known) (length-set links.lists list (key ∷ list_at links list)) refl
    (λ k l i. elim (eqb_tells l list) [
      | inl t ↦ elim (subst (λ zs. IsIn k zs) (ap (list_at (with_list links list (key ∷ list_at links list))) t.1 ∙ list-same links list _ low) i) [
        | inl e ↦ inl (e, subst (StandsIn elapsed l) (sym new) (t.1 ∙ place ∙ sym here))
        | inr j ↦ inr (no k list j, subst (λ z. IsIn k (list_at links z)) (sym t.1) j)
      ]
      | inr t ↦ let j = subst (λ zs. IsIn k zs) (list-other links list l _ t.1) i in inr (no k l j, j)
    ])
    (λ k l ne i. elim (eqb_tells l list) [
      | inl t ↦ subst (λ zs. IsIn k zs) (sym (ap (list_at (with_list links list (key ∷ list_at links list))) t.1 ∙ list-same links list _ low)) (inr (subst (λ z. IsIn k (list_at links z)) t.1 i))
      | inr t ↦ subst (λ zs. IsIn k zs) (sym (list-other links list l _ t.1)) i
    ])
    (λ l s. let e : l ≡ list = subst (StandsIn elapsed l) new s ∙ here ∙ sym place in subst (λ zs. IsIn key zs) (sym (ap (list_at (with_list links list (key ∷ list_at links list))) e ∙ list-same links list _ low)) (inl refl))
    (subst (Fits elapsed) (sym new) (inr (ahead, omega arith))))

-- The same, if the key may be pending.
pub held-put : (elapsed : ℕ) (entries : List Entry) (links new : Lists) (key list tick : ℕ) → Held elapsed entries links → is_node links key ≡ true → timed_in entries key ≡ None →
    elapsed ≤ tick → 0 < tick → list ≡ place_in elapsed tick → new ≡ with_list links list (key ∷ list_at links list) →
    Held elapsed (set entries key record { tick = tick; registered = tick }) new
held-put elapsed entries links new key list tick h known out ahead some place is =
    let b = place_in-below elapsed tick in
    let low : list < length links.lists = let n = h.lists in omega (arith, place, b, n) in
    let new : timed_of record { tick = tick; registered = tick } ≡ Some record { tick = tick; registered = tick } = some_of record { tick = tick; registered = tick } (λ z. omega (arith, z, some)) in
    let no : (k l : ℕ) → IsIn k (list_at links l) → k ≢ key = λ k l i e. subst (StandsIn elapsed l) (ap (timed_in entries) e ∙ out) (h.within k l i) in
    subst (Held elapsed _) (sym is)
    (held-changed elapsed entries links _ key _ h (h.room key known) (length-set links.lists list (key ∷ list_at links list)) refl
    (λ k l i. elim (eqb_tells l list) [
      | inl t ↦ elim (subst (λ zs. IsIn k zs) (ap (list_at (with_list links list (key ∷ list_at links list))) t.1 ∙ list-same links list _ low) i) [
        | inl e ↦ inl (e, subst (StandsIn elapsed l) (sym new) (t.1 ∙ place))
        | inr j ↦ inr (no k list j, subst (λ z. IsIn k (list_at links z)) (sym t.1) j)
      ]
      | inr t ↦ let j = subst (λ zs. IsIn k zs) (list-other links list l _ t.1) i in inr (no k l j, j)
    ])
    (λ k l ne i. elim (eqb_tells l list) [
      | inl t ↦ subst (λ zs. IsIn k zs) (sym (ap (list_at (with_list links list (key ∷ list_at links list))) t.1 ∙ list-same links list _ low)) (inr (subst (λ z. IsIn k (list_at links z)) t.1 i))
      | inr t ↦ subst (λ zs. IsIn k zs) (sym (list-other links list l _ t.1)) i
    ])
    (λ l s. let e : l ≡ list = subst (StandsIn elapsed l) new s ∙ sym place in subst (λ zs. IsIn key zs) (sym (ap (list_at (with_list links list (key ∷ list_at links list))) e ∙ list-same links list _ low)) (inl refl))
    (subst (Fits elapsed) (sym new) (elim (eqb_tells tick elapsed) [
      | inl e ↦ inl (e.1, e.1)
      | inr e ↦ inr (let n = e.1 in omega (arith, ahead, n), omega arith)
    ])))

pub held-removed : (elapsed : ℕ) (entries : List Entry) (links new : Lists) (key list : ℕ) (x : Entry) → Held elapsed entries links → key < length entries →
    list < length links.lists → StandsIn elapsed list (timed_in entries key) → new ≡ with_list links list (without key (list_at links list)) → (IsIn key (list_at new list) → ⊥) → x.tick ≡ 0 →
    ((l : ℕ) → StandsIn elapsed l (timed_in entries key) → l ≡ list) →
    Held elapsed (set entries key x) new
held-removed elapsed entries links new key list x h below low stands is gone out one =
    let none : timed_of x ≡ None = none_of x out in
    let here : list_at new list ≡ without key (list_at links list) = ap (λ v. list_at v list) is ∙ list-same links list _ low in
    let there : (l : ℕ) → l ≢ list → list_at new l ≡ list_at links l = λ l ne. ap (λ v. list_at v l) is ∙ list-other links list l _ ne in
    held-changed elapsed entries links new key x h below (ap (λ v. length v.lists) is ∙ length-set links.lists list (without key (list_at links list))) (ap (λ v. v.nodes) is)
    (λ k l i. elim (eqb_tells l list) [
      | inl t ↦ inr ((λ e. gone (subst (λ z. IsIn key (list_at new z)) t.1 (is_in_equal k key _ e i))), subst (λ z. IsIn k (list_at links z)) (sym t.1) (without-in k key _ (subst (λ zs. IsIn k zs) (ap (list_at new) t.1 ∙ here) i)))
      | inr t ↦ let j = subst (λ zs. IsIn k zs) (there l t.1) i in inr ((λ e. t.1 (one l (subst (λ z. StandsIn elapsed l (timed_in entries z)) e (h.within k l j)))), j)
    ])
    (λ k l ne i. elim (eqb_tells l list) [
      | inl t ↦ subst (λ zs. IsIn k zs) (sym (ap (list_at new) t.1 ∙ here)) (without-stays k key _ ne (subst (λ z. IsIn k (list_at links z)) t.1 i))
      | inr t ↦ subst (λ zs. IsIn k zs) (sym (there l t.1)) i
    ])
    (λ l s. absurd (subst (StandsIn elapsed l) none s))
    (subst (Fits elapsed) (sym none) tt)

true-false : true ≡ false → ⊥
true-false h = false-true (sym h)

pub empty_at : (n l : ℕ) → at (replicate n []) l ≡ []
empty_at zero l = refl
empty_at (suc n) zero = refl
empty_at (suc n) (suc l) = empty_at n l

-- a new wheel
pub held-new : (links : Lists) → links.lists ≡ replicate list_count [] → ((k : ℕ) → is_node links k ≡ false) → Held 0 [] links
held-new links e none = record {
  lists = ap length e ∙ refl;
  within = λ k l i. subst (λ zs. IsIn k zs) (ap (λ ls. get_or ls l []) e ∙ empty_at list_count l) i;
  found = λ k l s. absurd s;
  fits = λ k. tt;
  room = λ k n. absurd (true-false (sym n ∙ none k));
}

-- The view once one entry was written.
pub changed-entry : {moves moves2 : Moves} (elapsed : ℕ) (entries : List Entry) (nodes nodes2 : List Bool) (lines lines2 : List (List ℕ)) (v : Wheel) (key : ℕ) (x : Entry) →
    (let w : Wheel = record { elapsed = elapsed; entries = map timed_of entries; reserved = nodes; lines = lines; moves = moves } in w ≡ v) → key < length entries → nodes2 ≡ nodes →
    ((a b l : ℕ) → (a ≡ key → timed_of x ≡ timed_in entries key) → (b ≡ key → timed_of x ≡ timed_in entries key) → StandsBehind (at lines l) a b → StandsBehind (at lines2 l) a b) →
    Changed v (record { elapsed = elapsed; entries = map timed_of (set entries key x); reserved = nodes2; lines = lines2; moves = moves2 }) key (timed_of x)
changed-entry {moves} {moves2} elapsed entries nodes nodes2 lines lines2 v key x e below same keeps =
    let here : (a : ℕ) → a ≡ key → timed_in (set entries key x) a ≡ timed_in entries a → timed_of x ≡ timed_in entries key =
    λ a f s. sym (timed-here entries key x below) ∙ subst (λ z. timed_in (set entries key x) z ≡ timed_in entries z) f s in
    subst (λ w. Changed w (record { elapsed = elapsed; entries = map timed_of (set entries key x); reserved = nodes2; lines = lines2; moves = moves2 }) key (timed_of x)) e
    (record {
      here = timed-here entries key x below;
      others = λ k ne. timed-other entries key k x ne;
      order = λ a b p s t. record { line = p.line; behind = keeps a b p.line (λ f. here a f s) (λ f. here b f t) p.behind; same = s ∙ p.same ∙ sym t };
      elapsed = refl;
      reserved = same;
    })

pub keeps-pushed : (lines lines2 : List (List ℕ)) (list key : ℕ) → list < length lines → lines2 ≡ set lines list (key ∷ at lines list) →
    (a b l : ℕ) → StandsBehind (at lines l) a b → StandsBehind (at lines2 l) a b
keeps-pushed lines lines2 list key low is a b l h = subst (λ ls. StandsBehind (at ls l) a b) (sym is) (behind-pushed lines list key a b l low h)

pub keeps-removed : (lines lines2 : List (List ℕ)) (list key : ℕ) → list < length lines → lines2 ≡ set lines list (without key (at lines list)) →
    (a b l : ℕ) → a ≢ key → b ≢ key → StandsBehind (at lines l) a b → StandsBehind (at lines2 l) a b
keeps-removed lines lines2 list key low is a b l na nb h = subst (λ ls. StandsBehind (at ls l) a b) (sym is) (behind-removed lines list key a b l low na nb h)

-- A key that is registered at the tick of an inserted key comes out before it.
pub inserted-last : {moves moves2 : Moves} (elapsed : ℕ) (entries : List Entry) (links new : Lists) (v : Wheel) (key list tick : ℕ) → Held elapsed entries links →
    (let w : Wheel = record { elapsed = elapsed; entries = map timed_of entries; reserved = links.nodes; lines = links.lists; moves = moves } in w ≡ v) →
    timed_in entries key ≡ None → key < length entries → elapsed < tick → list ≡ place_of elapsed tick → new ≡ with_list links list (key ∷ list_at links list) →
    (let x : Entry = record { tick = tick; registered = tick } in
    let w : Wheel = record { elapsed = elapsed; entries = map timed_of (set entries key x); reserved = new.nodes; lines = new.lists; moves = moves2 } in
    (other : ℕ) → timed_at v other ≡ Some record { tick = tick; registered = tick } → Precedes w other key)
inserted-last {moves} {moves2} elapsed entries links new v key list tick h seen out below ahead place is other there =
    let timed : timed_in entries other ≡ Some record { tick = tick; registered = tick } = subst (λ w. timed_at w other ≡ Some record { tick = tick; registered = tick }) (sym seen) there in
    let apart : other ≢ key = λ e. absurd (let f : Some record { tick = tick; registered = tick } ≡ None = sym timed ∙ ap (timed_in entries) e ∙ out in cc) in
    let stands : StandsIn elapsed list (timed_in entries other) = subst (StandsIn elapsed list) (sym timed) (place ∙ sym (place-ahead elapsed tick (λ e. omega (arith, ahead, e)))) in
    let low : list < length links.lists = let b : place_of elapsed tick < slot_count = place_of-below elapsed tick in let n = h.lists in omega (arith, place, b, n) in
    record {
      line = list;
      behind = subst (λ w. StandsBehind (list_at w list) other key) (sym is) (subst (λ zs. StandsBehind zs other key) (sym (list-same links list (key ∷ list_at links list) low)) (inl (refl, h.found other list stands)));
      same = timed-other entries key other _ apart ∙ timed ∙ sym (timed-here entries key record { tick = tick; registered = tick } below ∙ timed-ahead elapsed tick ahead);
    }

-- The list of a key that is in.
pub entry-stands : (elapsed : ℕ) (entries : List Entry) (key list : ℕ) (x : Entry) → (timed_in entries key ≡ None → ⊥) → x ≡ get_or entries key x →
    list ≡ place_in elapsed x.registered →
    StandsIn elapsed list (timed_in entries key) × (list < taken_list) × ((l : ℕ) → StandsIn elapsed l (timed_in entries key) → l ≡ list)
entry-stands elapsed entries key list x some e place =
    let timed = entry-in entries key x (entry-below entries key some) e some in
    let b = place_in-below elapsed x.registered in (
      subst (StandsIn elapsed list) (sym timed) place,
      omega (arith, b, place),
      (λ l s. subst (StandsIn elapsed l) timed s ∙ sym place),
    )

fits-ahead : (elapsed : ℕ) (timed : Timed) → timed.tick ≢ elapsed → Fits elapsed (Some timed) → (elapsed < timed.registered) × (timed.registered ≤ timed.tick)
fits-ahead elapsed timed ne (inl h) = absurd (ne h.1)
fits-ahead elapsed timed ne (inr h) = h

-- a key in a slot is due later
pub held-extended : (elapsed : ℕ) (entries : List Entry) (links : Lists) (key tick : ℕ) (x : Entry) → Held elapsed entries links →
    (timed_in entries key ≡ None → ⊥) → x ≡ get_or entries key x → x.tick ≢ elapsed → x.tick ≤ tick →
    Held elapsed (set entries key record { tick = tick; registered = x.registered }) links
held-extended elapsed entries links key tick x h some e apart later =
    let below = entry-below entries key some in
    let timed = entry-in entries key x below e some in
    let inside : x.tick ≢ 0 = entry-inside entries key x below e some in
    let new : timed_of record { tick = tick; registered = x.registered } ≡ Some record { tick = tick; registered = x.registered } = some_of record { tick = tick; registered = x.registered } (λ z. inside (omega (arith, z, later))) in
    let ahead = fits-ahead elapsed _ apart (subst (Fits elapsed) timed (h.fits key)) in
    held-changed elapsed entries links links key _ h below refl refl
    (λ k l i. elim (eqb_tells k key) [
      | inl t ↦ inl (t.1, subst (StandsIn elapsed l) (sym new) (subst (StandsIn elapsed l) timed (subst (λ z. StandsIn elapsed l (timed_in entries z)) t.1 (h.within k l i))))
      | inr t ↦ inr (t.1, i)
    ])
    (λ k l ne i. i)
    (λ l s. h.found key l (subst (StandsIn elapsed l) (sym timed) (subst (StandsIn elapsed l) new s)))
    (subst (Fits elapsed) (sym new) (inr (ahead.0, let b = ahead.1 in omega (arith, b, later))))

pub seen-extended : {moves moves2 : Moves} (elapsed : ℕ) (entries : List Entry) (nodes : List Bool) (lines : List (List ℕ)) (v : Wheel) (key tick : ℕ) (x : Entry) →
    (let w : Wheel = record { elapsed = elapsed; entries = map timed_of entries; reserved = nodes; lines = lines; moves = moves } in w ≡ v) →
    (timed_in entries key ≡ None → ⊥) → x ≡ get_or entries key x → x.tick ≢ elapsed → x.tick ≤ tick →
    (let new : Entry = record { tick = tick; registered = x.registered } in
    let w : Wheel = record { elapsed = elapsed; entries = map timed_of (set entries key new); reserved = nodes; lines = lines; moves = moves2 } in Extended v w key tick true)
seen-extended {moves} {moves2} elapsed entries nodes lines v key tick x seen some e apart later =
    let below = entry-below entries key some in
    let timed = entry-in entries key x below e some in
    let inside : x.tick ≢ 0 = entry-inside entries key x below e some in
    let new : timed_of record { tick = tick; registered = x.registered } ≡ Some record { tick = tick; registered = x.registered } = some_of record { tick = tick; registered = x.registered } (λ z. inside (omega (arith, z, later))) in (
      record { tick = x.tick; registered = x.registered },
      subst (λ w. timed_at w key ≡ Some record { tick = x.tick; registered = x.registered }) seen timed,
      subst (λ w. x.tick ≢ w.elapsed) seen apart,
      later,
      subst (λ z. Changed v (record { elapsed = elapsed; entries = map timed_of (set entries key record { tick = tick; registered = x.registered }); reserved = nodes; lines = lines; moves = moves2 }) key z) new
          (changed-entry elapsed entries nodes nodes lines lines v key _ seen below refl (λ a b l f g h. h)),
    )

-- entries that are not in were added
pub held-grown : (elapsed : ℕ) (entries entries2 : List Entry) (links new : Lists) → Held elapsed entries links →
    ((k : ℕ) → timed_in entries2 k ≡ timed_in entries k) → new.lists ≡ links.lists → ((k : ℕ) → is_node new k ≡ true → k < length entries2) → Held elapsed entries2 new
held-grown elapsed entries entries2 links new h same lists room = record {
  lists = ap length lists ∙ h.lists;
  within = λ k l i. subst (StandsIn elapsed l) (sym (same k)) (h.within k l (subst (λ ls. IsIn k (at ls l)) lists i));
  found = λ k l s. subst (λ ls. IsIn k (at ls l)) (sym lists) (h.found k l (subst (StandsIn elapsed l) (same k) s));
  fits = λ k. subst (Fits elapsed) (sym (same k)) (h.fits k);
  room = room;
}

absent : (elapsed : ℕ) (o : Option Timed) → ((l : ℕ) → StandsIn elapsed l o → ⊥) → o ≡ None
absent elapsed None none = refl
absent elapsed (Some timed) none = absurd (none (place_in elapsed timed.registered) refl)

-- a key that no list has is not in
pub out-of-lists : (elapsed : ℕ) (entries : List Entry) (links : Lists) (key : ℕ) → Held elapsed entries links → ((l : ℕ) → IsIn key (list_at links l) → ⊥) → timed_in entries key ≡ None
out-of-lists elapsed entries links key h none = absent elapsed (timed_in entries key) (λ l s. none l (h.found key l s))

-- a key that is in is a known node
pub in-known : (elapsed : ℕ) (entries : List Entry) (links : Lists) (key : ℕ) → Held elapsed entries links → (IsListed links key → is_node links key ≡ true) → is_some (timed_in entries key) ≡ true → is_node links key ≡ true
in-known elapsed entries links key h known there = by (timed_in entries key) refl there
  where
    by : (o : Option Timed) → timed_in entries key ≡ o → is_some o ≡ true → is_node links key ≡ true
    by None e t = absurd (false-true t)
    by (Some timed) e t = known (place_in elapsed timed.registered, h.found key (place_in elapsed timed.registered) (subst (StandsIn elapsed (place_in elapsed timed.registered)) (sym e) refl))
