-- A key that is due first, and alone in its turn of the top level, comes out at its tick at once.
use Rattle.std.proofs.Common.{arith, ◌≡◌, ◌≢◌, ℕ, ◌+◌, ◌<◌, ◌≤◌, inl, inr, length, List, [], ◌∷◌, map, Option, Some, None, get_or, set, ap, refl, sym, ◌∙◌, subst}
use Rattle.std.proofs.lemmas.Bool.Decides.{eqb_tells}
use Rattle.mono_wheel.specs.Start.{above, top_level, slot_count}
use Rattle.mono_wheel.specs.Lists.{Lists, IsIn, with_list, without, list_at, no_entry}
use Rattle.mono_wheel.specs.Model.{Timed, Wheel, StandsBehind, CameOut, timed_after}
use Rattle.mono_wheel.specs.Credit.{takes, credit_of}
use Rattle.mono_wheel.specs.Skips.{at_tick}
use Rattle.mono_wheel.specs.Holdings.{place_of, timed_of, timed_in, StandsIn, Held}
use Rattle.mono_wheel.specs.Leap.{IsFar, IsFirstFar}
use Rattle.mono_wheel.specs.declared.entry.Entry.{Entry}
use Rattle.mono_wheel.proofs.PlaceLemmas.{place-ahead, place_of-below}
use Rattle.mono_wheel.proofs.KeyLemmas.{none_of, timed-here, timed-other, entry-below, entry-in, read-in}
use Rattle.mono_wheel.proofs.DueLemmas.{stands-one}
use Rattle.mono_wheel.proofs.OrderLemmas.{behind-lower, behind-upper}
use Rattle.mono_wheel.proofs.HoldingLemmas.{held-removed, keeps-removed, list-same}
use Rattle.mono_wheel.proofs.CreditLemmas.{credit-entry}
use Rattle.mono_wheel.proofs.LeapLemmas.{ahead-of, leap-held, leap-advanced, credit-falls}
use Rattle.mono_wheel.specs.Counts.{Moves, no_moves}
use Rattle.mono_wheel.proofs.HopLemmas.{takes-hop}

-- a key that is twice in a list is in it once it was removed
behind-twice : (xs : List ℕ) (key : ℕ) → StandsBehind xs key key → IsIn key (without key xs)
behind-twice [] key h = absurd h
behind-twice (x ∷ xs) key h = elim (eqb_tells key x) [
  | inl e ↦ rw e.0 (elim h [ inl t ↦ t.1 | inr t ↦ behind-lower xs key key t ])
  | inr e ↦ rw e.0 (elim h [ inl t ↦ absurd (e.1 (sym t.0)) | inr t ↦ inr (behind-twice xs key t) ])
]

-- a key does not stand before itself
pub never-twice : (elapsed key list : ℕ) (entries : List Entry) (links new : Lists) → Held elapsed entries links → StandsIn elapsed list (timed_in entries key) → list < length links.lists →
    new ≡ with_list links list (without key (list_at links list)) → (IsIn key (list_at new list) → ⊥) → (line : ℕ) → StandsBehind (list_at links line) key key → ⊥
never-twice elapsed key list entries links new h stands low is gone line b =
    let line_is : line ≡ list = stands-one elapsed line list (timed_in entries key) (h.within key line (behind-upper (list_at links line) key key b)) stands in
    gone (subst (λ zs. IsIn key zs) (sym (ap (λ w. list_at w list) is ∙ list-same links list (without key (list_at links list)) low)) (behind-twice (list_at links list) key (subst (λ l. StandsBehind (list_at links l) key key) line_is b)))

-- What `IsFirstFar` says of the entries, with the tick that is read from them.
pub record FirstAt (elapsed : ℕ) (entries : List Entry) (now key tick : ℕ) : Type 0 where
  pub is : timed_in entries key ≡ at_tick tick
  pub by : tick ≤ now
  pub ahead : above top_level elapsed < above top_level tick
  pub others : (other : ℕ) → other ≢ key → IsFar tick (timed_in entries other)

abbrev tick_or : Option Timed → ℕ
tick_or None = 0
tick_or (Some timed) = timed.tick

pub first-in : {moves : Moves} (elapsed : ℕ) (entries : List Entry) (links : Lists) (now key : ℕ) (x : Entry) → x ≡ get_or entries key no_entry
    → IsFirstFar (record { elapsed = elapsed; entries = map timed_of entries; reserved = links.nodes; lines = links.lists; moves = moves }) now key → FirstAt elapsed entries now key x.tick
first-in elapsed entries links now key x read f =
    let some : timed_in entries key ≡ None → ⊥ = λ e. (let z : at_tick f.tick ≡ None = sym f.is ∙ e in cc) in
    let below = entry-below entries key some in
    let was = entry-in entries key x below (read-in entries key x no_entry below read) some in
    let same : x.tick ≡ f.tick = ap tick_or (sym was ∙ f.is) in
    record {
      is = f.is ∙ ap at_tick (sym same);
      by = subst (λ t. t ≤ now) (sym same) f.by;
      ahead = subst (λ t. above top_level elapsed < above top_level t) (sym same) f.ahead;
      others = λ other ne. subst (λ t. IsFar t (timed_in entries other)) (sym same) (f.others other ne);
    }

module _ (elapsed key tick list : ℕ) (entries : List Entry) (links : Lists) (out : Entry) (h : Held elapsed entries links)
    (was : timed_in entries key ≡ at_tick tick) (up : above top_level elapsed < above top_level tick)
    (others : (other : ℕ) → other ≢ key → IsFar tick (timed_in entries other))
    (empty : out.tick ≡ 0) (place : list ≡ place_of elapsed tick) where
  ahead : elapsed < tick
  ahead = ahead-of elapsed tick up

  later : elapsed ≤ tick
  later = let a = ahead in omega (arith, a)

  some : timed_in entries key ≡ None → ⊥
  some e = let f : at_tick tick ≡ None = sym was ∙ e in cc

  pub far-below : key < length entries
  far-below = entry-below entries key some

  stands : StandsIn elapsed list (timed_in entries key)
  stands = subst (StandsIn elapsed list) (sym was) (place ∙ sym (place-ahead elapsed tick (λ f. let a = ahead in omega (arith, f, a))))

  pub far-inside : IsIn key (list_at links list)
  far-inside = h.found key list stands

  pub far-low : list < length links.lists
  far-low = let n = h.lists in let b : place_of elapsed tick < slot_count = place_of-below elapsed tick in omega (arith, b, n, place)

  module _ (new : Lists) (is : new ≡ with_list links list (without key (list_at links list))) (gone : IsIn key (list_at new list) → ⊥) where
    held-out : Held elapsed (set entries key out) new
    held-out = held-removed elapsed entries links new key list out h far-below far-low stands is gone empty (λ l s. stands-one elapsed l list (timed_in entries key) s stands)

    left-far : (k : ℕ) → IsFar tick (timed_in (set entries key out) k)
    left-far k = elim (eqb_tells k key) [
      | inl e ↦ subst (IsFar tick) (sym (ap (timed_in (set entries key out)) e.1 ∙ timed-here entries key out far-below ∙ none_of out empty)) tt
      | inr e ↦ subst (IsFar tick) (sym (timed-other entries key k out e.1)) (others k e.1)
    ]

    pub far-held : Held tick (set entries key out) new
    far-held = leap-held elapsed tick (set entries key out) new held-out later left-far

    after : (k : ℕ) → k ≢ key → timed_in (set entries key out) k ≡ timed_after elapsed tick (timed_in entries k)
    after k ne =
        (leap-advanced elapsed tick (set entries key out) new held-out later left-far (record { elapsed = elapsed; entries = map timed_of (set entries key out); reserved = new.nodes; lines = new.lists; moves = no_moves }) refl).ticks k
        ∙ ap (timed_after elapsed tick) (timed-other entries key k out ne)

    first : (line other : ℕ) → StandsBehind (list_at links line) other key → timed_in entries other ≡ timed_in entries key → ⊥
    first line other b same = elim (eqb_tells other key) [
      | inl e ↦
          let line_is : line ≡ list = stands-one elapsed line list (timed_in entries key) (h.within key line (behind-upper (list_at links line) other key b)) stands in
          let twice : StandsBehind (list_at links list) key key = subst (λ k. StandsBehind (list_at links list) k key) e.1 (subst (λ l. StandsBehind (list_at links l) other key) line_is b) in
          gone (subst (λ zs. IsIn key zs) (sym (ap (λ w. list_at w list) is ∙ list-same links list (without key (list_at links list)) far-low)) (behind-twice (list_at links list) key twice))
      | inr e ↦ let f = subst (IsFar tick) (same ∙ was) (others other e.1) in let g = f.1 in omega (arith, g)
    ]

    least : (other t : ℕ) (ticks : Timed) → timed_in entries other ≡ Some ticks → ticks.tick ≡ t → tick ≤ t
    least other t ticks there same = elim (eqb_tells other key) [
      | inl e ↦
          let f : Some ticks ≡ at_tick tick = sym there ∙ ap (timed_in entries) e.1 ∙ was in
          let g : ticks ≡ record { tick = tick; registered = tick } = cc in
          let k : ticks.tick ≡ tick = ap (λ z. z.tick) g in
          omega (arith, k, same)
      | inr e ↦ let f = subst (IsFar tick) there (others other e.1) in let l = ahead-of tick ticks.tick f.1 in omega (arith, l, same)
    ]

    pub far-came : {moves moves2 : Moves} (v : Wheel) (now : ℕ) → (let w : Wheel = record { elapsed = elapsed; entries = map timed_of entries; reserved = links.nodes; lines = links.lists; moves = moves } in w ≡ v) → tick ≤ now →
        CameOut v (record { elapsed = tick; entries = map timed_of (set entries key out); reserved = new.nodes; lines = new.lists; moves = moves2 }) now key
    far-came {moves} {moves2} v now seen by = subst (λ u. CameOut u (record { elapsed = tick; entries = map timed_of (set entries key out); reserved = new.nodes; lines = new.lists; moves = moves2 }) now key) seen (record {
      due = (record { tick = tick; registered = tick }, was, refl, by);
      least = λ other t due. least other t due.0 due.1 due.2;
      first = λ other p. first p.line other p.behind p.same;
      out = timed-here entries key out far-below ∙ none_of out empty;
      others = λ other ne. after other ne;
      order = λ a b na nb p. record {
        line = p.line;
        behind = keeps-removed links.lists new.lists list key far-low (ap (λ w. w.lists) is) a b p.line na nb p.behind;
        same = after a na ∙ ap (timed_after elapsed tick) p.same ∙ sym (after b nb);
      };
      reserved = ap (λ w. w.nodes) is;
    })

    pub far-credit : credit_of tick (map timed_of (set entries key out)) + 1 ≤ credit_of elapsed (map timed_of entries)
    far-credit =
        let falls = credit-falls elapsed tick (set entries key out) later left-far in
        let follows = credit-entry {moves = no_moves} elapsed entries links.nodes links.nodes links.lists links.lists _ key out refl far-below in
        let then_ : takes elapsed (timed_in (set entries key out) key) ≡ 0 = ap (takes elapsed) (timed-here entries key out far-below ∙ none_of out empty) in
        let before : takes elapsed (timed_in entries key) ≡ takes elapsed (at_tick tick) = ap (takes elapsed) was in
        let some_left = takes-hop elapsed tick tick up (omega arith) (λ f. omega (arith, f)) in
        omega (arith, falls, follows, then_, before, some_left)
