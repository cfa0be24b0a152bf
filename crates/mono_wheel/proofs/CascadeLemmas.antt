-- One key that waits is registered at its true tick.
use Rattle.std.proofs.Common.{arith, ◌≡◌, ◌≢◌, ℕ, ◌<◌, ◌≤◌, ◌⊎◌, inl, inr, length, true, List, [], ◌∷◌, ◌++◌, Option, Some, None, ap, refl, sym, ◌∙◌, subst, length-set}
use Rattle.std.proofs.lemmas.Bool.Decides.{eqb_tells}
use Rattle.mono_wheel.specs.Lists.{Lists, IsIn, IsLoose, with_list, list_at, is_node}
use Rattle.mono_wheel.specs.Model.{Timed, StandsBehind, Fits}
use Rattle.mono_wheel.specs.Holdings.{place_in, timed_in, StandsIn, Held, Cascading, Cascaded, Leads, anew, entry_anew, Registered}
use Rattle.mono_wheel.specs.declared.entry.Entry.{Entry}
use Rattle.mono_wheel.proofs.ChainLemmas.{is_in-front}
use Rattle.mono_wheel.proofs.CallLemmas.{last-in}
use Rattle.mono_wheel.proofs.PlaceLemmas.{place_in-below}
use Rattle.mono_wheel.proofs.KeyLemmas.{some_of, timed-here, timed-other, entry-in, entry-inside, entry-below}
use Rattle.mono_wheel.proofs.OrderLemmas.{behind-last}
use Rattle.mono_wheel.proofs.HoldingLemmas.{list-same, list-other}
use Rattle.mono_wheel.specs.Start.{taken_list, list_count}

in-last : (front : List ℕ) (key a : ℕ) → IsIn a (front ++ key ∷ []) → (IsIn a front) ⊎ (a ≡ key)
in-last [] key a (inl e) = inr e
in-last [] key a (inr e) = absurd e
in-last (y ∷ ys) key a (inl e) = inl (inl e)
in-last (y ∷ ys) key a (inr i) = elim (in-last ys key a i) [ inl j ↦ inl (inr j) | inr e ↦ inr e ]

pub some-not : (o : Option Timed) (t : Timed) → o ≡ Some t → o ≡ None → ⊥
some-not o t e f = let g : Some t ≡ None = sym e ∙ f in cc

fits-anew : (elapsed tick : ℕ) → elapsed ≤ tick → Fits elapsed (Some record { tick = tick; registered = tick })
fits-anew elapsed tick le = elim (eqb_tells tick elapsed) [
  | inl e ↦ inl (e.1, e.1)
  | inr e ↦ inr (let ne = e.1 in omega (arith, le, ne), omega arith)
]

-- `first`, `start` are the entries and lists before all keys of the slot; `entries`, `links` before this one; `popped` without it; `entries2`, `links2` after it
module _ (elapsed : ℕ) (first entries entries2 : List Entry) (start links popped links2 : Lists) (key : ℕ) (front : List ℕ)
    (s : Cascading elapsed entries links) (d : Cascaded first entries start links) (is : list_at links taken_list ≡ front ++ key ∷ []) (out : popped ≡ with_list links taken_list front) (loose : IsLoose popped key) where
  waiting : IsIn key (list_at links taken_list)
  waiting = last-in (list_at links taken_list) key (front, is)

  waits : (timed : Timed) × (timed_in entries key ≡ Some timed) × (elapsed ≤ timed.tick)
  waits = s.waits key waiting

  some : timed_in entries key ≡ None → ⊥
  some = some-not (timed_in entries key) waits.0 waits.1

  pub step-below : key < length entries
  step-below = entry-below entries key some

  low : taken_list < length links.lists
  low = let n = s.lists in omega (arith, n)

  pub step-lists : length popped.lists ≡ list_count
  step-lists = ap (λ w. length w.lists) out ∙ length-set links.lists taken_list front ∙ s.lists

  popped-here : list_at popped taken_list ≡ front
  popped-here = ap (λ w. list_at w taken_list) out ∙ list-same links taken_list front low

  popped-other : (l : ℕ) → l ≢ taken_list → list_at popped l ≡ list_at links l
  popped-other l ne = ap (λ w. list_at w l) out ∙ list-other links taken_list l front ne

  apart : IsIn key front → ⊥
  apart i = loose.in_none taken_list (subst (λ zs. IsIn key zs) (sym popped-here) i)

  nowhere : (k l : ℕ) → l ≢ taken_list → IsIn k (list_at links l) → k ≢ key
  nowhere k l ne i e = loose.in_none l (subst (λ z. IsIn z (list_at popped l)) e (subst (λ zs. IsIn k zs) (sym (popped-other l ne)) i))

  front-waits : (k : ℕ) → IsIn k front → IsIn k (list_at links taken_list)
  front-waits k i = subst (λ zs. IsIn k zs) (sym is) (is_in-front k front (key ∷ []) i)

  front-apart : (k : ℕ) → IsIn k front → k ≢ key
  front-apart k i e = apart (subst (λ z. IsIn z front) e i)

  not-waits : (k : ℕ) → k ≢ key → (IsIn k front → ⊥) → IsIn k (list_at links taken_list) → ⊥
  not-waits k ne gone i = elim (in-last front key k (subst (λ zs. IsIn k zs) is i)) [ inl j ↦ gone j | inr e ↦ ne e ]

  module _ (r : Registered elapsed entries entries2 popped links2 key) where
    place : ℕ
    place = place_in elapsed r.entry.tick

    place-low : place_in elapsed r.entry.tick < taken_list
    place-low = place_in-below elapsed r.entry.tick

    place-not : place_in elapsed r.entry.tick ≢ taken_list
    place-not e = let b = place-low in omega (arith, b, e)

    timed : timed_in entries key ≡ Some record { tick = r.entry.tick; registered = r.entry.registered }
    timed = entry-in entries key r.entry step-below r.was some

    here : timed_in entries2 key ≡ Some record { tick = r.entry.tick; registered = r.entry.tick }
    here =
        let inside : r.entry.tick ≢ 0 = entry-inside entries key r.entry step-below r.was some in
        ap (λ es. timed_in es key) r.entries_are ∙ timed-here entries key (entry_anew r.entry) step-below ∙ some_of (entry_anew r.entry) inside

    other : (k : ℕ) → k ≢ key → timed_in entries2 k ≡ timed_in entries k
    other k ne = ap (λ es. timed_in es k) r.entries_are ∙ timed-other entries key k (entry_anew r.entry) ne

    later : elapsed ≤ r.entry.tick
    later = let e : Some waits.0 ≡ Some record { tick = r.entry.tick; registered = r.entry.registered } = sym waits.1 ∙ timed in
        let f : waits.0 ≡ record { tick = r.entry.tick; registered = r.entry.registered } = cc in
        subst (λ t. elapsed ≤ t.tick) f waits.2

    pub taken : list_at links2 taken_list ≡ front
    taken = ap (λ w. list_at w taken_list) r.links_are ∙ list-other popped (place_in elapsed r.entry.tick) taken_list _ (λ e. place-not (sym e)) ∙ popped-here

    pushed : list_at links2 (place_in elapsed r.entry.tick) ≡ key ∷ list_at links (place_in elapsed r.entry.tick)
    pushed =
        ap (λ w. list_at w (place_in elapsed r.entry.tick)) r.links_are
        ∙ list-same popped (place_in elapsed r.entry.tick) _ (let n = step-lists in let b = place-low in omega (arith, n, b))
        ∙ ap (λ zs. key ∷ zs) (popped-other (place_in elapsed r.entry.tick) place-not)

    elsewhere : (l : ℕ) → l ≢ taken_list → l ≢ place_in elapsed r.entry.tick → list_at links2 l ≡ list_at links l
    elsewhere l ne np = ap (λ w. list_at w l) r.links_are ∙ list-other popped (place_in elapsed r.entry.tick) l _ np ∙ popped-other l ne

    -- The keys in a list other than the waiting one.
    came : (k l : ℕ) → l ≢ taken_list → IsIn k (list_at links2 l) → ((k ≡ key) × (l ≡ place_in elapsed r.entry.tick)) ⊎ (IsIn k (list_at links l))
    came k l ne i = elim (eqb_tells l (place_in elapsed r.entry.tick)) [
      | inl e ↦ elim (subst (λ zs. IsIn k zs) (ap (list_at links2) e.1 ∙ pushed) i) [
        | inl f ↦ inl (f, e.1)
        | inr j ↦ inr (subst (λ z. IsIn k (list_at links z)) (sym e.1) j)
      ]
      | inr e ↦ inr (subst (λ zs. IsIn k zs) (elsewhere l ne e.1) i)
    ]

    stays : (k l : ℕ) → l ≢ taken_list → IsIn k (list_at links l) → IsIn k (list_at links2 l)
    stays k l ne i = elim (eqb_tells l (place_in elapsed r.entry.tick)) [
      | inl e ↦ subst (λ zs. IsIn k zs) (sym (ap (list_at links2) e.1 ∙ pushed)) (inr (subst (λ z. IsIn k (list_at links z)) e.1 i))
      | inr e ↦ subst (λ zs. IsIn k zs) (sym (elsewhere l ne e.1)) i
    ]

    keeps : (a b l : ℕ) → l ≢ taken_list → StandsBehind (list_at links l) a b → StandsBehind (list_at links2 l) a b
    keeps a b l ne h = elim (eqb_tells l (place_in elapsed r.entry.tick)) [
      | inl e ↦ subst (λ zs. StandsBehind zs a b) (sym (ap (list_at links2) e.1 ∙ pushed)) (inr (subst (λ z. StandsBehind (list_at links z) a b) e.1 h))
      | inr e ↦ subst (λ zs. StandsBehind zs a b) (sym (elsewhere l ne e.1)) h
    ]

    pub step-cascading : Cascading elapsed entries2 links2
    step-cascading = record {
      lists = ap (λ w. length w.lists) r.links_are ∙ length-set popped.lists (place_in elapsed r.entry.tick) _ ∙ step-lists;
      within = λ k l ne i. elim (came k l ne i) [
        | inl t ↦ subst (λ z. StandsIn elapsed l (timed_in entries2 z)) (sym t.0) (subst (StandsIn elapsed l) (sym here) t.1)
        | inr j ↦ subst (StandsIn elapsed l) (sym (other k (nowhere k l ne j))) (s.within k l ne j)
      ];
      found = λ k l gone st. elim (eqb_tells k key) [
        | inl e ↦
            let at_place : l ≡ place_in elapsed r.entry.tick = subst (StandsIn elapsed l) here (subst (λ z. StandsIn elapsed l (timed_in entries2 z)) e.1 st) in
            subst (λ zs. IsIn k zs) (sym (ap (list_at links2) at_place ∙ pushed)) (inl e.1)
        | inr e ↦
            let old = subst (StandsIn elapsed l) (other k e.1) st in
            let no_old = not-waits k e.1 (λ i. gone (subst (λ zs. IsIn k zs) (sym taken) i)) in
            let i = s.found k l no_old old in
            stays k l (λ f. no_old (subst (λ z. IsIn k (list_at links z)) f i)) i
      ];
      fits = λ k gone. elim (eqb_tells k key) [
        | inl e ↦ subst (λ z. Fits elapsed (timed_in entries2 z)) (sym e.1) (subst (Fits elapsed) (sym here) (fits-anew elapsed r.entry.tick later))
        | inr e ↦ subst (Fits elapsed) (sym (other k e.1)) (s.fits k (not-waits k e.1 (λ i. gone (subst (λ zs. IsIn k zs) (sym taken) i))))
      ];
      waits = λ k i.
          let j = subst (λ zs. IsIn k zs) taken i in
          let old = s.waits k (front-waits k j) in
          (old.0, other k (front-apart k j) ∙ old.1, old.2);
      room = λ k n.
          let b = s.room k (subst (λ w. is_node w k ≡ true) out (subst (λ w. is_node w k ≡ true) r.links_are n)) in
          let e : length entries2 ≡ length entries = ap length r.entries_are ∙ length-set entries key (entry_anew r.entry) in
          omega (arith, b, e);
    }

    order-step : (a b : ℕ) → timed_in first a ≡ timed_in first b → Leads start links a b → Leads start links2 a b
    order-step a b same (inl t) = elim (eqb_tells t.0 taken_list) [
      | inl e ↦ elim (behind-last front key a b (subst (λ zs. StandsBehind zs a b) (ap (list_at links) e.1 ∙ is) t.1)) [
        | inl h ↦ inl (taken_list, subst (λ zs. StandsBehind zs a b) (sym taken) h)
        | inr h ↦ inr (
          subst (λ z. IsIn z (list_at start taken_list)) (sym h.0) (d.waits key waiting).0,
          (λ i. apart (subst (λ z. IsIn z front) h.0 (subst (λ zs. IsIn a zs) taken i))),
          subst (λ zs. IsIn b zs) (sym taken) h.1,
        )
      ]
      | inr e ↦ inl (t.0, keeps a b t.0 e.1 t.1)
    ]
    order-step a b same (inr t) = elim (in-last front key b (subst (λ zs. IsIn b zs) is t.2)) [
      | inl i ↦ inr (t.0, (λ j. t.1 (front-waits a (subst (λ zs. IsIn a zs) taken j))), subst (λ zs. IsIn b zs) (sym taken) i)
      | inr e ↦
          let first_b : timed_in first b ≡ Some record { tick = r.entry.tick; registered = r.entry.registered } = ap (timed_in first) e ∙ sym (d.waits key waiting).1 ∙ timed in
          let now_a : timed_in entries a ≡ Some record { tick = r.entry.tick; registered = r.entry.tick } = d.done a t.0 t.1 ∙ ap anew (same ∙ first_b) in
          let i : IsIn a (list_at links (place_in elapsed r.entry.tick)) = s.found a (place_in elapsed r.entry.tick) t.1 (subst (StandsIn elapsed (place_in elapsed r.entry.tick)) (sym now_a) refl) in
          inl (place_in elapsed r.entry.tick, subst (λ zs. StandsBehind zs a b) (sym pushed) (inl (sym e, i)))
    ]

    pub step-cascaded : Cascaded first entries2 start links2
    step-cascaded = record {
      waits = λ k i.
          let j = subst (λ zs. IsIn k zs) taken i in
          let old = d.waits k (front-waits k j) in
          (old.0, other k (front-apart k j) ∙ old.1);
      done = λ k i gone. elim (eqb_tells k key) [
        | inl e ↦
            let old : timed_in first key ≡ Some record { tick = r.entry.tick; registered = r.entry.registered } = sym (d.waits key waiting).1 ∙ timed in
            ap (timed_in entries2) e.1 ∙ here ∙ sym (ap anew (ap (timed_in first) e.1 ∙ old))
        | inr e ↦ other k e.1 ∙ d.done k i (not-waits k e.1 (λ j. gone (subst (λ zs. IsIn k zs) (sym taken) j)))
      ];
      others = λ k gone. other k (λ e. gone (subst (λ z. IsIn z (list_at start taken_list)) (sym e) (d.waits key waiting).0)) ∙ d.others k gone;
      order = λ a b line h same. order-step a b same (d.order a b line h same);
      nodes = ap (λ w. w.nodes) r.links_are ∙ ap (λ w. w.nodes) out ∙ d.nodes;
    }

pub cascaded-start : (entries : List Entry) (links : Lists) → Cascaded entries entries links links
cascaded-start entries links = record {
  waits = λ k i. (i, refl);
  done = λ k i gone. absurd (gone i);
  others = λ k gone. refl;
  order = λ a b line h same. inl (line, h);
  nodes = refl;
}

pub cascading-end : (elapsed : ℕ) (entries : List Entry) (links : Lists) → Cascading elapsed entries links → list_at links taken_list ≡ [] → Held elapsed entries links
cascading-end elapsed entries links s empty =
    let none : (k : ℕ) → IsIn k (list_at links taken_list) → ⊥ = λ k i. subst (λ zs. IsIn k zs) empty i in
    record {
      lists = s.lists;
      within = λ k l i. s.within k l (λ e. none k (subst (λ z. IsIn k (list_at links z)) e i)) i;
      found = λ k l st. s.found k l (none k) st;
      fits = λ k. s.fits k (none k);
      room = s.room;
    }
