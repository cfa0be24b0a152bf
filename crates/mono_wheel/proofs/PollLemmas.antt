-- What a poll and a look ahead owe.
use Rattle.std.proofs.Common.{arith, ◌≡◌, ◌≢◌, ℕ, ◌<◌, ◌≤◌, ◌⊎◌, inl, inr, Bool, nat_le, List, [], ◌∷◌, ◌++◌, map, Option, Some, None, ap, refl, sym, ◌∙◌, subst, if◌then◌else◌}
use Rattle.std.proofs.lemmas.Bool.{cases_lt}
use Rattle.mono_wheel.specs.Start.{start, top_level, pending_list}
use Rattle.mono_wheel.specs.Lists.{Lists, IsIn, list_at}
use Rattle.mono_wheel.specs.Model.{Timed, Wheel, AllFit, Fits, IsPending, FirstStart, NothingDue, CameOut, timed_at, moved, timed_after}
use Rattle.mono_wheel.specs.Holdings.{timed_of, timed_in, Held, StandsIn, IsNextSlot, Advanced, DueTaken}
use Rattle.mono_wheel.specs.declared.entry.Entry.{Entry}
use Rattle.mono_wheel.proofs.StartLemmas.{start-above, start-same}
use Rattle.mono_wheel.proofs.PlaceLemmas.{place-pending}
use Rattle.mono_wheel.proofs.CallLemmas.{last-in}
use Rattle.mono_wheel.proofs.DueLemmas.{stands-pending}
use Rattle.mono_wheel.proofs.AdvanceLemmas.{no-slots, moved-stays, moved-anew}
use Rattle.mono_wheel.specs.Counts.{Moves}

pub none-pending : {moves : Moves} (elapsed : ℕ) (entries : List Entry) (nodes : List Bool) (lines : List (List ℕ)) (v : Wheel) →
    (let w : Wheel = record { elapsed = elapsed; entries = map timed_of entries; reserved = nodes; lines = lines; moves = moves } in w ≡ v) →
    ((key : ℕ) → IsPending v key → ⊥) → (key : ℕ) (timed : Timed) → timed_in entries key ≡ Some timed → timed.tick ≢ elapsed
none-pending elapsed entries nodes lines v seen none key timed is e =
    subst (λ u. (key : ℕ) → IsPending u key → ⊥) (sym seen) none key (timed, is, e)

-- The pending list has exactly the pending keys.
module _ {moves : Moves} (elapsed : ℕ) (entries : List Entry) (links : Lists) (v : Wheel) (h : Held elapsed entries links)
    (seen : let w : Wheel = record { elapsed = elapsed; entries = map timed_of entries; reserved = links.nodes; lines = links.lists; moves = moves } in w ≡ v) where
  pub some-pending : (key : ℕ) (front : List ℕ) → list_at links pending_list ≡ front ++ key ∷ [] → ((k : ℕ) × IsPending v k) × (elapsed ≡ v.elapsed)
  some-pending key front is =
      (subst (λ u. (k : ℕ) × IsPending u k) seen (key, stands-pending elapsed (timed_in entries key) (h.within key pending_list (last-in (list_at links pending_list) key (front, is))) (h.fits key)), ap (λ u. u.elapsed) seen)

  pub empty-none : list_at links pending_list ≡ [] → (key : ℕ) (timed : Timed) → timed_in entries key ≡ Some timed → timed.tick ≢ elapsed
  empty-none empty key timed is e = pend (subst (Fits elapsed) is (h.fits key))
    where
      pend : Fits elapsed (Some timed) → ⊥
      pend (inl f) = subst (λ zs. IsIn key zs) empty (h.found key pending_list (subst (StandsIn elapsed pending_list) (sym is) (sym (place-pending elapsed timed.registered f.0))))
      pend (inr f) = let a = f.0 in let b = f.1 in omega (arith, a, b, e)

  pub next-start : (list begin : ℕ) → list_at links pending_list ≡ [] → IsNextSlot elapsed entries list begin → ((key : ℕ) → IsPending v key → ⊥) × FirstStart v begin
  next-start list begin empty slot =
      let none = empty-none empty in
      subst (λ u. ((key : ℕ) → IsPending u key → ⊥) × FirstStart u begin) seen (
        (λ key p. none key p.0 p.1 p.2),
        record {
          key = slot.key;
          timed = slot.timed;
          is = slot.is;
          here = slot.begins;
          least = λ other ticks there. slot.least other ticks there (no-slots elapsed entries none h.fits other ticks there).0;
        },
      )

-- A wheel whose clock has moved since, or not at all.
abbrev pub Since : Wheel → Wheel → Type 0
Since old new = (old ≡ new) ⊎ Advanced old new

after-self : (elapsed : ℕ) (o : Option Timed) → o ≡ timed_after elapsed elapsed o
after-self elapsed None = refl
after-self elapsed (Some timed) = ap Some (sym (moved-stays elapsed elapsed timed (start-above top_level elapsed timed.registered)))

stood-still : (w : Wheel) → AllFit w → Advanced w w
stood-still w fits = record {
  fits = fits;
  later = omega arith;
  ticks = λ k. after-self w.elapsed (timed_at w k);
  order = λ a b p. p;
  reserved = refl;
}

pub since-advanced : (old new : Wheel) → AllFit new → Since old new → Advanced old new
since-advanced old new fits (inl e) = subst (λ u. Advanced u new) (sym e) (stood-still new fits)
since-advanced old new fits (inr a) = a

-- the ticks after two steps of the clock are those after both
moved-twice : (e f g : ℕ) (timed : Timed) → ((timed.registered ≡ e) × (timed.tick ≡ e)) ⊎ ((e < timed.registered) × (timed.registered ≤ timed.tick)) → e ≤ f → f ≤ g → moved f g (moved e f timed) ≡ moved e g timed
moved-twice e f g timed fits l m = elim (cases_lt f (start top_level e timed.registered)) [
  | inl b ↦ ap (moved f g) (moved-stays e f timed b) ∙ elim fits [
    | inl p ↦ pending p.0 p.1
    | inr a ↦ same a.0 b
  ]
  | inr b ↦ ap (moved f g) (moved-anew e f timed b) ∙ cascaded ∙ sym (moved-anew e g timed (omega (arith, b, m)))
]
  where
    cascaded : moved f g record { tick = timed.tick; registered = timed.tick } ≡ record { tick = timed.tick; registered = timed.tick }
    cascaded = elim (cases_lt g (start top_level f timed.tick)) [
      | inl c ↦ moved-stays f g record { tick = timed.tick; registered = timed.tick } c
      | inr c ↦ moved-anew f g record { tick = timed.tick; registered = timed.tick } c
    ]

    whole : timed.registered ≡ timed.tick → (x y : ℕ) → moved x y timed ≡ timed
    whole p x y = elim (cases_lt y (start top_level x timed.registered)) [
      | inl c ↦ moved-stays x y timed c
      | inr c ↦ moved-anew x y timed c ∙ (λ i. record { tick = timed.tick; registered = sym p i })
    ]

    pending : timed.registered ≡ e → timed.tick ≡ e → moved f g timed ≡ moved e g timed
    pending p q = whole (p ∙ sym q) f g ∙ sym (whole (p ∙ sym q) e g)

    same : e < timed.registered → f < start top_level e timed.registered → moved f g timed ≡ moved e g timed
    same a b = ap (λ s. if nat_le s g then record { tick = timed.tick; registered = timed.tick } else timed) (start-same top_level e f timed.registered a l b)

after-twice : (e f g : ℕ) (o : Option Timed) → Fits e o → e ≤ f → f ≤ g → timed_after f g (timed_after e f o) ≡ timed_after e g o
after-twice e f g None fits l m = refl
after-twice e f g (Some timed) fits l m = ap Some (moved-twice e f g timed fits l m)

pub advanced-twice : (a b c : Wheel) → Advanced a b → Advanced b c → Advanced a c
advanced-twice a b c p q = record {
  fits = p.fits;
  later = let l = p.later in let m = q.later in omega (arith, l, m);
  ticks = λ k. q.ticks k ∙ ap (timed_after b.elapsed c.elapsed) (p.ticks k) ∙ after-twice a.elapsed b.elapsed c.elapsed (timed_at a k) (p.fits k) p.later q.later;
  order = λ x y r. q.order x y (p.order x y r);
  reserved = q.reserved ∙ p.reserved;
}

pub since-twice : (a b c : Wheel) → Since a b → Advanced b c → Advanced a c
since-twice a b c (inl e) q = subst (λ u. Advanced u c) (sym e) q
since-twice a b c (inr p) q = advanced-twice a b c p q

-- a true tick stays
moved-tick : (e f : ℕ) (timed : Timed) → (moved e f timed).tick ≡ timed.tick
moved-tick e f timed = elim (cases_lt f (start top_level e timed.registered)) [
  | inl c ↦ ap (λ t. t.tick) (moved-stays e f timed c)
  | inr c ↦ ap (λ t. t.tick) (moved-anew e f timed c)
]

pub tick-after : (e f : ℕ) (o p : Option Timed) (timed : Timed) → p ≡ timed_after e f o → o ≡ Some timed → (later : Timed) × (p ≡ Some later) × (later.tick ≡ timed.tick)
tick-after e f o p timed is was = (moved e f timed, is ∙ ap (timed_after e f) was, moved-tick e f timed)

tick-before : (e f : ℕ) (o p : Option Timed) (timed : Timed) → p ≡ timed_after e f o → p ≡ Some timed → (first : Timed) × (o ≡ Some first) × (first.tick ≡ timed.tick)
tick-before e f None p timed is now = absurd (let g : Some timed ≡ None = sym now ∙ is in cc)
tick-before e f (Some first) p timed is now =
    let g : Some timed ≡ Some (moved e f first) = sym now ∙ is in
    let k : timed ≡ moved e f first = cc in
    (first, refl, sym (moved-tick e f first) ∙ sym (ap (λ t. t.tick) k))

fits-tick : (e : ℕ) (timed : Timed) → Fits e (Some timed) → e ≤ timed.tick
fits-tick e timed (inl h) = let a = h.1 in omega (arith, a)
fits-tick e timed (inr h) = let a = h.0 in let b = h.1 in omega (arith, a, b)

pub came-out : (old middle new : Wheel) (now key : ℕ) → Advanced old middle → AllFit middle → DueTaken middle new (Some key) → middle.elapsed ≤ now → CameOut old new now key
came-out old middle new now key a fits d l =
    let was = tick-before old.elapsed middle.elapsed (timed_at old key) (timed_at middle key) d.0.0 (a.ticks key) d.0.1 in
    let clock : new.elapsed ≡ middle.elapsed = d.5 in
    record {
      due = (was.0, was.1, was.2 ∙ d.0.2 ∙ sym clock, omega (arith, clock, l));
      least = λ other tick due.
          let now_other = tick-after old.elapsed middle.elapsed (timed_at old other) (timed_at middle other) due.0 (a.ticks other) due.1 in
          let f = fits-tick middle.elapsed now_other.0 (subst (Fits middle.elapsed) now_other.1 (fits other)) in
          let t = now_other.2 in let u = due.2 in
          omega (arith, f, t, u, clock);
      first = λ other p. d.1 other (a.order other key p);
      out = d.2;
      others = λ other ne. subst (λ z. timed_at new other ≡ timed_after old.elapsed z (timed_at old other)) (sym clock) (d.3 other ne ∙ a.ticks other);
      order = λ x y nx ny p. d.4 x y nx ny (a.order x y p);
      reserved = d.6 ∙ a.reserved;
    }

pub nothing-due : (old middle new : Wheel) (now : ℕ) → Since old middle → Advanced middle new → new.elapsed ≡ now → ((key : ℕ) (timed : Timed) → timed_at middle key ≡ Some timed → now < timed.tick) → NothingDue old new now
nothing-due old middle new now s a clock passed =
    let first = since-advanced old middle a.fits s in
    let whole = since-twice old middle new s a in
    record {
      none = λ key tick due.
          let then_ = tick-after old.elapsed middle.elapsed (timed_at old key) (timed_at middle key) due.0 (first.ticks key) due.1 in
          let p = passed key then_.0 then_.1 in
          let t = then_.2 in let u = due.2 in let l = due.3 in
          omega (arith, p, t, u, l);
      elapsed = clock;
      ticks = λ k. subst (λ z. timed_at new k ≡ timed_after old.elapsed z (timed_at old k)) clock (whole.ticks k);
      order = whole.order;
      reserved = whole.reserved;
    }

-- The clock had moved before a key came out.
pub came-later : (old middle new : Wheel) (now key : ℕ) → Advanced old middle → AllFit middle → CameOut middle new now key → CameOut old new now key
came-later old middle new now key a fits c =
    let was = tick-before old.elapsed middle.elapsed (timed_at old key) (timed_at middle key) c.due.0 (a.ticks key) c.due.1 in
    let high = fits-tick middle.elapsed c.due.0 (subst (Fits middle.elapsed) c.due.1 (fits key)) in
    let here = c.due.2 in
    record {
      due = (was.0, was.1, was.2 ∙ c.due.2, c.due.3);
      least = λ other tick due.
          let other_now = tick-after old.elapsed middle.elapsed (timed_at old other) (timed_at middle other) due.0 (a.ticks other) due.1 in
          c.least other tick (other_now.0, other_now.1, other_now.2 ∙ due.2, due.3);
      first = λ other p. c.first other (a.order other key p);
      out = c.out;
      others = λ other ne. c.others other ne ∙ ap (timed_after middle.elapsed new.elapsed) (a.ticks other) ∙ after-twice old.elapsed middle.elapsed new.elapsed (timed_at old other) (a.fits other) a.later (omega (arith, high, here));
      order = λ x y nx ny p. c.order x y nx ny (a.order x y p);
      reserved = c.reserved ∙ a.reserved;
    }
