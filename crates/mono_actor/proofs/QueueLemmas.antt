-- The ring of a queue after each call.
use Rattle.std.proofs.Common.{arith, ◌≡◌, ◌≢◌, ◌<◌, ◌-◌, ◌^◌, ℕ, inl, inr, zero, suc, Bool, true, false, not, cond, List, [], ◌∷◌, ◌++◌, length, map, set, get_or, Some, None, Option, refl, ap, sym, subst, ◌∙◌}
use Rattle.std.specs.Prelude.{is_some, filter, ◌==◌}
use Rattle.std.proofs.Math.ListN.{get_or-map}
use Rattle.std.proofs.lemmas.List.{length-map, length-set, length-append, map-set, get_or-set_same, get_or-set_other, get_or_past}
use Rattle.std.proofs.lemmas.Bool.{cases_lt}
use Rattle.std.proofs.lemmas.Bool.Decides.{eqb_tells}
use Rattle.mono_model.specs.Table.{value_at}
use Rattle.mono_wheel.specs.Lists.{IsIn}
use Rattle.mono_wheel.specs.Rings.{Chain, Distinct}
use Rattle.mono_wheel.proofs.ChainLemmas.{chain-frame, chain-pushed_back, chain-removed, chain-first, chain-last_in, chain-prev_in, chain-next_in, walk-chain, is_in_equal, is_in-front, is_in-back, is_in-middle, is_in-pushed, is_in-skipped, distinct-pushed, distinct-skipped}
use Rattle.mono_wheel.proofs.RingLemmas.{length-distinct}
use Rattle.mono_wheel.proofs.CallLemmas.{split}
use Rattle.mono_actor.specs.Queues.{end_number, after_of, before_of, after_in, before_in, items_in, seen, HasPlace, Ring, SetsAfter, SetsBefore, Joined, Queue}
use Rattle.mono_actor.specs.declared.queues.Seat.{Seat}

abbrev IfTrue : Bool → Type 0
IfTrue true = ⊥
IfTrue false = Unit {0}

false-true : false ≡ true → ⊥
false-true h = subst IfTrue h tt

same-seat : (x y : Seat) → Some x ≡ Some y → x ≡ y
same-seat x y e = cc

-- who has a seat is below the length
pub seat-below : (seats : List (Option Seat)) (k : ℕ) → is_some (value_at seats k) ≡ true → k < length seats
seat-below seats k h = elim (cases_lt k (length seats)) [
  | inl inside ↦ inside
  | inr past ↦ absurd (false-true (sym (ap is_some (get_or_past seats k None past)) ∙ h))
]

-- the end has no seat
pub end-none : (seats : List (Option Seat)) → length seats < 2 ^ 64 → is_some (value_at seats end_number) ≡ true → ⊥
end-none seats few h = let b = seat-below seats end_number h in omega (arith, few, b)

pub seats-there : (seats : List (Option Seat)) (k : ℕ) → get_or (map is_some seats) k false ≡ is_some (value_at seats k)
seats-there seats k = get_or-map is_some seats k None

seat-known : (seats s2 : List (Option Seat)) (k : ℕ) → map is_some s2 ≡ map is_some seats → is_some (value_at s2 k) ≡ is_some (value_at seats k)
seat-known seats s2 k e = sym (seats-there s2 k) ∙ ap (λ xs. get_or xs k false) e ∙ seats-there seats k

same-length : (seats s2 : List (Option Seat)) → map is_some s2 ≡ map is_some seats → length s2 ≡ length seats
same-length seats s2 e = sym (length-map s2 is_some) ∙ ap length e ∙ length-map seats is_some

-- the seat of a number is written
module _ (seats : List (Option Seat)) (ends : Seat) (number : ℕ) where
  pub sets-after-end : (after : ℕ) → number ≡ end_number → SetsAfter seats seats ends (record { before = ends.before; after = after }) number after
  sets-after-end after is = record {
    here = elim (eqb_tells number end_number) [ inl e ↦ ap (λ b. cond b after (after_of (value_at seats number))) e.0 | inr e ↦ absurd (e.1 is) ];
    others = λ k apart. elim (eqb_tells k end_number) [
      | inl e ↦ absurd (apart (e.1 ∙ sym is))
      | inr e ↦ ap (λ b. cond b after (after_of (value_at seats k))) e.0 ∙ sym (ap (λ b. cond b ends.after (after_of (value_at seats k))) e.0)
    ];
    befores = λ k. refl;
    seats = refl;
  }

  pub sets-before-end : (before : ℕ) → number ≡ end_number → SetsBefore seats seats ends (record { before = before; after = ends.after }) number before
  sets-before-end before is = record {
    here = elim (eqb_tells number end_number) [ inl e ↦ ap (λ b. cond b before (before_of (value_at seats number))) e.0 | inr e ↦ absurd (e.1 is) ];
    others = λ k apart. elim (eqb_tells k end_number) [
      | inl e ↦ absurd (apart (e.1 ∙ sym is))
      | inr e ↦ ap (λ b. cond b before (before_of (value_at seats k))) e.0 ∙ sym (ap (λ b. cond b ends.before (before_of (value_at seats k))) e.0)
    ];
    afters = λ k. refl;
    seats = refl;
  }

  module _ (seat : Seat) (was : value_at seats number ≡ Some seat) (apart : number ≢ end_number) where
    inside : number < length seats
    inside = seat-below seats number (ap is_some was)

    at-number : (s : Seat) → value_at (set seats number (Some s)) number ≡ Some s
    at-number s = get_or-set_same seats number (Some s) None inside

    at-other : (s : Seat) (k : ℕ) → k ≢ number → value_at (set seats number (Some s)) k ≡ value_at seats k
    at-other s k ne = get_or-set_other seats number k (Some s) None ne

    some-same : (k : ℕ) (s : Seat) → map is_some (set seats number (Some s)) ≡ map is_some seats
    some-same k s = map-set is_some seats number (Some s) ∙ same-set (map is_some seats) number (seats-there seats number ∙ ap is_some was)
      where
        same-set : (xs : List Bool) (i : ℕ) → get_or xs i false ≡ true → set xs i true ≡ xs
        same-set [] i h = refl
        same-set (x ∷ xs) zero h = ap (λ y. y ∷ xs) (sym h)
        same-set (x ∷ xs) (suc i) h = ap (λ ys. x ∷ ys) (same-set xs i h)

    pub sets-after-seat : (after : ℕ) → SetsAfter seats (set seats number (Some (record { before = seat.before; after = after }))) ends ends number after
    sets-after-seat after = record {
      here = elim (eqb_tells number end_number) [
        | inl e ↦ absurd (apart e.1)
        | inr e ↦ ap (λ b. cond b ends.after (after_of (value_at (set seats number (Some (record { before = seat.before; after = after }))) number))) e.0 ∙ ap after_of (at-number (record { before = seat.before; after = after }))
      ];
      others = λ k ne. ap (λ v. cond (k == end_number) ends.after (after_of v)) (at-other (record { before = seat.before; after = after }) k ne);
      befores = λ k. elim (eqb_tells k number) [
        | inl e ↦ ap (λ v. cond (k == end_number) ends.before (before_of v)) (ap (value_at (set seats number (Some (record { before = seat.before; after = after })))) e.1 ∙ at-number (record { before = seat.before; after = after }))
            ∙ sym (ap (λ v. cond (k == end_number) ends.before (before_of v)) (ap (value_at seats) e.1 ∙ was))
        | inr e ↦ ap (λ v. cond (k == end_number) ends.before (before_of v)) (at-other (record { before = seat.before; after = after }) k e.1)
      ];
      seats = some-same number (record { before = seat.before; after = after });
    }

    pub sets-before-seat : (before : ℕ) → SetsBefore seats (set seats number (Some (record { before = before; after = seat.after }))) ends ends number before
    sets-before-seat before = record {
      here = elim (eqb_tells number end_number) [
        | inl e ↦ absurd (apart e.1)
        | inr e ↦ ap (λ b. cond b ends.before (before_of (value_at (set seats number (Some (record { before = before; after = seat.after }))) number))) e.0 ∙ ap before_of (at-number (record { before = before; after = seat.after }))
      ];
      others = λ k ne. ap (λ v. cond (k == end_number) ends.before (before_of v)) (at-other (record { before = before; after = seat.after }) k ne);
      afters = λ k. elim (eqb_tells k number) [
        | inl e ↦ ap (λ v. cond (k == end_number) ends.after (after_of v)) (ap (value_at (set seats number (Some (record { before = before; after = seat.after })))) e.1 ∙ at-number (record { before = before; after = seat.after }))
            ∙ sym (ap (λ v. cond (k == end_number) ends.after (after_of v)) (ap (value_at seats) e.1 ∙ was))
        | inr e ↦ ap (λ v. cond (k == end_number) ends.after (after_of v)) (at-other (record { before = before; after = seat.after }) k e.1)
      ];
      seats = some-same number (record { before = before; after = seat.after });
    }

pub some-seat : (v : Option Seat) → is_some v ≡ true → (s : Seat) × (v ≡ Some s)
some-seat None h = absurd (false-true h)
some-seat (Some s) h = (s, refl)

module _ (seats : List (Option Seat)) (ends : Seat) (number : ℕ) (place : HasPlace seats number) (apart : number ≢ end_number) where
  there : is_some (value_at seats number) ≡ true
  there = elim place [ inl e ↦ absurd (apart e) | inr h ↦ h ]

  found : (s : Seat) × (value_at seats number ≡ Some s)
  found = some-seat (value_at seats number) there

  pub sets-after : (before after : ℕ) → before ≡ before_in seats ends number → SetsAfter seats (set seats number (Some (record { before = before; after = after }))) ends ends number after
  sets-after before after is =
      let same : found.0.before ≡ before = sym (is ∙ elim (eqb_tells number end_number) [ inl e ↦ absurd (apart e.1) | inr e ↦ ap (λ b. cond b ends.before (before_of (value_at seats number))) e.0 ∙ ap before_of found.1 ]) in
      subst (λ n. SetsAfter seats (set seats number (Some (record { before = n; after = after }))) ends ends number after) same
      (sets-after-seat seats ends number found.0 found.1 apart after)

  pub sets-before : (before after : ℕ) → after ≡ after_in seats ends number → SetsBefore seats (set seats number (Some (record { before = before; after = after }))) ends ends number before
  sets-before before after is =
      let same : found.0.after ≡ after = sym (is ∙ elim (eqb_tells number end_number) [ inl e ↦ absurd (apart e.1) | inr e ↦ ap (λ b. cond b ends.after (after_of (value_at seats number))) e.0 ∙ ap after_of found.1 ]) in
      subst (λ n. SetsBefore seats (set seats number (Some (record { before = before; after = n }))) ends ends number before) same
      (sets-before-seat seats ends number found.0 found.1 apart before)

pub has-seat : (seats : List (Option Seat)) (number : ℕ) → HasPlace seats number → number ≢ end_number → is_some (value_at seats number) ≡ true
has-seat seats number (inl e) apart = absurd (apart e)
has-seat seats number (inr h) apart = h

pub place-kept : (seats s2 : List (Option Seat)) (number : ℕ) → map is_some s2 ≡ map is_some seats → HasPlace seats number → HasPlace s2 number
place-kept seats s2 number e (inl is) = inl is
place-kept seats s2 number e (inr h) = inr (seat-known seats s2 number e ∙ h)

pub joins : (s1 s2 s3 : List (Option Seat)) (e1 e2 e3 : Seat) (before after : ℕ) → SetsAfter s1 s2 e1 e2 before after → SetsBefore s2 s3 e2 e3 after before → Joined s1 s3 e1 e3 before after
joins s1 s2 s3 e1 e2 e3 before after f g = record {
  after_here = g.afters before ∙ f.here;
  after_others = λ k apart. g.afters k ∙ f.others k apart;
  before_here = g.here;
  before_others = λ k apart. g.others k apart ∙ f.befores k;
  seats = g.seats ∙ f.seats;
}

-- A list without a member that occurs once.
filter-none : (node : ℕ) (xs : List ℕ) → (IsIn node xs → ⊥) → filter (λ x. not (x == node)) xs ≡ xs
filter-none node [] f = refl
filter-none node (x ∷ xs) f = elim (eqb_tells x node) [
  | inl e ↦ absurd (f (inl (sym e.1)))
  | inr e ↦ ap (λ b. cond (not b) (x ∷ filter (λ y. not (y == node)) xs) (filter (λ y. not (y == node)) xs)) e.0 ∙ ap (λ ys. x ∷ ys) (filter-none node xs (λ h. f (inr h)))
]

pub filter-parts : (front : List ℕ) (node : ℕ) (back : List ℕ) → Distinct (front ++ node ∷ back) → filter (λ x. not (x == node)) (front ++ node ∷ back) ≡ front ++ back
filter-parts [] node back d = elim (eqb_tells node node) [
  | inl e ↦ ap (λ b. cond (not b) (node ∷ filter (λ y. not (y == node)) back) (filter (λ y. not (y == node)) back)) e.0 ∙ filter-none node back d.0
  | inr e ↦ absurd (e.1 refl)
]
filter-parts (x ∷ front) node back d = elim (eqb_tells x node) [
  | inl e ↦ absurd (d.0 (is_in_equal node x _ (sym e.1) (is_in-middle front node back)))
  | inr e ↦
      ap (λ b. cond (not b) (x ∷ filter (λ y. not (y == node)) (front ++ node ∷ back)) (filter (λ y. not (y == node)) (front ++ node ∷ back))) e.0
      ∙ ap (λ ys. x ∷ ys) (filter-parts front node back d.1)
]

module _ (seats : List (Option Seat)) (ends : Seat) (items : List ℕ) (ring : Ring seats ends items) where
  pub end-out : IsIn end_number items → ⊥
  end-out h = end-none seats ring.few (ring.seated end_number h)

  -- the walk gives the items back
  pub ring-items : items_in seats ends ≡ items
  ring-items = walk-chain (after_in seats ends) (before_in seats ends) end_number items end_number (length seats) end-out
      (length-distinct items (length seats) ring.distinct (λ k h. seat-below seats k (ring.seated k h))) ring.chain

  pub last-place : HasPlace seats (before_in seats ends end_number)
  last-place = elim (chain-last_in (after_in seats ends) (before_in seats ends) end_number items end_number ring.chain) [
    | inl e ↦ inl e
    | inr h ↦ inr (ring.seated _ h)
  ]

  pub first-items : (end_number ≡ after_in seats ends end_number → items ≡ []) × (after_in seats ends end_number ≢ end_number → (rest : List ℕ) × (items ≡ after_in seats ends end_number ∷ rest))
  first-items = elim (chain-first (after_in seats ends) (before_in seats ends) end_number items end-out ring.chain) [
    | inl t ↦ ((λ _. t.1), (λ ne. absurd (ne t.0)))
    | inr t ↦ ((λ e. absurd (t.0 (sym e))), (λ _. (t.1, t.2)))
  ]

  module _ (number : ℕ) (within : IsIn number items) where
    parts : (front : List ℕ) × (back : List ℕ) × (items ≡ front ++ number ∷ back) × (Rattle.mono_wheel.specs.Lists.without number items ≡ front ++ back)
    parts = split number items within

    chain-parts : Chain (after_in seats ends) (before_in seats ends) end_number (parts.0 ++ number ∷ parts.1) end_number
    chain-parts = subst (λ zs. Chain (after_in seats ends) (before_in seats ends) end_number zs end_number) parts.2 ring.chain

    pub before-place : HasPlace seats (before_in seats ends number)
    before-place = elim (chain-prev_in (after_in seats ends) (before_in seats ends) end_number parts.0 number parts.1 end_number chain-parts) [
      | inl e ↦ inl e
      | inr h ↦ inr (ring.seated _ (subst (λ zs. IsIn (before_in seats ends number) zs) (sym parts.2) (is_in-front _ parts.0 (number ∷ parts.1) h)))
    ]

    pub after-place : HasPlace seats (after_in seats ends number)
    after-place = elim (chain-next_in (after_in seats ends) (before_in seats ends) end_number parts.0 number parts.1 end_number chain-parts) [
      | inl e ↦ inl e
      | inr h ↦ inr (ring.seated _ (subst (λ zs. IsIn (after_in seats ends number) zs) (sym parts.2) (is_in-back _ parts.0 (number ∷ parts.1) (inr h))))
    ]

    module _ (s2 : List (Option Seat)) (e2 : Seat) (joined : Joined seats s2 ends e2 (before_in seats ends number) (after_in seats ends number)) where
      removed-at : (front back : List ℕ) → items ≡ front ++ number ∷ back → Ring s2 e2 (front ++ back)
      removed-at front back is = record {
        chain = chain-removed (after_in seats ends) (before_in seats ends) (after_in s2 e2) (before_in s2 e2) end_number front number back end_number
            joined.after_here joined.before_here joined.after_others joined.before_others
            (subst (λ zs. IsIn end_number zs → ⊥) is end-out) (subst (λ zs. IsIn end_number zs → ⊥) is end-out) (subst Distinct is ring.distinct)
            (subst (λ zs. Chain (after_in seats ends) (before_in seats ends) end_number zs end_number) is ring.chain);
        distinct = distinct-skipped front number back (subst Distinct is ring.distinct);
        seated = λ k h. seat-known seats s2 k joined.seats ∙ ring.seated k (subst (λ zs. IsIn k zs) (sym is) (is_in-skipped k front number back h));
        few = omega (arith, ring.few, same-length seats s2 joined.seats);
      }

      pub removed-parts : (front back : List ℕ) → items ≡ front ++ number ∷ back → items_in s2 e2 ≡ front ++ back
      removed-parts front back is = ring-items-of (removed-at front back is)
        where
          ring-items-of : {xs : List ℕ} → Ring s2 e2 xs → items_in s2 e2 ≡ xs
          ring-items-of {xs} r = walk-chain (after_in s2 e2) (before_in s2 e2) end_number xs end_number (length s2) (λ h. end-none s2 r.few (r.seated end_number h))
              (length-distinct xs (length s2) r.distinct (λ k h. seat-below s2 k (r.seated k h))) r.chain

      pub removed-filter : items_in s2 e2 ≡ filter (λ x. not (x == number)) items
      removed-filter =
          removed-parts parts.0 parts.1 parts.2
          ∙ sym (ap (filter (λ x. not (x == number))) parts.2 ∙ filter-parts parts.0 number parts.1 (subst Distinct parts.2 ring.distinct))

      pub removed-ring : Ring s2 e2 (items_in s2 e2)
      removed-ring = subst (λ zs. Ring s2 e2 zs) (sym (removed-parts parts.0 parts.1 parts.2)) (removed-at parts.0 parts.1 parts.2)

  module _ (number : ℕ) (out : IsIn number items → ⊥) (seat : is_some (value_at seats number) ≡ true) where
    pub not-end : end_number ≢ number
    not-end e = end-none seats ring.few (subst (λ k. is_some (value_at seats k) ≡ true) (sym e) seat)

  -- seats that are not in the queue come and go
  module _ (s2 : List (Option Seat)) (same : (k : ℕ) → IsIn k items → value_at s2 k ≡ value_at seats k) (few : length s2 < 2 ^ 64) where
    stayed : Ring s2 ends items
    stayed = record {
      chain = chain-frame (after_in seats ends) (before_in seats ends) (after_in s2 ends) (before_in s2 ends) end_number items end_number
          refl (λ k h. ap (λ v. cond (k == end_number) ends.after (after_of v)) (same k h)) refl (λ k h. ap (λ v. cond (k == end_number) ends.before (before_of v)) (same k h)) ring.chain;
      distinct = ring.distinct;
      seated = λ k h. ap is_some (same k h) ∙ ring.seated k h;
      few = few;
    }

    pub stayed-items : items_in s2 ends ≡ items
    stayed-items = walk-chain (after_in s2 ends) (before_in s2 ends) end_number items end_number (length s2) (λ h. end-none s2 few (stayed.seated end_number h))
        (length-distinct items (length s2) ring.distinct (λ k h. seat-below s2 k (stayed.seated k h))) stayed.chain

    pub stayed-ring : Ring s2 ends (items_in s2 ends)
    stayed-ring = subst (λ zs. Ring s2 ends zs) (sym stayed-items) stayed

pub value-pushed : (seats : List (Option Seat)) (s : Seat) (k : ℕ) → k < length seats → value_at (seats ++ Some s ∷ []) k ≡ value_at seats k
value-pushed [] s k inside = absurd (omega (arith, inside))
value-pushed (x ∷ xs) s zero inside = refl
value-pushed (x ∷ xs) s (suc k) inside = value-pushed xs s k (omega (arith, inside))

pub empty-ring : Ring [] (record { before = end_number; after = end_number }) []
empty-ring = record {
  chain = record { forth = refl; back = refl };
  distinct = tt;
  seated = λ k h. absurd h;
  few = omega arith;
}

pub known-seat : (seats : List (Option Seat)) (ends : Seat) (room : ℕ) (q : Queue) (number : ℕ) → seen seats ends room ≡ q → get_or q.seats number false ≡ true → is_some (value_at seats number) ≡ true
known-seat seats ends room q number is known = sym (seats-there seats number) ∙ subst (λ (x : Queue). get_or x.seats number false ≡ true) (sym is) known

pub out-of : (seats : List (Option Seat)) (ends : Seat) (room : ℕ) (q : Queue) (number : ℕ) → seen seats ends room ≡ q → (IsIn number q.items → ⊥) → IsIn number (items_in seats ends) → ⊥
out-of seats ends room q number is out h = out (subst (λ (x : Queue). IsIn number x.items) is h)

module _ (seats : List (Option Seat)) (ends : Seat) (items : List ℕ) (ring : Ring seats ends items) where
  -- the seat of a number that is not in the queue is removed
  module _ (number : ℕ) (out : IsIn number items → ⊥) where
    freed-same : (k : ℕ) → IsIn k items → value_at (set seats number None) k ≡ value_at seats k
    freed-same k h = get_or-set_other seats number k None None (λ e. out (is_in_equal k number items e h))

    freed-few : length (set seats number None) < 2 ^ 64
    freed-few = omega (arith, ring.few, length-set seats number None)

    pub freed-items : items_in (set seats number None) ends ≡ items
    freed-items = stayed-items seats ends items ring (set seats number None) freed-same freed-few

    pub freed-ring : Ring (set seats number None) ends (items_in (set seats number None) ends)
    freed-ring = stayed-ring seats ends items ring (set seats number None) freed-same freed-few

  -- a seat is added
  module _ (s : Seat) (few : length seats < 2 ^ 64 - 1) where
    added-same : (k : ℕ) → IsIn k items → value_at (seats ++ Some s ∷ []) k ≡ value_at seats k
    added-same k h = value-pushed seats s k (seat-below seats k (ring.seated k h))

    added-few : length (seats ++ Some s ∷ []) < 2 ^ 64
    added-few = omega (arith, few, length-append seats (Some s ∷ []))

    pub added-items : items_in (seats ++ Some s ∷ []) ends ≡ items
    added-items = stayed-items seats ends items ring (seats ++ Some s ∷ []) added-same added-few

    pub added-ring : Ring (seats ++ Some s ∷ []) ends (items_in (seats ++ Some s ∷ []) ends)
    added-ring = stayed-ring seats ends items ring (seats ++ Some s ∷ []) added-same added-few

-- At each number but the end, the ends do not matter.
before-apart : (seats : List (Option Seat)) (e f : Seat) (k : ℕ) → k ≢ end_number → before_in seats e k ≡ before_in seats f k
before-apart seats e f k apart = elim (eqb_tells k end_number) [
  | inl t ↦ absurd (apart t.1)
  | inr t ↦ ap (λ b. cond b e.before (before_of (value_at seats k))) t.0 ∙ sym (ap (λ b. cond b f.before (before_of (value_at seats k))) t.0)
]

module _ (seats : List (Option Seat)) (ends : Seat) (items : List ℕ) (ring : Ring seats ends items) (number : ℕ) (out : IsIn number items → ⊥) (seat : is_some (value_at seats number) ≡ true) where
  abbrev newest : Seat
  newest = record { before = before_in seats ends end_number; after = end_number }

  abbrev placed : List (Option Seat)
  placed = set seats number (Some newest)

  no-end : number ≢ end_number
  no-end e = not-end seats ends items ring number out seat (sym e)

  its-newest : value_at placed number ≡ Some newest
  its-newest = get_or-set_same seats number (Some newest) None (seat-below seats number seat)

  others-stay : (k : ℕ) → k ≢ number → value_at placed k ≡ value_at seats k
  others-stay k apart = get_or-set_other seats number k (Some newest) None apart

  pub placed-place : HasPlace (set seats number (Some (record { before = before_in seats ends end_number; after = end_number }))) (before_in seats ends end_number)
  placed-place = elim (last-place seats ends items ring) [
    | inl e ↦ inl e
    | inr h ↦ inr (elim (eqb_tells (before_in seats ends end_number) number) [
      | inl e ↦ ap is_some (ap (value_at placed) e.1 ∙ its-newest)
      | inr e ↦ ap is_some (others-stay _ e.1) ∙ h
    ])
  ]

  module _ (s2 : List (Option Seat)) (e2 : Seat) (f : SetsAfter (set seats number (Some (record { before = before_in seats ends end_number; after = end_number }))) s2 ends e2 (before_in seats ends end_number) number) where
    abbrev e3 : Seat
    e3 = record { before = number; after = e2.after }

    last-apart-2 : number ≢ before_in seats ends end_number
    last-apart-2 e = elim (chain-last_in (after_in seats ends) (before_in seats ends) end_number items end_number ring.chain) [
      | inl h ↦ no-end (e ∙ h)
      | inr h ↦ out (is_in_equal _ number items (sym e) h)
    ]

    its-after : after_in placed ends number ≡ end_number
    its-after = elim (eqb_tells number end_number) [
      | inl t ↦ absurd (no-end t.1)
      | inr t ↦ ap (λ b. cond b ends.after (after_of (value_at placed number))) t.0 ∙ ap after_of its-newest
    ]

    its-before : before_in placed ends number ≡ before_in seats ends end_number
    its-before = elim (eqb_tells number end_number) [
      | inl t ↦ absurd (no-end t.1)
      | inr t ↦ ap (λ b. cond b ends.before (before_of (value_at placed number))) t.0 ∙ ap before_of its-newest
    ]

    known-2 : (k : ℕ) → is_some (value_at s2 k) ≡ is_some (value_at seats k)
    known-2 k = seat-known placed s2 k f.seats ∙ elim (eqb_tells k number) [
      | inl e ↦ ap is_some (ap (value_at placed) e.1 ∙ its-newest) ∙ sym (ap (λ z. is_some (value_at seats z)) e.1 ∙ seat)
      | inr e ↦ ap is_some (others-stay k e.1)
    ]

    put-last : Ring s2 (record { before = number; after = e2.after }) (items ++ number ∷ [])
    put-last = record {
      chain = chain-pushed_back (after_in seats ends) (before_in seats ends) (after_in s2 e3) (before_in s2 e3) end_number number items end_number
          f.here
          (before-apart s2 e3 e2 number no-end ∙ f.befores number ∙ its-before)
          (f.others number last-apart-2 ∙ its-after)
          refl
          (λ k kl kn. f.others k kl ∙ ap (λ v. cond (k == end_number) ends.after (after_of v)) (others-stay k kn))
          (λ k ke kn. before-apart s2 e3 e2 k ke ∙ f.befores k ∙ ap (λ v. cond (k == end_number) ends.before (before_of v)) (others-stay k kn))
          (end-out seats ends items ring) out (end-out seats ends items ring) (λ e. no-end (sym e)) ring.distinct ring.chain;
      distinct = distinct-pushed items number out ring.distinct;
      seated = λ k h. known-2 k ∙ elim (is_in-pushed k items number h) [
        | inl e ↦ subst (λ z. is_some (value_at seats z) ≡ true) (sym e) seat
        | inr i ↦ ring.seated k i
      ];
      few = omega (arith, ring.few, same-length placed s2 f.seats, length-set seats number (Some newest));
    }

    pub put-last-items : items_in s2 (record { before = number; after = e2.after }) ≡ items ++ number ∷ []
    put-last-items = ring-items s2 (record { before = number; after = e2.after }) (items ++ number ∷ []) put-last

    pub put-last-ring : Ring s2 (record { before = number; after = e2.after }) (items_in s2 (record { before = number; after = e2.after }))
    put-last-ring = subst (λ zs. Ring s2 (record { before = number; after = e2.after }) zs) (sym put-last-items) put-last

    pub put-last-seats : map is_some s2 ≡ map is_some seats
    put-last-seats = f.seats ∙ map-set is_some seats number (Some newest) ∙ same-true (map is_some seats) number (seats-there seats number ∙ seat)
      where
        same-true : (xs : List Bool) (i : ℕ) → get_or xs i false ≡ true → set xs i true ≡ xs
        same-true [] i h = refl
        same-true (x ∷ xs) zero h = ap (λ y. y ∷ xs) (sym h)
        same-true (x ∷ xs) (suc i) h = ap (λ ys. x ∷ ys) (same-true xs i h)

-- the front is taken out
pub front-before : (seats : List (Option Seat)) (ends : Seat) (front : ℕ) (rest : List ℕ) → Ring seats ends (front ∷ rest) → before_in seats ends front ≡ end_number
front-before seats ends front rest ring = ring.chain.0.back

pub front-joined : (seats s2 : List (Option Seat)) (ends e2 : Seat) (items : List ℕ) (ring : Ring seats ends items) (front next : ℕ) (rest : List ℕ) → items ≡ front ∷ rest → next ≡ after_in seats ends front
    → Joined seats s2 ends e2 end_number next → Joined seats s2 ends e2 (before_in seats ends front) (after_in seats ends front)
front-joined seats s2 ends e2 items ring front next rest is at joined =
    subst (λ z. Joined seats s2 ends e2 z (after_in seats ends front)) (sym (front-before seats ends front rest (subst (λ zs. Ring seats ends zs) is ring)))
    (subst (λ z. Joined seats s2 ends e2 end_number z) at joined)

pub front-in : (items : List ℕ) (front : ℕ) (rest : List ℕ) → items ≡ front ∷ rest → IsIn front items
front-in items front rest is = subst (λ zs. IsIn front zs) (sym is) (inl refl)
