-- The store when the mailbox or the mode of one actor changes.
use Rattle.std.proofs.Common.{◌≡◌, ◌≢◌, ◌<◌, ◌+◌, ◌-◌, zero, suc, inl, inr, ℕ, true, false, cond, List, [], ◌∷◌, ◌++◌, length, map, set, get_or, Some, None, Option, refl, ap, sym, subst, ◌∙◌, arith, ne_eqb}
use Rattle.std.specs.Prelude.{is_some, ◌==◌}
use Rattle.std.specs.Option.{option_map}
use Rattle.std.proofs.Math.ListN.{get_or-map}
use Rattle.std.proofs.lemmas.Bool.{cases_eq}
use Rattle.std.proofs.lemmas.List.{get_or-set_other, get_or-set_same, set-set}
use Rattle.std.proofs.lemmas.List.Sums.{sum_by-set}
use Rattle.mono_model.specs.Table.{value_at}
use Rattle.mono_wheel.specs.Lists.{IsIn}
use Rattle.mono_wheel.specs.Rings.{Distinct}
use Rattle.mono_wheel.proofs.ChainLemmas.{is_in-pushed, distinct-pushed, is_in_equal}
use Rattle.mono_actor.specs.Actors.{Actor}
use Rattle.mono_actor.specs.Places.{Place, actor_of, Changes}
use Rattle.mono_actor.specs.Mailboxes.{keys_from, EndsAt, count_in, slot_at, next_of, next_in, letter_of, letters_at, keys_of, keys_in, place_of, places_in, EndsIn, Sound, IsPut, IsTaken}
use Rattle.mono_actor.specs.declared.mailboxes.Letter.{Letter}
use Rattle.mono_actor.specs.declared.mailboxes.Link.{Link}
use Rattle.mono_actor.specs.declared.mailboxes.Mailbox.{Mailbox}
use Rattle.mono_actor.specs.declared.places.Entry.{Entry}
use Rattle.mono_actor.proofs.TieLemmas.{given}
use Rattle.mono_actor.proofs.LinkLemmas.{keys-frame, keys-count, last-in, keys-put, ends-put, ends-rest, letters-frame, letters-put, letters-count, same-some}

true-false : true ≡ false → ⊥
true-false e = cc

none-some : {X : Type 0} (x : X) → None ≡ Some x → ⊥
none-some x e = cc

equal-some : {X : Type 0} (x y : X) → Some x ≡ Some y → x ≡ y
equal-some x y e = cc

map-same : {X Y : Type 0} (f g : X → Y) (ys : List X) (d : X) → ((b : ℕ) → g (get_or ys b d) ≡ f (get_or ys b d)) → map g ys ≡ map f ys
map-same f g [] d same = refl
map-same f g (y ∷ ys) d same = ap (λ z. z ∷ map g ys) (same 0) ∙ ap (λ zs. f y ∷ zs) (map-same f g ys d (λ b. same (suc b)))

-- a map when one element changes, and the function nowhere else
map-changed : {X Y : Type 0} (f g : X → Y) (xs : List X) (a : ℕ) (x d : X) → ((b : ℕ) → b ≢ a → g (get_or xs b d) ≡ f (get_or xs b d)) → map g (set xs a x) ≡ set (map f xs) a (g x)
map-changed f g [] a x d same = refl
map-changed f g (y ∷ ys) zero x d same = ap (λ zs. g x ∷ zs) (map-same f g ys d (λ b. same (suc b) (λ e. cc)))
map-changed f g (y ∷ ys) (suc a) x d same =
    ap (λ z. z ∷ map g (set ys a x)) (same 0 (λ e. cc)) ∙ ap (λ zs. f y ∷ zs) (map-changed f g ys a x d (λ b apart. same (suc b) (λ e. apart (omega (arith, e)))))

module _ {M : Type 0} where
  -- one mailbox has other keys, and no other mailbox is touched
  pub record Moves (old new : List (Option (Link M))) (entries : List (Option Entry)) (a : ℕ) (v : Option Entry) : Type 0 where
    pub frame : (b k : ℕ) → b ≢ a → IsIn k (keys_in old (value_at entries b)) → (letter_of (slot_at new k) ≡ letter_of (slot_at old k)) × (next_in new k ≡ next_in old k)
    pub known : (k : ℕ) → IsIn k (keys_in new v) → is_some (slot_at new k) ≡ true
    pub distinct : Distinct (keys_in new v)
    pub apart : (b k : ℕ) → b ≢ a → IsIn k (keys_in new v) → IsIn k (keys_in old (value_at entries b)) → ⊥
    pub ends : EndsIn new v

  module _ (old new : List (Option (Link M))) (entries : List (Option Entry)) (a : ℕ) (v : Option Entry) (inside : a < length entries) (moves : Moves old new entries a v) where
    same-keys : (b : ℕ) → b ≢ a → (w : Option Entry) → value_at entries b ≡ w → keys_in new w ≡ keys_in old w
    same-keys b apart None at = refl
    same-keys b apart (Some e) at = keys-frame (next_in old) (next_in new) e.mailbox.count e.mailbox.first (λ k is. (moves.frame b k apart (subst (λ w. IsIn k (keys_in old w)) (sym at) is)).1)

    same-place : (b : ℕ) → b ≢ a → (w : Option Entry) → value_at entries b ≡ w → option_map (place_of new) w ≡ option_map (place_of old) w
    same-place b apart None at = refl
    same-place b apart (Some e) at =
        ap (λ ls. Some (record { mode = e.mode; mailbox = ls; timeout = e.timeout; timer = e.timer }))
        (ap (letters_at new) (same-keys b apart (Some e) at)
        ∙ letters-frame old new (keys_in old (Some e)) (λ k is. (moves.frame b k apart (subst (λ w. IsIn k (keys_in old w)) (sym at) is)).0))

    pub moved-places : places_in new (set entries a v) ≡ set (places_in old entries) a (option_map (place_of new) v)
    moved-places = map-changed (option_map (place_of old)) (option_map (place_of new)) entries a v None (λ b apart. same-place b apart (value_at entries b) refl)

    here : value_at (set entries a v) a ≡ v
    here = get_or-set_same entries a v None inside

    other : (b : ℕ) → b ≢ a → value_at (set entries a v) b ≡ value_at entries b
    other b apart = get_or-set_other entries a b v None apart

    -- the keys of an actor now
    keys-here : (b : ℕ) → b ≡ a → keys_in new (value_at (set entries a v) b) ≡ keys_in new v
    keys-here b is = ap (λ n. keys_in new (value_at (set entries a v) n)) is ∙ ap (keys_in new) here

    keys-other : (b : ℕ) → b ≢ a → keys_in new (value_at (set entries a v) b) ≡ keys_in old (value_at entries b)
    keys-other b apart = ap (keys_in new) (other b apart) ∙ same-keys b apart (value_at entries b) refl

    ends-other : (b : ℕ) → b ≢ a → (w : Option Entry) → value_at entries b ≡ w → EndsIn old w → EndsIn new w
    ends-other b apart None at ends = tt
    ends-other b apart (Some e) at ends = subst (λ ks. EndsAt e.mailbox.last ks) (sym (same-keys b apart (Some e) at)) ends

    pub moved-sound : (count count2 : ℕ) → Sound old count entries → count2 + count_in (value_at entries a) ≡ count + count_in v → Sound new count2 (set entries a v)
    moved-sound count count2 sound sum = record {
      known = λ b k is. elim (cases_eq b a) [
        | inl mine ↦ moves.known k (subst (IsIn k) (keys-here b mine) is)
        | inr apart ↦ (let was = subst (IsIn k) (keys-other b apart) is in same-some (slot_at old k) (slot_at new k) (moves.frame b k apart was).0 ∙ sound.known b k was)
      ];
      distinct = λ b. elim (cases_eq b a) [
        | inl mine ↦ subst Distinct (sym (keys-here b mine)) moves.distinct
        | inr apart ↦ subst Distinct (sym (keys-other b apart)) (sound.distinct b)
      ];
      apart = λ b c k in_b in_c. elim (cases_eq b a) [
        | inl b_mine ↦ elim (cases_eq c a) [
          | inl c_mine ↦ b_mine ∙ sym c_mine
          | inr c_apart ↦ absurd (moves.apart c k c_apart (subst (IsIn k) (keys-here b b_mine) in_b) (subst (IsIn k) (keys-other c c_apart) in_c))
        ]
        | inr b_apart ↦ elim (cases_eq c a) [
          | inl c_mine ↦ absurd (moves.apart b k b_apart (subst (IsIn k) (keys-here c c_mine) in_c) (subst (IsIn k) (keys-other b b_apart) in_b))
          | inr c_apart ↦ sound.apart b c k (subst (IsIn k) (keys-other b b_apart) in_b) (subst (IsIn k) (keys-other c c_apart) in_c)
        ]
      ];
      ends = λ b. elim (cases_eq b a) [
        | inl mine ↦ subst (λ n. EndsIn new (value_at (set entries a v) n)) (sym mine) (subst (λ w. EndsIn new w) (sym here) moves.ends)
        | inr apart ↦ subst (λ w. EndsIn new w) (sym (other b apart)) (ends-other b apart (value_at entries b) refl (sound.ends b))
      ];
      counted = omega (arith, sum, sound.counted, sum_by-set count_in entries a v None inside);
    }

  -- The links stay, and the actor has the same mailbox, or was removed with an empty one.
  pub stays : (slots : List (Option (Link M))) (count : ℕ) (entries : List (Option Entry)) (a : ℕ) (v : Option Entry) → Sound slots count entries
      → keys_in slots v ≡ keys_in slots (value_at entries a) → EndsIn slots v → Moves slots slots entries a v
  stays slots count entries a v sound same ends = record {
    frame = λ b k apart is. (refl, refl);
    known = λ k is. sound.known a k (subst (IsIn k) same is);
    distinct = subst Distinct (sym same) (sound.distinct a);
    apart = λ b k apart is there. apart (sound.apart b a k there (subst (IsIn k) same is));
    ends = ends;
  }

  pub ends-of : (slots : List (Option (Link M))) (entries : List (Option Entry)) (a : ℕ) (e f : Entry) → EndsIn slots (value_at entries a) → value_at entries a ≡ Some e → f.mailbox ≡ e.mailbox → EndsIn slots (Some f)
  ends-of slots entries a e f ends at same = subst (λ (m : Mailbox). EndsAt m.last (keys_of slots m)) (sym same) (subst (EndsIn slots) at ends)

  -- a letter comes into a mailbox
  module _ (old new : List (Option (Link M))) (count : ℕ) (entries : List (Option Entry)) (a : ℕ) (e f : Entry) (letter : Letter M) (sound : Sound old count entries) (at : value_at entries a ≡ Some e)
      (p : IsPut letter old new e.mailbox f.mailbox) where
    mine : (P : List ℕ → Type 0) → P (keys_in old (value_at entries a)) → P (keys_of old e.mailbox)
    mine P is = subst P (ap (keys_in old) at) is

    key-apart : (b k : ℕ) → IsIn k (keys_in old (value_at entries b)) → k ≢ p.key
    key-apart b k is e = true-false (sym (sound.known b k is) ∙ ap (λ n. is_some (slot_at old n)) e ∙ ap is_some p.fresh)

    key-new : (k : ℕ) → IsIn k (keys_of old e.mailbox) → k ≢ p.key
    key-new k is = key-apart a k (subst (λ w. IsIn k (keys_in old w)) (sym at) is)

    first-is : (n : ℕ) → e.mailbox.count ≡ n → keys_of new f.mailbox ≡ keys_from (next_in old) n e.mailbox.first ++ p.key ∷ []
    first-is zero none =
        ap (keys_of new) p.is
        ∙ ap (λ n. keys_from (next_in new) (n + 1) (cond (n == 0) p.key e.mailbox.first)) none
    first-is (suc n) some =
        ap (keys_of new) p.is
        ∙ ap (λ m. keys_from (next_in new) (m + 1) (cond (m == 0) p.key e.mailbox.first)) some
        ∙ ap (λ b. keys_from (next_in new) (suc n + 1) (cond b p.key e.mailbox.first)) (ne_eqb (suc n) 0 (λ e. omega (arith, e)))
        ∙ (let one : suc n + 1 ≡ suc (suc n) = omega arith in ap (λ m. keys_from (next_in new) m e.mailbox.first) one)
        ∙ keys-put (next_in old) (next_in new) e.mailbox.last p.key n e.mailbox.first
        (subst (λ m. EndsAt e.mailbox.last (keys_from (next_in old) m e.mailbox.first)) some (subst (EndsIn old) at (sound.ends a)))
        (subst (λ m. Distinct (keys_from (next_in old) m e.mailbox.first)) some (mine Distinct (sound.distinct a)))
        (p.linked (omega (arith, some)))
        (λ k is apart. p.nexts k (key-new k (subst (λ m. IsIn k (keys_from (next_in old) m e.mailbox.first)) (sym some) is)) (λ less. apart))

    pub put-keys : keys_of new f.mailbox ≡ keys_of old e.mailbox ++ p.key ∷ []
    put-keys = first-is e.mailbox.count refl

    last-mine : 0 < e.mailbox.count → IsIn e.mailbox.last (keys_in old (value_at entries a))
    last-mine some = subst (λ w. IsIn e.mailbox.last (keys_in old w)) (sym at) (last-in (next_in old) e.mailbox.last e.mailbox.count e.mailbox.first some (subst (EndsIn old) at (sound.ends a)))

    pub put-moves : Moves old new entries a (Some f)
    put-moves = record {
      frame = λ b k apart is. (
        p.letters k (key-apart b k is),
        p.nexts k (key-apart b k is) (λ some same. apart (sound.apart b a k is (subst (λ n. IsIn n (keys_in old (value_at entries a))) (sym same) (last-mine some)))),
      );
      known = λ k is. elim (is_in-pushed k (keys_of old e.mailbox) p.key (subst (IsIn k) put-keys is)) [
        | inl new_one ↦ key-known k new_one
        | inr old_one ↦ same-some (slot_at old k) (slot_at new k) (p.letters k (key-new k old_one)) ∙ sound.known a k (subst (λ w. IsIn k (keys_in old w)) (sym at) old_one)
      ];
      distinct = subst Distinct (sym put-keys) (distinct-pushed (keys_of old e.mailbox) p.key (λ is. key-new p.key is refl) (mine Distinct (sound.distinct a)));
      apart = λ b k apart is there. elim (is_in-pushed k (keys_of old e.mailbox) p.key (subst (IsIn k) put-keys is)) [
        | inl new_one ↦ key-apart b k there new_one
        | inr old_one ↦ apart (sound.apart b a k there (subst (λ w. IsIn k (keys_in old w)) (sym at) old_one))
      ];
      ends = subst (λ ks. EndsAt f.mailbox.last ks) (sym put-keys) (subst (λ n. EndsAt n (keys_of old e.mailbox ++ p.key ∷ [])) (sym (ap (λ (m : Mailbox). m.last) p.is)) (ends-put p.key (keys_of old e.mailbox)));
    }
      where
        some-letter : (w : Option (Link M)) → letter_of w ≡ letter ∷ [] → is_some w ≡ true
        some-letter None e = absurd cc
        some-letter (Some link) e = refl

        key-known : (k : ℕ) → k ≡ p.key → is_some (slot_at new k) ≡ true
        key-known k is = ap (λ n. is_some (slot_at new n)) is ∙ some-letter (slot_at new p.key) p.here

    pub put-letters : letters_at new (keys_of new f.mailbox) ≡ letters_at old (keys_of old e.mailbox) ++ letter ∷ []
    put-letters =
        ap (letters_at new) put-keys ∙ letters-put new (keys_of old e.mailbox) p.key letter p.here
        ∙ ap (λ ls. ls ++ letter ∷ []) (letters-frame old new (keys_of old e.mailbox) (λ k is. p.letters k (key-new k is)))

  -- the first letter of a mailbox is taken out
  module _ (old new : List (Option (Link M))) (count : ℕ) (entries : List (Option Entry)) (a : ℕ) (e f : Entry) (letter : Letter M) (sound : Sound old count entries) (at : value_at entries a ≡ Some e)
      (t : IsTaken letter old new e.mailbox f.mailbox) where
    next-is : next_in old e.mailbox.first ≡ t.next
    next-is = ap next_of t.was

    old-keys : keys_of old e.mailbox ≡ e.mailbox.first ∷ keys_from (next_in old) (e.mailbox.count - 1) t.next
    old-keys = by e.mailbox.count refl
      where
        by : (n : ℕ) → e.mailbox.count ≡ n → keys_from (next_in old) n e.mailbox.first ≡ e.mailbox.first ∷ keys_from (next_in old) (n - 1) t.next
        by zero none = absurd (omega (arith, none, t.some))
        by (suc n) some = ap (λ m. e.mailbox.first ∷ keys_from (next_in old) n m) next-is ∙ ap (λ m. e.mailbox.first ∷ keys_from (next_in old) m t.next) (omega arith)

    once : Distinct (e.mailbox.first ∷ keys_from (next_in old) (e.mailbox.count - 1) t.next)
    once = subst Distinct (ap (keys_in old) at ∙ old-keys) (sound.distinct a)

    in-old : (k : ℕ) → IsIn k (e.mailbox.first ∷ keys_from (next_in old) (e.mailbox.count - 1) t.next) → IsIn k (keys_in old (value_at entries a))
    in-old k is = subst (IsIn k) (sym (ap (keys_in old) at ∙ old-keys)) is

    rest-apart : (k : ℕ) → IsIn k (keys_from (next_in old) (e.mailbox.count - 1) t.next) → k ≢ e.mailbox.first
    rest-apart k is same = once.0 (is_in_equal k e.mailbox.first (keys_from (next_in old) (e.mailbox.count - 1) t.next) same is)

    pub take-keys : keys_of new f.mailbox ≡ keys_from (next_in old) (e.mailbox.count - 1) t.next
    take-keys = ap (keys_of new) t.is ∙ keys-frame (next_in old) (next_in new) (e.mailbox.count - 1) t.next (λ k is. ap next_of (t.others k (rest-apart k is)))

    pub take-moves : Moves old new entries a (Some f)
    take-moves = record {
      frame = λ b k apart is. (let same = t.others k (λ e. apart (sound.apart b a k is (in-old k (inl e)))) in (ap letter_of same, ap next_of same));
      known = λ k is. (let rest = subst (IsIn k) take-keys is in ap is_some (t.others k (rest-apart k rest)) ∙ sound.known a k (in-old k (inr rest)));
      distinct = subst Distinct (sym take-keys) once.1;
      apart = λ b k apart is there. apart (sound.apart b a k there (in-old k (inr (subst (IsIn k) take-keys is))));
      ends = subst (λ ks. EndsAt f.mailbox.last ks) (sym take-keys) (
          subst (λ n. EndsAt n (keys_from (next_in old) (e.mailbox.count - 1) t.next)) (sym (ap (λ (m : Mailbox). m.last) t.is)) (
          ends-rest e.mailbox.last e.mailbox.first (keys_from (next_in old) (e.mailbox.count - 1) t.next) (subst (λ ks. EndsAt e.mailbox.last ks) (ap (keys_in old) at ∙ old-keys) whole)));
    }
      where
        whole : EndsAt e.mailbox.last (keys_in old (value_at entries a))
        whole = subst (λ w. EndsAt e.mailbox.last (keys_in old w)) (sym at) (subst (EndsIn old) at (sound.ends a))

    pub take-letters : letters_at old (keys_of old e.mailbox) ≡ letter ∷ letters_at new (keys_of new f.mailbox)
    take-letters =
        ap (letters_at old) old-keys
        ∙ ap (λ w. letter_of w ++ letters_at old (keys_from (next_in old) (e.mailbox.count - 1) t.next)) t.was
        ∙ ap (λ ls. letter ∷ ls) (sym (ap (letters_at new) take-keys ∙ letters-frame old new (keys_from (next_in old) (e.mailbox.count - 1) t.next) (λ k is. ap letter_of (t.others k (rest-apart k is)))))

  -- a mailbox has as many letters as its count says
  pub mailbox-count : (slots : List (Option (Link M))) (count : ℕ) (entries : List (Option Entry)) (a : ℕ) (e : Entry) → Sound slots count entries → value_at entries a ≡ Some e
      → length (letters_at slots (keys_of slots e.mailbox)) ≡ e.mailbox.count
  mailbox-count slots count entries a e sound at =
      letters-count slots (keys_of slots e.mailbox) (λ k is. sound.known a k (subst (λ w. IsIn k (keys_in slots w)) (sym at) is))
      ∙ keys-count (next_in slots) e.mailbox.count e.mailbox.first

  pub at-places : (slots : List (Option (Link M))) (entries : List (Option Entry)) (a : ℕ) → value_at (places_in slots entries) a ≡ option_map (place_of slots) (value_at entries a)
  at-places slots entries a = get_or-map (option_map (place_of slots)) entries a None

  -- A change of an entry is a change of its actor.
  pub changes : (change : Actor M → Actor M) (old new : List (Option (Link M))) (entries : List (Option Entry)) (a : ℕ) (e f : Entry) → value_at entries a ≡ Some e → Moves old new entries a (Some f)
      → f.timer ≡ e.timer → actor_of (place_of new f) ≡ change (actor_of (place_of old e)) → Changes change a (places_in old entries) (places_in new (set entries a (Some f)))
  changes change old new entries a e f at moves timer actor = record {
    place = Some (place_of new f);
    becomes = record { before = place_of old e; after = place_of new f; was = at-places old entries a ∙ ap (option_map (place_of old)) at; is = refl; timer = timer; actor = actor };
    is = moved-places old new entries a (Some f) (given entries a e at) moves;
  }

  -- one change after another
  pub both : (first second : Actor M → Actor M) (a : ℕ) (old mid new : List (Option (Place M))) → Changes first a old mid → Changes second a mid new → a < length old → Changes (λ x. second (first x)) a old new
  both first second a old mid new f s inside =
      let there : s.becomes.before ≡ f.becomes.after = equal-some s.becomes.before f.becomes.after (sym s.becomes.was ∙ ap (λ (xs : List (Option (Place M))). value_at xs a) f.is ∙ get_or-set_same old a f.place None inside ∙ f.becomes.is) in
      record {
        place = s.place;
        becomes = record {
          before = f.becomes.before;
          after = s.becomes.after;
          was = f.becomes.was;
          is = s.becomes.is;
          timer = s.becomes.timer ∙ ap (λ (x : Place M). x.timer) there ∙ f.becomes.timer;
          actor = s.becomes.actor ∙ ap second (ap actor_of there ∙ f.becomes.actor);
        };
        is = s.is ∙ ap (λ xs. set xs a s.place) f.is ∙ set-set old a f.place s.place;
      }
