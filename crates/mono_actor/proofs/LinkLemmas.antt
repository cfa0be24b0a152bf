-- Keys in a chain, and the letters at them, when the store changes.
use Rattle.std.proofs.Common.{◌≡◌, ◌≢◌, ◌<◌, ◌+◌, zero, suc, inl, inr, ℕ, true, false, cond, List, [], ◌∷◌, ◌++◌, length, set, Some, None, Option, refl, ap, sym, subst, ◌∙◌, arith, ne_eqb}
use Rattle.std.specs.Prelude.{is_some}
use Rattle.std.proofs.lemmas.Bool.{cases_eq}
use Rattle.std.proofs.lemmas.List.{append_assoc, append-nil, length-append, get_or-set_same, get_or-set_other}
use Rattle.mono_wheel.specs.Lists.{IsIn}
use Rattle.mono_wheel.specs.Rings.{Distinct}
use Rattle.mono_actor.specs.Mailboxes.{keys_from, EndsAt, slot_at, next_of, letter_of, letters_at, IsPut}
use Rattle.mono_actor.specs.declared.mailboxes.Letter.{Letter}
use Rattle.mono_actor.specs.declared.mailboxes.Link.{Link}
use Rattle.mono_actor.specs.declared.mailboxes.Mailbox.{Mailbox}
use Rattle.mono_actor.proofs.TieLemmas.{given}

true-false : true ≡ false → ⊥
true-false e = cc

-- links that are the same at each key of a chain leave it
pub keys-frame : (next next2 : ℕ → ℕ) (count first : ℕ) → ((k : ℕ) → IsIn k (keys_from next count first) → next2 k ≡ next k) → keys_from next2 count first ≡ keys_from next count first
keys-frame next next2 zero first same = refl
keys-frame next next2 (suc count) first same =
    ap (λ n. first ∷ keys_from next2 count n) (same first (inl refl)) ∙ ap (λ ks. first ∷ ks) (keys-frame next next2 count (next first) (λ k is. same k (inr is)))

pub keys-count : (next : ℕ → ℕ) (count first : ℕ) → length (keys_from next count first) ≡ count
keys-count next zero first = refl
keys-count next (suc count) first = ap suc (keys-count next count (next first))

ends-in : (last key : ℕ) (keys : List ℕ) → EndsAt last (key ∷ keys) → IsIn last (key ∷ keys)
ends-in last key [] ends = inl ends
ends-in last key (other ∷ keys) ends = inr (ends-in last other keys ends)

-- the last key is one of them
pub last-in : (next : ℕ → ℕ) (last count first : ℕ) → 0 < count → EndsAt last (keys_from next count first) → IsIn last (keys_from next count first)
last-in next last zero first some ends = absurd (omega (arith, some))
last-in next last (suc count) first some ends = ends-in last first (keys_from next count (next first)) ends

-- a key comes after the last
pub keys-put : (next next2 : ℕ → ℕ) (last key count first : ℕ) → EndsAt last (keys_from next (suc count) first) → Distinct (keys_from next (suc count) first) → next2 last ≡ key
    → ((k : ℕ) → IsIn k (keys_from next (suc count) first) → k ≢ last → next2 k ≡ next k) → keys_from next2 (suc (suc count)) first ≡ keys_from next (suc count) first ++ key ∷ []
keys-put next next2 last key zero first ends once linked same = ap (λ k. first ∷ k ∷ []) (ap next2 (sym ends) ∙ linked)
keys-put next next2 last key (suc count) first ends once linked same =
    ap (λ n. first ∷ keys_from next2 (suc (suc count)) n) (same first (inl refl) (λ e. once.0 (subst (λ k. IsIn k (keys_from next (suc count) (next first))) (sym e) (ends-in last (next first) (keys_from next count (next (next first))) ends))))
    ∙ ap (λ ks. first ∷ ks) (keys-put next next2 last key count (next first) ends once.1 linked (λ k is apart. same k (inr is) apart))

pub ends-put : (key : ℕ) (keys : List ℕ) → EndsAt key (keys ++ key ∷ [])
ends-put key [] = refl
ends-put key (other ∷ []) = refl
ends-put key (other ∷ more ∷ keys) = ends-put key (more ∷ keys)

-- without the first the last stays
pub ends-rest : (last key : ℕ) (keys : List ℕ) → EndsAt last (key ∷ keys) → EndsAt last keys
ends-rest last key [] ends = tt
ends-rest last key (other ∷ keys) ends = ends

module _ {M : Type 0} where
  pub letters-frame : (old new : List (Option (Link M))) (keys : List ℕ) → ((k : ℕ) → IsIn k keys → letter_of (slot_at new k) ≡ letter_of (slot_at old k)) → letters_at new keys ≡ letters_at old keys
  letters-frame old new [] same = refl
  letters-frame old new (key ∷ keys) same =
      ap (λ ls. ls ++ letters_at new keys) (same key (inl refl)) ∙ ap (λ ls. letter_of (slot_at old key) ++ ls) (letters-frame old new keys (λ k is. same k (inr is)))

  pub letters-put : (slots : List (Option (Link M))) (keys : List ℕ) (key : ℕ) (letter : Letter M) → letter_of (slot_at slots key) ≡ letter ∷ [] → letters_at slots (keys ++ key ∷ []) ≡ letters_at slots keys ++ letter ∷ []
  letters-put slots [] key letter here = append-nil (letter_of (slot_at slots key)) ∙ here
  letters-put slots (first ∷ keys) key letter here =
      ap (λ ls. letter_of (slot_at slots first) ++ ls) (letters-put slots keys key letter here) ∙ sym (append_assoc (letter_of (slot_at slots first)) (letters_at slots keys) (letter ∷ []))

  one-letter : (v : Option (Link M)) → is_some v ≡ true → length (letter_of v) ≡ 1
  one-letter None is = absurd cc
  one-letter (Some link) is = refl

  -- a letter at each key
  pub letters-count : (slots : List (Option (Link M))) (keys : List ℕ) → ((k : ℕ) → IsIn k keys → is_some (slot_at slots k) ≡ true) → length (letters_at slots keys) ≡ length keys
  letters-count slots [] known = refl
  letters-count slots (key ∷ keys) known =
      omega (arith, length-append (letter_of (slot_at slots key)) (letters_at slots keys), one-letter (slot_at slots key) (known key (inl refl)), letters-count slots keys (λ k is. known k (inr is)))

  pub same-some : (v w : Option (Link M)) → letter_of w ≡ letter_of v → is_some w ≡ is_some v
  same-some None None e = refl
  same-some None (Some y) e = absurd cc
  same-some (Some x) None e = absurd cc
  same-some (Some x) (Some y) e = refl

  -- a letter that was put in, and that the last one names as the next
  pub put-linked : (letter : Letter M) (old mid : List (Option (Link M))) (before : Mailbox) (key next : ℕ) (x : Link M) → slot_at old key ≡ None → slot_at mid key ≡ Some (record { letter = letter; next = next })
      → ((k : ℕ) → k ≢ key → slot_at mid k ≡ slot_at old k) → slot_at mid before.last ≡ Some x → before.last ≢ key → before.count ≢ 0
      → IsPut letter old (set mid before.last (Some (record { letter = x.letter; next = key }))) before (record { first = before.first; last = key; count = before.count + 1 })
  put-linked letter old mid before key next x fresh here others last apart some =
      let below : before.last < length mid = given mid before.last x last in
      record {
        key = key;
        fresh = fresh;
        here = ap letter_of (get_or-set_other mid before.last key (Some (record { letter = x.letter; next = key })) None (λ e. apart (sym e)) ∙ here);
        letters = λ other not_key. elim (cases_eq other before.last) [
          | inl is ↦ (
              let same = others other not_key in
              ap (λ n. letter_of (slot_at (set mid before.last (Some (record { letter = x.letter; next = key }))) n)) is
              ∙ ap letter_of (get_or-set_same mid before.last (Some (record { letter = x.letter; next = key })) None below)
              ∙ ap letter_of (sym last) ∙ sym (ap (λ n. letter_of (slot_at mid n)) is) ∙ ap letter_of same)
          | inr not_last ↦ ap letter_of (get_or-set_other mid before.last other (Some (record { letter = x.letter; next = key })) None not_last ∙ others other not_key)
        ];
        linked = λ less. ap next_of (get_or-set_same mid before.last (Some (record { letter = x.letter; next = key })) None below);
        nexts = λ other not_key not_last. ap next_of (get_or-set_other mid before.last other (Some (record { letter = x.letter; next = key })) None (not_last (omega (arith, some))) ∙ others other not_key);
        is = sym (ap (λ b. record { first = cond b key before.first; last = key; count = before.count + 1 }) (ne_eqb before.count 0 some));
      }

  pub known-apart : (slots : List (Option (Link M))) (j k : ℕ) → is_some (slot_at slots j) ≡ true → slot_at slots k ≡ None → j ≢ k
  known-apart slots j k known free e = true-false (sym known ∙ ap (λ n. is_some (slot_at slots n)) e ∙ ap is_some free)
