-- The bytes after a prefix, by a test for it.
use Rattle.std.proofs.Common.{◌≡◌, ℕ, ◌+◌, ◌<◌, false, Some, None, List, [], ◌∷◌, ◌++◌, length, drop, refl, arith, inl, inr, nat_eq, slice_index}
use Rattle.std.proofs.lemmas.Bool.{cases_Bool, eqb-true, eq-eqb}
use Rattle.std.proofs.lemmas.List.{drop_more, drop_all}
use Rattle.mono_text.specs.Parser.{word_at}

pub word_short : (word bytes : List ℕ) → length bytes < length word → word_at word bytes ≡ None
word_short [] bytes e = let no : ⊥ = omega arith in elim no [ ]
word_short (w ∷ ws) [] e = refl
word_short (w ∷ ws) (b ∷ bs) e = elim (cases_Bool (nat_eq b w)) [
  | inl same ↦ rw same (word_short ws bs (omega arith))
  | inr other ↦ rw other refl
]

-- at place i the bytes go on as the word does, or not
pub word_goes_on : (word bytes : List ℕ) (i : ℕ) → i < length word → i < length bytes → slice_index bytes i ≡ slice_index word i
    → word_at (drop i word) (drop i bytes) ≡ word_at (drop (i + 1) word) (drop (i + 1) bytes)
word_goes_on word bytes i in_word in_bytes same =
    rw (drop_more word i 0 in_word, drop_more bytes i 0 in_bytes, same, eq-eqb (slice_index word i) (slice_index word i) refl) refl

pub word_ends : (word bytes : List ℕ) (i : ℕ) → i < length word → i < length bytes → nat_eq (slice_index bytes i) (slice_index word i) ≡ false
    → word_at (drop i word) (drop i bytes) ≡ None
word_ends word bytes i in_word in_bytes other = rw (drop_more word i 0 in_word, drop_more bytes i 0 in_bytes, other) refl

pub word_through : (word bytes : List ℕ) (i : ℕ) → i ≡ length word → word_at (drop i word) (drop i bytes) ≡ Some (drop (length word) bytes)
word_through word bytes i e = rw (e, drop_all (length word) word (omega arith)) refl

-- the bytes are the word and the bytes after it
pub word_is : (word bytes rest : List ℕ) → word_at word bytes ≡ Some rest → bytes ≡ word ++ rest
word_is [] bytes rest e = grind arith
word_is (w ∷ ws) [] rest e = cc e
word_is (w ∷ ws) (b ∷ bs) rest e = elim (cases_Bool (nat_eq b w)) [
  | inl same ↦
      let h = word_is ws bs rest (rw same at e) in
      let k : b ≡ w = eqb-true b w same in
      rw (h, k) refl
  | inr other ↦ cc (rw other at e)
]
