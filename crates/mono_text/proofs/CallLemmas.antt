-- Lines that spell calls: each line read is written so, and each line written is read so. For the services of other
-- crates.
use Rattle.std.proofs.Common.{◌≡◌, ℕ, ◌^◌, ◌<◌, ◌≤◌, List, [], ◌∷◌, ◌++◌, Option, Some, None, Result, Ok, Err, IfOk, IfSome, IfNone, false, codes, refl, sym, ap, subst, ◌∙◌, arith, inl, inr, append_assoc, lit≤, lit<}
use Rattle.std.specs.Fmt.{decimal}
use Rattle.mono_text.specs.Parser.{Read, GivesIf, when, mapped, then_read, word_at, number_at, behind_at, call_line_at}
use Rattle.mono_text.specs.Services.{HasNoFeed, StartsWith, StartsWithNone}
use Rattle.mono_text.proofs.DigitLemmas.{digits_found, digits_again, starts_digit}
use Rattle.mono_text.proofs.InputLineLemmas.{NoFeed, no_feed_number}
use Rattle.mono_text.proofs.SpellingLemmas.{when_cases, mapped_some, then_some}
use Rattle.mono_text.proofs.PrefixLemmas.{word_is}

-- ---- numbers

pub below_wide : 2 ^ 64 ≤ 10 ^ 64
below_wide = lit≤ tt

pub nanos_below_wide : 2 ^ 128 ≤ 10 ^ 64
nanos_below_wide = lit≤ tt

pub number_found : (bytes : List ℕ) (v : ℕ) (rest : List ℕ) → number_at bytes ≡ Some (v, rest) → (bytes ≡ decimal v ++ rest) × (v < 2 ^ 64)
number_found bytes v rest e = digits_found (2 ^ 64) bytes v rest (lit< tt) below_wide e

pub number_again : (v : ℕ) (rest : List ℕ) → v < 2 ^ 64 → starts_digit rest ≡ false → number_at (decimal v ++ rest) ≡ Some (v, rest)
number_again v rest f d = digits_again (2 ^ 64) v rest below_wide f d

pub behind_found : (bytes : List ℕ) (v : ℕ) (rest : List ℕ) → behind_at bytes ≡ Some (v, rest) → (bytes ≡ codes " " ++ decimal v ++ rest) × (v < 2 ^ 64)
behind_found bytes v rest e = elim (when_cases (word_at (codes " ") bytes) _ _ _ e) [
  | inl w ↦
      let k = number_found w.0 v rest w.2 in
      (word_is (codes " ") bytes w.0 w.1 ∙ ap (λ x. codes " " ++ x) k.0, k.1)
  | inr w ↦ cc w.1
]

-- two numbers after a word
pub record TwoFound {A : Type 0} (word : List ℕ) (make : ℕ → ℕ → A) (bytes : List ℕ) (y : A) (rest : List ℕ) : Type 0 where
  pub first : ℕ
  pub second : ℕ
  pub is : make first second ≡ y
  pub text : bytes ≡ (word ++ decimal first ++ codes " " ++ decimal second) ++ rest
  pub fits : (first < 2 ^ 64) × (second < 2 ^ 64)

regroup : (a b c d e : List ℕ) → a ++ (b ++ (c ++ d ++ e)) ≡ (a ++ b ++ c ++ d) ++ e
regroup a b c d e = grind (arith, append_assoc)

pub two_found : {A : Type 0} (word : List ℕ) (make : ℕ → ℕ → A) (bytes r : List ℕ) (y : A) (rest : List ℕ) → word_at word bytes ≡ Some r
    → then_read (number_at r) (λ a q. mapped (make a) (behind_at q)) ≡ Some (y, rest) → TwoFound word make bytes y rest
two_found word make bytes r y rest w e =
    let s = then_some (number_at r) (λ a q. mapped (make a) (behind_at q)) (y, rest) e in
    let n = number_found r s.0 s.1 s.2 in
    let m = mapped_some (make s.0) (behind_at s.1) y rest s.3 in
    let b = behind_found s.1 m.0 rest m.1 in
    record {
      first = s.0;
      second = m.0;
      is = m.2;
      text = word_is word bytes r w ∙ ap (λ x. word ++ x) (n.0 ∙ ap (λ x. decimal s.0 ++ x) b.0) ∙ regroup word (decimal s.0) (codes " ") (decimal m.0) rest;
      fits = (n.1, b.1);
    }

-- ---- no line feed

has_no_feed : (xs : List ℕ) → NoFeed xs → HasNoFeed xs
has_no_feed [] p = tt
has_no_feed (x ∷ xs) p = (p.0, has_no_feed xs p.1)

no_feed_of : (xs : List ℕ) → HasNoFeed xs → NoFeed xs
no_feed_of [] p = tt
no_feed_of (x ∷ xs) p = (p.0, no_feed_of xs p.1)

pub one_line_number : (word : List ℕ) (n : ℕ) → HasNoFeed word → n < 10 ^ 64 → HasNoFeed (word ++ decimal n)
one_line_number word n p l = has_no_feed (word ++ decimal n) (no_feed_number word n (no_feed_of word p) l)

pub one_line_both : (xs ys : List ℕ) → HasNoFeed xs → HasNoFeed ys → HasNoFeed (xs ++ ys)
one_line_both [] ys p q = q
one_line_both (x ∷ xs) ys p q = (p.0, one_line_both xs ys p.1 q)

pub one_line_two : (word : List ℕ) (a b : ℕ) → HasNoFeed word → a < 10 ^ 64 → b < 10 ^ 64 → HasNoFeed (word ++ decimal a ++ codes " " ++ decimal b)
one_line_two word a b p l m = one_line_number (word ++ decimal a ++ codes " ") b (one_line_both (word ++ decimal a) (codes " ") (one_line_number word a p l) (refl, tt)) m

-- ---- calls

module _ {A : Type 0} (text : A → List ℕ) (Fits : A → Type 0) (call_at : List ℕ → Read A) where
  -- a call is read exactly as it is written, and takes one line
  pub record Spells : Type 0 where
    pub found : (bytes : List ℕ) (call : A) (rest : List ℕ) → call_at bytes ≡ Some (call, rest) → (bytes ≡ text call ++ rest) × Fits call
    pub again : (call : A) (rest : List ℕ) → Fits call → call_at (text call ++ 10 ∷ rest) ≡ Some (call, 10 ∷ rest)
    pub one_line : (call : A) → Fits call → HasNoFeed (text call)

  line_found : Spells → (bytes : List ℕ) (call : A) (rest : List ℕ) → call_line_at call_at bytes ≡ Some (call, rest) → StartsWith text Fits bytes call rest
  line_found spells bytes call rest h =
      let s = then_some (call_at bytes) (λ x r. when (word_at (10 ∷ []) r) (λ r. Some (x, r)) None) (call, rest) h in
      elim (when_cases (word_at (10 ∷ []) s.1) _ _ _ s.3) [
        | inl w ↦
            let k : (s.0 ≡ call) × (w.0 ≡ rest) = grind (arith, w.2) in
            let f = spells.found bytes s.0 s.1 s.2 in
            let b : s.1 ≡ 10 ∷ rest = word_is (10 ∷ []) s.1 w.0 w.1 ∙ ap (λ r. 10 ∷ r) k.1 in
            subst (λ x. StartsWith text Fits bytes x rest) k.0 (record { is = f.0 ∙ ap (λ r. text s.0 ++ r) b; fits = f.1; one_line = spells.one_line s.0 f.1 })
        | inr w ↦ cc w.1
      ]

  pub found_call : {E : Type 0} → Spells → (r : Result (Option A) E) (bytes rest : List ℕ) → GivesIf r rest (call_line_at call_at bytes)
      → IfOk r (λ found. IfSome found (λ call. StartsWith text Fits bytes call rest))
  found_call spells (Ok None) bytes rest g = tt
  found_call spells (Ok (Some call)) bytes rest g = line_found spells bytes call rest g
  found_call spells (Err e) bytes rest g = tt

  pub none_call : {E : Type 0} → Spells → (r : Result (Option A) E) (bytes rest : List ℕ) → GivesIf r rest (call_line_at call_at bytes)
      → IfOk r (λ found. IfNone found (StartsWithNone text Fits bytes))
  none_call spells (Ok None) bytes rest g = λ call behind is fits.
      let same : call_line_at call_at bytes ≡ Some (call, behind) = ap (call_line_at call_at) is ∙ rw (spells.again call behind fits) refl in
      let bad : ◌≡◌ {A = Read A} None (Some (call, behind)) = sym g ∙ same in
      cc bad
  none_call spells (Ok (Some call)) bytes rest g = tt
  none_call spells (Err e) bytes rest g = tt
