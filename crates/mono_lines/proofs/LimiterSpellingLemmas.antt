-- Calls are read as they are spelled, and spelled as they are read.
use Rattle.std.proofs.Common.{◌≡◌, ℕ, ◌^◌, ◌++◌, List, ◌∷◌, Some, refl, sym, ap, subst, ◌∙◌, arith, inl, inr, append_assoc, codes, lit<}
use Rattle.std.specs.Fmt.{decimal}
use Rattle.mono_text.specs.Parser.{mapped, then_read, word_at, number_at, behind_at}
use Rattle.mono_text.specs.Services.{HasNoFeed}
use Rattle.mono_text.proofs.PrefixLemmas.{word_is}
use Rattle.mono_text.proofs.DigitLemmas.{digits_again}
use Rattle.mono_text.proofs.SpellingLemmas.{when_cases, mapped_some, then_some, numbered_found}
use Rattle.mono_text.proofs.CallLemmas.{Spells, below_wide, nanos_below_wide, number_found, number_again, behind_found, two_found, one_line_number, one_line_two, one_line_both}
use Rattle.mono_lines.specs.declared.limit.calls.LimiterCall.{LimiterCall}
use Rattle.mono_lines.specs.declared.limit.calls.LimiterCall.TheVariants as line
use Rattle.mono_lines.specs.LimiterTexts.{call_text, FitsCall}
use Rattle.mono_lines.specs.LimiterParser.{retry_at, slow_call_at, call_at}

-- the parts of a line of two numbers, and of three
two_parts : (a b c d e : List ℕ) → a ++ (b ++ (c ++ (d ++ e))) ≡ a ++ b ++ c ++ d ++ e
two_parts a b c d e = grind (arith, append_assoc)

three_parts : (a b c d e f g : List ℕ) → a ++ (b ++ (c ++ (d ++ (e ++ (f ++ g))))) ≡ a ++ b ++ c ++ d ++ e ++ f ++ g
three_parts a b c d e f g = grind (arith, append_assoc)

-- ---- what is read is spelled so

abbrev CallIs : List ℕ → List ℕ → LimiterCall → Type 0
CallIs bytes rest c = (bytes ≡ call_text c ++ rest) × FitsCall c

retry_text : (bytes r : List ℕ) (base cap most : ℕ) (q p rest : List ℕ) → bytes ≡ codes "retry " ++ r → r ≡ decimal base ++ q → q ≡ codes " " ++ decimal cap ++ p → p ≡ codes " " ++ decimal most ++ rest
    → bytes ≡ call_text (line.Retry base cap most) ++ rest
retry_text bytes r base cap most q p rest i j k l = i ∙ ap (λ x. codes "retry " ++ x) (j ∙ ap (λ x. decimal base ++ x) (k ∙ ap (λ x. codes " " ++ decimal cap ++ x) l))
    ∙ three_parts (codes "retry ") (decimal base) (codes " ") (decimal cap) (codes " ") (decimal most) rest

retry_found : (bytes r : List ℕ) (c : LimiterCall) (rest : List ℕ) → word_at (codes "retry ") bytes ≡ Some r → retry_at r ≡ Some (c, rest) → CallIs bytes rest c
retry_found bytes r c rest w e =
    let s = then_some (number_at r) (λ base r. then_read (behind_at r) (λ cap q. mapped (line.Retry base cap) (behind_at q))) (c, rest) e in
    let n = number_found r s.0 s.1 s.2 in
    let t = then_some (behind_at s.1) (λ cap q. mapped (line.Retry s.0 cap) (behind_at q)) (c, rest) s.3 in
    let b = behind_found s.1 t.0 t.1 t.2 in
    let m = mapped_some (line.Retry s.0 t.0) (behind_at t.1) c rest t.3 in
    let l = behind_found t.1 m.0 rest m.1 in
    subst (CallIs bytes rest) m.2 (retry_text bytes r s.0 t.0 m.0 s.1 t.1 rest (word_is (codes "retry ") bytes r w) n.0 b.0 l.0, (n.1, b.1, l.1))

slow_call_found : (bytes : List ℕ) (c : LimiterCall) (rest : List ℕ) → slow_call_at bytes ≡ Some (c, rest) → CallIs bytes rest c
unfolding slow_call_at
slow_call_found bytes c rest e = elim (when_cases (word_at (codes "bucket ") bytes) _ _ _ e) [
  | inl u ↦
      let k = two_found (codes "bucket ") line.Bucket bytes u.0 c rest u.1 u.2 in
      subst (CallIs bytes rest) k.is (k.text, k.fits)
  | inr v ↦ elim (when_cases (word_at (codes "retry ") bytes) _ _ _ v.1) [
    | inl u ↦ retry_found bytes u.0 c rest u.1 u.2
    | inr w ↦ elim (when_cases (word_at (codes "done ") bytes) _ _ _ w.1) [
      | inl u ↦
          let k = numbered_found (2 ^ 64) (codes "done ") line.Done bytes u.0 c rest (lit< tt) below_wide u.1 u.2 in
          subst (CallIs bytes rest) k.1 (k.2, k.3)
      | inr x ↦ cc x.1
    ]
  ]
]

call_found : (bytes : List ℕ) (c : LimiterCall) (rest : List ℕ) → call_at bytes ≡ Some (c, rest) → CallIs bytes rest c
unfolding call_at
call_found bytes c rest e = elim (when_cases (word_at (codes "take ") bytes) _ _ _ e) [
  | inl u ↦
      let k = two_found (codes "take ") line.Take bytes u.0 c rest u.1 u.2 in
      subst (CallIs bytes rest) k.is (k.text, k.fits)
  | inr v ↦ elim (when_cases (word_at (codes "fail ") bytes) _ _ _ v.1) [
    | inl u ↦
        let k = numbered_found (2 ^ 64) (codes "fail ") line.Fail bytes u.0 c rest (lit< tt) below_wide u.1 u.2 in
        subst (CallIs bytes rest) k.1 (k.2, k.3)
    | inr w ↦ elim (when_cases (word_at (codes "clock ") bytes) _ _ _ w.1) [
      | inl u ↦
          let k = numbered_found (2 ^ 128) (codes "clock ") line.Clock bytes u.0 c rest (lit< tt) nanos_below_wide u.1 u.2 in
          subst (CallIs bytes rest) k.1 (k.2, k.3)
      | inr x ↦ slow_call_found bytes c rest x.1
    ]
  ]
]

-- ---- what is spelled so is read

call_again : (c : LimiterCall) (rest : List ℕ) → FitsCall c → call_at (call_text c ++ 10 ∷ rest) ≡ Some (c, 10 ∷ rest)
unfolding call_at slow_call_at
call_again (line.Bucket burst period) rest f =
    ap call_at (sym (two_parts (codes "bucket ") (decimal burst) (codes " ") (decimal period) (10 ∷ rest)))
    ∙ rw (number_again burst (codes " " ++ (decimal period ++ 10 ∷ rest)) f.0 refl, number_again period (10 ∷ rest) f.1 refl) refl
call_again (line.Take b n) rest f =
    ap call_at (sym (two_parts (codes "take ") (decimal b) (codes " ") (decimal n) (10 ∷ rest)))
    ∙ rw (number_again b (codes " " ++ (decimal n ++ 10 ∷ rest)) f.0 refl, number_again n (10 ∷ rest) f.1 refl) refl
call_again (line.Retry base cap most) rest f =
    ap call_at (sym (three_parts (codes "retry ") (decimal base) (codes " ") (decimal cap) (codes " ") (decimal most) (10 ∷ rest)))
    ∙ rw (number_again base (codes " " ++ (decimal cap ++ (codes " " ++ (decimal most ++ 10 ∷ rest)))) f.0 refl, number_again cap (codes " " ++ (decimal most ++ 10 ∷ rest)) f.1 refl, number_again most (10 ∷ rest) f.2 refl) refl
call_again (line.Fail r) rest f = rw (number_again r (10 ∷ rest) f refl) refl
call_again (line.Done r) rest f = rw (number_again r (10 ∷ rest) f refl) refl
call_again (line.Clock n) rest f = rw (digits_again (2 ^ 128) n (10 ∷ rest) nanos_below_wide f refl) refl

-- ---- no line feed in a line

one_line_call : (c : LimiterCall) → FitsCall c → HasNoFeed (call_text c)
one_line_call (line.Bucket burst period) f = one_line_two (codes "bucket ") burst period (refl, (refl, (refl, (refl, (refl, (refl, (refl, tt))))))) (omega (arith, f.0)) (omega (arith, f.1))
one_line_call (line.Take b n) f = one_line_two (codes "take ") b n (refl, (refl, (refl, (refl, (refl, tt))))) (omega (arith, f.0)) (omega (arith, f.1))
one_line_call (line.Retry base cap most) f =
    let front = codes "retry " ++ decimal base ++ codes " " ++ decimal cap in
    let two : HasNoFeed front = one_line_two (codes "retry ") base cap (refl, (refl, (refl, (refl, (refl, (refl, tt)))))) (omega (arith, f.0)) (omega (arith, f.1)) in
    one_line_number (front ++ codes " ") most (one_line_both front (codes " ") two (refl, tt)) (omega (arith, f.2))
one_line_call (line.Fail r) f = one_line_number (codes "fail ") r (refl, (refl, (refl, (refl, (refl, tt))))) (omega arith)
one_line_call (line.Done r) f = one_line_number (codes "done ") r (refl, (refl, (refl, (refl, (refl, tt))))) (omega arith)
one_line_call (line.Clock n) f = one_line_number (codes "clock ") n (refl, (refl, (refl, (refl, (refl, (refl, tt)))))) (omega arith)

pub spells : Spells call_text FitsCall call_at
spells = record { found = call_found; again = call_again; one_line = one_line_call }
