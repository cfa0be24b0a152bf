-- A call is read exactly as it is written.
use Rattle.std.proofs.Common.{◌≡◌, ℕ, ◌^◌, List, ◌∷◌, ◌++◌, Some, codes, refl, ap, subst, ◌∙◌, arith, inl, inr, append_assoc, lit<}
use Rattle.std.specs.Fmt.{decimal}
use Rattle.mono_text.specs.Parser.{word_at}
use Rattle.mono_text.specs.Services.{HasNoFeed}
use Rattle.mono_text.proofs.CallLemmas.{Spells, below_wide, nanos_below_wide, number_again, two_found, one_line_number, one_line_two}
use Rattle.mono_text.proofs.DigitLemmas.{digits_again}
use Rattle.mono_text.proofs.SpellingLemmas.{when_cases, numbered_found}
use Rattle.mono_lines.specs.declared.session.calls.SessionCall.{SessionCall}
use Rattle.mono_lines.specs.declared.session.calls.SessionCall.TheVariants as line
use Rattle.mono_lines.specs.SessionTexts.{call_text, FitsCall}
use Rattle.mono_lines.specs.SessionParser.{call_at, queue_call_at}

abbrev CallIs : List ℕ → List ℕ → SessionCall → Type 0
CallIs bytes rest c = (bytes ≡ call_text c ++ rest) × FitsCall c

queue_call_found : (bytes : List ℕ) (c : SessionCall) (rest : List ℕ) → queue_call_at bytes ≡ Some (c, rest) → CallIs bytes rest c
unfolding queue_call_at
queue_call_found bytes c rest e = elim (when_cases (word_at (codes "acquire ") bytes) _ _ _ e) [
  | inl u ↦
      let k = two_found (codes "acquire ") line.Acquire bytes u.0 c rest u.1 u.2 in
      subst (CallIs bytes rest) k.is (k.text, k.fits)
  | inr w ↦ elim (when_cases (word_at (codes "release ") bytes) _ _ _ w.1) [
    | inl u ↦
        let k = two_found (codes "release ") line.Release bytes u.0 c rest u.1 u.2 in
        subst (CallIs bytes rest) k.is (k.text, k.fits)
    | inr w ↦ elim (when_cases (word_at (codes "owner ") bytes) _ _ _ w.1) [
      | inl u ↦
          let k = numbered_found (2 ^ 64) (codes "owner ") line.Owner bytes u.0 c rest (lit< tt) below_wide u.1 u.2 in
          subst (CallIs bytes rest) k.1 (k.2, k.3)
      | inr w ↦ cc w.1
    ]
  ]
]

call_found : (bytes : List ℕ) (c : SessionCall) (rest : List ℕ) → call_at bytes ≡ Some (c, rest) → CallIs bytes rest c
unfolding call_at
call_found bytes c rest e = elim (when_cases (word_at (codes "beat ") bytes) _ _ _ e) [
  | inl u ↦
      let k = numbered_found (2 ^ 64) (codes "beat ") line.Beat bytes u.0 c rest (lit< tt) below_wide u.1 u.2 in
      subst (CallIs bytes rest) k.1 (k.2, k.3)
  | inr w ↦ elim (when_cases (word_at (codes "clock ") bytes) _ _ _ w.1) [
    | inl u ↦
        let k = numbered_found (2 ^ 128) (codes "clock ") line.Clock bytes u.0 c rest (lit< tt) nanos_below_wide u.1 u.2 in
        subst (CallIs bytes rest) k.1 (k.2, k.3)
    | inr w ↦ elim (when_cases (word_at (codes "open ") bytes) _ _ _ w.1) [
      | inl u ↦
          let k = numbered_found (2 ^ 64) (codes "open ") line.Open bytes u.0 c rest (lit< tt) below_wide u.1 u.2 in
          subst (CallIs bytes rest) k.1 (k.2, k.3)
      | inr w ↦ elim (when_cases (word_at (codes "close ") bytes) _ _ _ w.1) [
        | inl u ↦
            let k = numbered_found (2 ^ 64) (codes "close ") line.Close bytes u.0 c rest (lit< tt) below_wide u.1 u.2 in
            subst (CallIs bytes rest) k.1 (k.2, k.3)
        | inr w ↦ queue_call_found bytes c rest w.1
      ]
    ]
  ]
]

regroup : (a b c d e : List ℕ) → (a ++ b ++ c ++ d) ++ e ≡ a ++ (b ++ (c ++ (d ++ e)))
regroup a b c d e = grind (arith, append_assoc)

call_again : (c : SessionCall) (rest : List ℕ) → FitsCall c → call_at (call_text c ++ 10 ∷ rest) ≡ Some (c, 10 ∷ rest)
unfolding call_at queue_call_at
call_again (line.Open limit) rest f = rw (number_again limit (10 ∷ rest) f refl) refl
call_again (line.Beat s) rest f = rw (number_again s (10 ∷ rest) f refl) refl
call_again (line.Close s) rest f = rw (number_again s (10 ∷ rest) f refl) refl
call_again (line.Acquire s key) rest f =
    ap call_at (regroup (codes "acquire ") (decimal s) (codes " ") (decimal key) (10 ∷ rest))
    ∙ rw (number_again s (codes " " ++ (decimal key ++ 10 ∷ rest)) f.0 refl, number_again key (10 ∷ rest) f.1 refl) refl
call_again (line.Release s key) rest f =
    ap call_at (regroup (codes "release ") (decimal s) (codes " ") (decimal key) (10 ∷ rest))
    ∙ rw (number_again s (codes " " ++ (decimal key ++ 10 ∷ rest)) f.0 refl, number_again key (10 ∷ rest) f.1 refl) refl
call_again (line.Owner key) rest f = rw (number_again key (10 ∷ rest) f refl) refl
call_again (line.Clock n) rest f = rw (digits_again (2 ^ 128) n (10 ∷ rest) nanos_below_wide f refl) refl

call_one_line : (c : SessionCall) → FitsCall c → HasNoFeed (call_text c)
call_one_line (line.Open limit) f = one_line_number (codes "open ") limit (refl, (refl, (refl, (refl, (refl, tt))))) (omega (arith, f))
call_one_line (line.Beat s) f = one_line_number (codes "beat ") s (refl, (refl, (refl, (refl, (refl, tt))))) (omega (arith, f))
call_one_line (line.Close s) f = one_line_number (codes "close ") s (refl, (refl, (refl, (refl, (refl, (refl, tt)))))) (omega (arith, f))
call_one_line (line.Acquire s key) f =
    one_line_two (codes "acquire ") s key (refl, (refl, (refl, (refl, (refl, (refl, (refl, (refl, tt)))))))) (omega (arith, f.0)) (omega (arith, f.1))
call_one_line (line.Release s key) f =
    one_line_two (codes "release ") s key (refl, (refl, (refl, (refl, (refl, (refl, (refl, (refl, tt)))))))) (omega (arith, f.0)) (omega (arith, f.1))
call_one_line (line.Owner key) f = one_line_number (codes "owner ") key (refl, (refl, (refl, (refl, (refl, (refl, tt)))))) (omega (arith, f))
call_one_line (line.Clock n) f = one_line_number (codes "clock ") n (refl, (refl, (refl, (refl, (refl, (refl, tt)))))) (omega (arith, f))

pub spells : Spells call_text FitsCall call_at
spells = record { found = call_found; again = call_again; one_line = call_one_line }
