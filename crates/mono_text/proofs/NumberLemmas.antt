-- A number that is all of a text.
use Rattle.std.proofs.Common.{◌≡◌, ℕ, ◌^◌, ◌<◌, List, [], ◌∷◌, length, Some, None, Option, IfNone, refl, sym, ap, ◌∙◌, arith, lit≤, lit<}
use Rattle.std.proofs.lemmas.List.{append-nil}
use Rattle.std.specs.Fmt.{decimal}
use Rattle.mono_text.specs.Parser.{Read, number_at}
use Rattle.mono_text.proofs.DigitLemmas.{digits_found, digits_again}

pub if_none : {A P : Type 0} (o : Option A) → P → IfNone o P
if_none None p = p
if_none (Some x) p = tt

pub none_so : {A P Q : Type 0} (o : Option A) → (P → Q) → IfNone o P → IfNone o Q
none_so None f p = f p
none_so (Some x) f p = tt

pub whole : (text : List ℕ) (n : ℕ) (rest : List ℕ) → number_at text ≡ Some (n, rest) → length rest ≡ 0 → (text ≡ decimal n) × (n < 2 ^ 64)
whole text n [] e z =
    let k = digits_found (2 ^ 64) text n [] (lit< tt) (lit≤ tt) e in
    (k.0 ∙ append-nil (decimal n), k.1)
whole text n (b ∷ rest) e z = absurd (omega arith)

pub reads_whole : (text : List ℕ) (n : ℕ) → n < 2 ^ 64 → text ≡ decimal n → number_at text ≡ Some (n, [])
reads_whole text n l e = ap number_at (e ∙ sym (append-nil (decimal n))) ∙ digits_again (2 ^ 64) n [] (lit≤ tt) l refl

pub no_number : (text : List ℕ) → number_at text ≡ None → (n : ℕ) → n < 2 ^ 64 → text ≡ decimal n → ⊥
no_number text none n l e =
    let bad : ◌≡◌ {A = Read ℕ} None (Some (n, [])) = sym none ∙ reads_whole text n l e in
    cc bad

pub not_whole : (text : List ℕ) (v : ℕ) (rest : List ℕ) → number_at text ≡ Some (v, rest) → 0 < length rest → (n : ℕ) → n < 2 ^ 64 → text ≡ decimal n → ⊥
not_whole text v rest some more n l e =
    let same : ◌≡◌ {A = Read ℕ} (Some (v, rest)) (Some (n, [])) = sym some ∙ reads_whole text n l e in
    let none : rest ≡ [] = grind (arith, same) in
    omega (arith, ap length none)
