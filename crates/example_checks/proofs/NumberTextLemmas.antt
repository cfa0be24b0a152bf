-- The texts of a few numbers.
use Rattle.std.proofs.Common.{◌≡◌, ℕ, ◌^◌, List, [], refl, sym, ◌∙◌, lit≤, lit<, codes, Some}
use Rattle.std.proofs.lemmas.List.{append-nil}
use Rattle.std.specs.Fmt.{decimal}
use Rattle.mono_text.specs.Parser.{digits_from}
use Rattle.mono_text.proofs.DigitLemmas.{digits_found}

number : (text : List ℕ) (n : ℕ) → digits_from (2 ^ 64) 0 0 text ≡ Some (n, []) → decimal n ≡ text
number text n e = sym ((digits_found (2 ^ 64) text n [] (lit< tt) (lit≤ tt) e).0 ∙ append-nil (decimal n))

pub zero_text : decimal 0 ≡ codes "0"
unfolding digits_from
zero_text = number (codes "0") 0 refl

pub one_text : decimal 1 ≡ codes "1"
unfolding digits_from
one_text = number (codes "1") 1 refl

pub five_text : decimal 5 ≡ codes "5"
unfolding digits_from
five_text = number (codes "5") 5 refl

pub seven_text : decimal 7 ≡ codes "7"
unfolding digits_from
seven_text = number (codes "7") 7 refl

pub sixteen_text : decimal 16 ≡ codes "16"
unfolding digits_from
sixteen_text = number (codes "16") 16 refl

pub nineteen_text : decimal 19 ≡ codes "19"
unfolding digits_from
nineteen_text = number (codes "19") 19 refl
