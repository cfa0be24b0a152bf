-- A word that was compared with a text.
use Rattle.std.proofs.Common.{◌≡◌, ℕ, List, Bool, true, false, Option, Some, refl, sym, ap, ◌∙◌}
use Rattle.std.specs.Prelude.{nat_eq}
use Rattle.std.specs.Cmp.Lexicographic.{pointwise, same_text, other_text}

told_equal : (r : Bool) (xs ys : List ℕ) → r ≡ pointwise nat_eq xs ys → xs ≡ ys → r ≡ true
told_equal true xs ys is same = refl
told_equal false xs ys is same = absurd (other_text xs ys is same)

inside : (xs ys : List ℕ) → Some xs ≡ Some ys → xs ≡ ys
inside xs ys is = cc is

-- the word is the text if and only if the comparison says so
pub word_is : (r : Bool) (found : Option (List ℕ)) (word read text : List ℕ) → found ≡ Some word → read ≡ word → r ≡ pointwise nat_eq read text → (r ≡ true → found ≡ Some text) × (found ≡ Some text → r ≡ true)
word_is r found word read text at is told =
    (λ yes. at ∙ ap Some (sym is ∙ same_text read text (sym yes ∙ told)), λ there. told_equal r read text told (is ∙ inside word text (sym at ∙ there)))
