-- The first line that leaves a form.
use Rattle.std.proofs.Common.{◌≡◌, ℕ, zero, suc, ◌-◌, ◌≤◌, List, [], ◌∷◌, ◌++◌, take, drop, refl, sym, ap, subst, ◌∙◌, arith, append_assoc, inl, inr}
use Rattle.std.proofs.lemmas.List.{take-append-drop}
use Rattle.std.proofs.lemmas.Bool.{cases_lt}
use Rattle.mono_text.specs.Lines.{Line}
use Rattle.mono_run.specs.Beginnings.{Begins, IsFirstOut, wrong, missing}

-- the front of lines in the form is a beginning
front_of_whole : (Form : List Line → Type 0) (all : List Line) (n : ℕ) → Form all → Begins Form (take n all)
front_of_whole Form all n f = (drop n all, subst Form (sym (take-append-drop n all)) f)

pub not_out : (Form : List Line → Type 0) (all : List Line) (n : ℕ) → Form all → IsFirstOut Form all n → ⊥
not_out Form all n f (wrong l m b fails) = fails (front_of_whole Form all n f)
not_out Form all n f (missing e b fails) = fails f

take_take : {A : Type 0} (m n : ℕ) (xs : List A) → m ≤ n → (rest : List A) × (take n xs ≡ take m xs ++ rest)
take_take zero n xs l = (take n xs, refl)
take_take (suc m) zero xs l = absurd (omega arith)
take_take (suc m) (suc n) [] l = ([], refl)
take_take (suc m) (suc n) (x ∷ xs) l = let k = take_take m n xs (omega arith) in (k.0, ap (λ ys. x ∷ ys) k.1)

-- a shorter front of a beginning is one
shorter : (Form : List Line → Type 0) (all : List Line) (m n : ℕ) → m ≤ n → Begins Form (take n all) → Begins Form (take m all)
shorter Form all m n l b =
    let k = take_take m n all l in
    (k.0 ++ b.0, subst Form (ap (λ x. x ++ b.0) k.1 ∙ append_assoc (take m all) k.0 b.0) b.1)

front : (Form : List Line → Type 0) (all : List Line) (m : ℕ) → Begins Form all → Begins Form (take m all)
front Form all m b = (drop m all ++ b.0, subst Form (ap (λ x. x ++ b.0) (sym (take-append-drop m all)) ∙ append_assoc (take m all) (drop m all) b.0) b.1)

pub once : (Form : List Line → Type 0) (all : List Line) (m n : ℕ) → IsFirstOut Form all m → IsFirstOut Form all n → m ≡ n
once Form all m n (missing e b fails) (missing d c fails2) = e ∙ sym d
once Form all m n (missing e b fails) (wrong l k c fails2) = absurd (fails2 (front Form all n b))
once Form all m n (wrong l k c fails2) (missing e b fails) = absurd (fails2 (front Form all m b))
once Form all m n (wrong l k c fails) (wrong l2 k2 c2 fails2) = elim (cases_lt m n) [
  | inl less ↦ absurd (fails (shorter Form all m (n - 1) (omega (arith, less)) c2))
  | inr more ↦ elim (cases_lt n m) [
    | inl less ↦ absurd (fails2 (shorter Form all n (m - 1) (omega (arith, less)) c))
    | inr same ↦ omega (arith, more, same)
  ]
]
