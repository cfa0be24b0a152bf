-- What the words of the command line say.
use Rattle.std.proofs.Common.{◌≡◌, ◌<◌, ◌≤◌, ◌^◌, ◌+◌, ℕ, Bool, true, false, List, [], ◌∷◌, ◌++◌, length, ap, sym, subst, ◌∙◌, refl, arith, get_or}
use Rattle.std.specs.Prelude.{decimal, Option, Some, None, IfSome, IfNone}
use Rattle.std.proofs.lemmas.Fmt.{decimal_injective}
use Rattle.lease_server.specs.Calls.{SaysSettings, number_words, still_word}
use Rattle.lease_server.specs.Arguments.{SaysMoving, SaysStill}
use Rattle.lease_server.specs.declared.words.Settings.{Settings}

-- a word of one number says no other
pub other_cores : (word : List ℕ) (n m : ℕ) → word ≡ decimal n → n < 2 ^ 64 → word ≡ decimal m → m ≤ 64 → n ≡ m
other_cores word n m one fits two most = decimal_injective n m fits (omega (arith, most)) (sym one ∙ two)

pub some_by : {A : Type 0} (r : Option A) (P Q : A → Type 0) → ((x : A) → P x → Q x) → IfSome r P → IfSome r Q
some_by (Some x) P Q f p = f x p
some_by None P Q f p = tt

pub none_by : {A : Type 0} (r : Option A) (P Q : Type 0) → (P → Q) → IfNone r P → IfNone r Q
none_by (Some x) P Q f p = tt
none_by None P Q f p = f p

-- all but the last
abbrev pub init : List (List ℕ) → List (List ℕ)
init [] = []
init (x ∷ []) = []
init (x ∷ y ∷ ys) = x ∷ init (y ∷ ys)

pub six : {S : Type 0} (ws : List S) (a b c d e f : S) → 6 ≤ length ws → length ws < 7
    → a ≡ get_or ws 0 a → b ≡ get_or ws 1 b → c ≡ get_or ws 2 c → d ≡ get_or ws 3 d → e ≡ get_or ws 4 e → f ≡ get_or ws 5 f → ws ≡ a ∷ b ∷ c ∷ d ∷ e ∷ f ∷ []
six [] a b c d e f l m p q r s t u = absurd (omega arith)
six (v ∷ []) a b c d e f l m p q r s t u = absurd (omega arith)
six (v ∷ w ∷ []) a b c d e f l m p q r s t u = absurd (omega arith)
six (v ∷ w ∷ x ∷ []) a b c d e f l m p q r s t u = absurd (omega arith)
six (v ∷ w ∷ x ∷ y ∷ []) a b c d e f l m p q r s t u = absurd (omega arith)
six (v ∷ w ∷ x ∷ y ∷ z ∷ []) a b c d e f l m p q r s t u = absurd (omega arith)
six (v ∷ w ∷ x ∷ y ∷ z ∷ k ∷ []) a b c d e f l m p q r s t u = rw (p, q, r, s, t, u) refl
six (v ∷ w ∷ x ∷ y ∷ z ∷ k ∷ i ∷ j) a b c d e f l m p q r s t u = absurd (omega arith)

pub seven : {S : Type 0} (ws : List S) (a b c d e f g : S) → 7 ≤ length ws → length ws < 8
    → a ≡ get_or ws 0 a → b ≡ get_or ws 1 b → c ≡ get_or ws 2 c → d ≡ get_or ws 3 d → e ≡ get_or ws 4 e → f ≡ get_or ws 5 f → g ≡ get_or ws 6 g → ws ≡ a ∷ b ∷ c ∷ d ∷ e ∷ f ∷ g ∷ []
seven [] a b c d e f g l m p q r s t u o = absurd (omega arith)
seven (v ∷ []) a b c d e f g l m p q r s t u o = absurd (omega arith)
seven (v ∷ w ∷ []) a b c d e f g l m p q r s t u o = absurd (omega arith)
seven (v ∷ w ∷ x ∷ []) a b c d e f g l m p q r s t u o = absurd (omega arith)
seven (v ∷ w ∷ x ∷ y ∷ []) a b c d e f g l m p q r s t u o = absurd (omega arith)
seven (v ∷ w ∷ x ∷ y ∷ z ∷ []) a b c d e f g l m p q r s t u o = absurd (omega arith)
seven (v ∷ w ∷ x ∷ y ∷ z ∷ k ∷ []) a b c d e f g l m p q r s t u o = absurd (omega arith)
seven (v ∷ w ∷ x ∷ y ∷ z ∷ k ∷ h ∷ []) a b c d e f g l m p q r s t u o = rw (p, q, r, s, t, u, o) refl
seven (v ∷ w ∷ x ∷ y ∷ z ∷ k ∷ h ∷ i ∷ j) a b c d e f g l m p q r s t u o = absurd (omega arith)

pub moving : (words : List (List ℕ)) (s : Settings) → SaysMoving words s → SaysSettings words s
moving words s says = record { text = says.text ∙ ap (λ b. number_words s ++ still_word b) (sym says.moves); fit = says.fit }

pub still : (words : List (List ℕ)) (s : Settings) → SaysStill words s → SaysSettings words s
still words s says = record { text = says.text ∙ ap (λ b. number_words s ++ still_word b) (sym says.stays); fit = says.fit }

neither_by : (words : List (List ℕ)) (s : Settings) (b : Bool) → s.is_still ≡ b → ((x : Settings) → SaysMoving words x → ⊥) → ((x : Settings) → SaysStill words x → ⊥) → SaysSettings words s → ⊥
neither_by words s false is one two says = one s (record { text = says.text ∙ ap (λ b. number_words s ++ still_word b) is; fit = says.fit; moves = is })
neither_by words s true is one two says = two s (record { text = says.text ∙ ap (λ b. number_words s ++ still_word b) is; fit = says.fit; stays = is })

pub neither : (words : List (List ℕ)) (s : Settings) → ((x : Settings) → SaysMoving words x → ⊥) → ((x : Settings) → SaysStill words x → ⊥) → SaysSettings words s → ⊥
neither words s one two says = neither_by words s s.is_still refl one two says
