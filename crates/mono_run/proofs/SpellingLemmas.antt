-- Each line read is spelled so, and each spelling is read so.
use Rattle.std.proofs.Common.{◌≡◌, ℕ, ◌^◌, ◌<◌, ◌≤◌, ◌++◌, List, [], ◌∷◌, length, Some, None, Option, IfNone, ◌⊎◌, refl, sym, ap, subst, ◌∙◌, arith, inl, inr, append_assoc, codes, lit≤, lit<, nat_eq, true}
use Rattle.std.proofs.lemmas.Bool.{eq-eqb}
use Rattle.std.proofs.lemmas.List.{append-nil}
use Rattle.std.specs.Fmt.{decimal}
use Rattle.mono_machine.specs.declared.events.Limits.{Limits}
use Rattle.mono_text.specs.LineText.{FitLimits}
use Rattle.mono_text.specs.Parser.{Gives, Read, when, then_read, word_at, number_at}
use Rattle.mono_text.proofs.PrefixLemmas.{word_is}
use Rattle.mono_text.proofs.DigitLemmas.{digits_found, digits_again}
use Rattle.mono_text.proofs.NumberLemmas.{if_none, reads_whole, whole}
use Rattle.mono_run.specs.ScriptText.{limits_text}
use Rattle.mono_run.specs.Parser.{limits_at, limits_of}

pub word_again : (word rest : List ℕ) → word_at word (word ++ rest) ≡ Some rest
word_again [] rest = refl
word_again (w ∷ word) rest = rw (eq-eqb w w refl) (word_again word rest)

-- ---- a word and a number

pub no_word : (word text : List ℕ) (n : ℕ) → word_at word text ≡ None → text ≡ word ++ decimal n → ⊥
no_word word text n none e =
    let bad : ◌≡◌ {A = Option (List ℕ)} None (Some (decimal n)) = sym none ∙ ap (word_at word) e ∙ word_again word (decimal n) in
    cc bad

behind : (word text rest : List ℕ) (n : ℕ) → word_at word text ≡ Some rest → text ≡ word ++ decimal n → rest ≡ decimal n
behind word text rest n some e =
    let same : ◌≡◌ {A = Option (List ℕ)} (Some rest) (Some (decimal n)) = sym some ∙ ap (word_at word) e ∙ word_again word (decimal n) in
    grind (arith, same)

pub no_number_behind : (word text rest : List ℕ) (n : ℕ) → word_at word text ≡ Some rest → number_at rest ≡ None → n < 2 ^ 64 → text ≡ word ++ decimal n → ⊥
no_number_behind word text rest n some none l e =
    let bad : ◌≡◌ {A = Read ℕ} None (Some (n, [])) = sym none ∙ reads_whole rest n l (behind word text rest n some e) in
    cc bad

pub number_behind : (word text rest left : List ℕ) (n : ℕ) → word_at word text ≡ Some rest → number_at rest ≡ Some (n, left) → length left ≡ 0 → (text ≡ word ++ decimal n) × (n < 2 ^ 64)
number_behind word text rest left n some number none =
    let k = whole rest n left number none in
    (word_is word text rest some ∙ ap (λ r. word ++ r) k.0, k.1)

pub more_behind : (word text rest left : List ℕ) (v n : ℕ) → word_at word text ≡ Some rest → number_at rest ≡ Some (v, left) → (length left ≡ 0 → ⊥) → n < 2 ^ 64 → text ≡ word ++ decimal n → ⊥
more_behind word text rest left v n some number more l e =
    let same : ◌≡◌ {A = Read ℕ} (Some (v, left)) (Some (n, [])) = sym number ∙ reads_whole rest n l (behind word text rest n some e) in
    let none : left ≡ [] = grind (arith, same) in
    more (ap length none)

-- ---- the limits

small : 2 ^ 64 ≤ 10 ^ 64
small = lit≤ tt

when_some : {A : Type 0} (o : Option (List ℕ)) (f : List ℕ → Read A) (y : A × List ℕ) → when o f None ≡ Some y → (r : List ℕ) × (o ≡ Some r) × (f r ≡ Some y)
when_some None f y e = cc e
when_some (Some r) f y e = (r, refl, e)

then_some : {A B : Type 0} (o : Read A) (f : A → List ℕ → Read B) (y : B × List ℕ) → then_read o f ≡ Some y → (x : A) × (r : List ℕ) × (o ≡ Some (x, r)) × (f x r ≡ Some y)
then_some None f y e = cc e
then_some (Some x) f y e = (x.0, x.1, refl, e)

regroup : (a b c d e f : List ℕ) → a ++ (b ++ (c ++ (d ++ (e ++ f)))) ≡ a ++ b ++ c ++ d ++ e ++ f
regroup a b c d e f = grind (arith, append_assoc)

-- the bytes read are the text of the limits, if nothing is left
pub limits_found : (text : List ℕ) (x : Limits) (left : List ℕ) → limits_at text ≡ Some (x, left) → length left ≡ 0 → (text ≡ limits_text x) × FitLimits x
unfolding limits_at
limits_found text x (b ∷ left) e none = absurd (omega (arith, none))
limits_found text x [] e none =
    let w = when_some (word_at (codes "limits ") text) _ _ e in
    let t = then_some (number_at w.0) _ _ w.2 in
    let tn = digits_found (2 ^ 64) w.0 t.0 t.1 (lit< tt) small t.2 in
    let a = when_some (word_at (codes " ") t.1) _ _ t.3 in
    let j = then_some (number_at a.0) _ _ a.2 in
    let jn = digits_found (2 ^ 64) a.0 j.0 j.1 (lit< tt) small j.2 in
    let b = when_some (word_at (codes " ") j.1) _ _ j.3 in
    let s = then_some (number_at b.0) _ _ b.2 in
    let sn = digits_found (2 ^ 64) b.0 s.0 s.1 (lit< tt) small s.2 in
    let last : (limits_of t.0 j.0 s.0 ≡ x) × (s.1 ≡ []) = grind (arith, s.3) in
    let third : b.0 ≡ decimal s.0 = sn.0 ∙ ap (λ r. decimal s.0 ++ r) last.1 ∙ append-nil (decimal s.0) in
    let second : a.0 ≡ decimal j.0 ++ (codes " " ++ decimal s.0) = jn.0 ∙ ap (λ r. decimal j.0 ++ r) (word_is (codes " ") j.1 b.0 b.1 ∙ ap (λ r. codes " " ++ r) third) in
    let first : w.0 ≡ decimal t.0 ++ (codes " " ++ (decimal j.0 ++ (codes " " ++ decimal s.0))) = tn.0 ∙ ap (λ r. decimal t.0 ++ r) (word_is (codes " ") t.1 a.0 a.1 ∙ ap (λ r. codes " " ++ r) second) in
    let all : text ≡ limits_text (limits_of t.0 j.0 s.0) = word_is (codes "limits ") text w.0 w.1 ∙ ap (λ r. codes "limits " ++ r) first ∙ regroup (codes "limits ") (decimal t.0) (codes " ") (decimal j.0) (codes " ") (decimal s.0) in
    subst (λ y. (text ≡ limits_text y) × FitLimits y) last.0 (all, record { tasks = tn.1; jobs = jn.1; sleeps = sn.1 })

-- the text of the limits reads back
limits_again : (x : Limits) → FitLimits x → limits_at (limits_text x) ≡ Some (x, [])
unfolding limits_at
limits_again x fit =
    let t : number_at (decimal x.tasks ++ (codes " " ++ (decimal x.jobs ++ (codes " " ++ decimal x.sleeps)))) ≡ Some (x.tasks, codes " " ++ (decimal x.jobs ++ (codes " " ++ decimal x.sleeps))) =
    digits_again (2 ^ 64) x.tasks (codes " " ++ (decimal x.jobs ++ (codes " " ++ decimal x.sleeps))) small fit.tasks refl in
    let j : number_at (decimal x.jobs ++ (codes " " ++ decimal x.sleeps)) ≡ Some (x.jobs, codes " " ++ decimal x.sleeps) = digits_again (2 ^ 64) x.jobs (codes " " ++ decimal x.sleeps) small fit.jobs refl in
    let s : number_at (decimal x.sleeps) ≡ Some (x.sleeps, []) = reads_whole (decimal x.sleeps) x.sleeps fit.sleeps refl in
    ap limits_at (sym (regroup (codes "limits ") (decimal x.tasks) (codes " ") (decimal x.jobs) (codes " ") (decimal x.sleeps))) ∙ rw (t, j, s) refl

pub no_limits : (text : List ℕ) → limits_at text ≡ None → (x : Limits) → FitLimits x → text ≡ limits_text x → ⊥
no_limits text none x fit e =
    let bad : ◌≡◌ {A = Read Limits} None (Some (x, [])) = sym none ∙ ap limits_at e ∙ limits_again x fit in
    cc bad

pub more_than_limits : (text : List ℕ) (y : Limits) (left : List ℕ) → limits_at text ≡ Some (y, left) → (length left ≡ 0 → ⊥) → (x : Limits) → FitLimits x → text ≡ limits_text x → ⊥
more_than_limits text y left some more x fit e =
    let same : ◌≡◌ {A = Read Limits} (Some (y, left)) (Some (x, [])) = sym some ∙ ap limits_at e ∙ limits_again x fit in
    let none : left ≡ [] = grind (arith, same) in
    more (ap length none)
