-- Lines spell one list of values.
use Rattle.std.proofs.Common.{◌≡◌, ℕ, List, [], ◌∷◌, ◌++◌, Some, refl, sym, ap, ◌∙◌, arith}
use Rattle.mono_machine.specs.declared.events.Event.{Event}
use Rattle.mono_text.specs.Parser.{Read}
use Rattle.mono_text.specs.Lines.{Line, AreLines, IsEventLine}
use Rattle.mono_text.specs.Services.{Says}
use Rattle.mono_text.proofs.CallLemmas.{Spells}
use Rattle.mono_text.proofs.SpellingLemmas.{one_event}
use Rattle.mono_lines.specs.Journal.{IsJournalLine}
use Rattle.mono_lines.specs.declared.trace.journal.JournalLine.{JournalLine}
use Rattle.mono_lines.proofs.JournalLineLemmas.{one_line}

pub lines_once : {A : Type 0} (Is : A → Line → Type 0) → ((x y : A) (l : Line) → Is x l → Is y l → x ≡ y) → (xs ys : List A) (ls : List Line) → AreLines Is xs ls → AreLines Is ys ls → xs ≡ ys
lines_once Is once [] [] [] p q = refl
lines_once Is once (x ∷ xs) (y ∷ ys) (l ∷ ls) p q = ap (λ z. z ∷ xs) (once x y l p.0 q.0) ∙ ap (λ zs. y ∷ zs) (lines_once Is once xs ys ls p.1 q.1)
lines_once Is once [] (y ∷ ys) [] p q = absurd q
lines_once Is once (x ∷ xs) ys [] p q = absurd p
lines_once Is once [] ys (l ∷ ls) p q = absurd p
lines_once Is once (x ∷ xs) [] (l ∷ ls) p q = absurd q

pub event_once : (x y : Event) (l : Line) → IsEventLine x l → IsEventLine y l → x ≡ y
event_once x y l p q = (one_event (l.bytes ++ 10 ∷ []) x y [] [] (ap (λ t. t ++ 10 ∷ []) p.text, p.fits) (ap (λ t. t ++ 10 ∷ []) q.text, q.fits)).0

pub journal_once : (x y : JournalLine) (l : Line) → IsJournalLine x l → IsJournalLine y l → x ≡ y
journal_once x y l p q = (one_line (l.bytes ++ 10 ∷ []) x y [] [] (ap (λ t. t ++ 10 ∷ []) p.text, p.fits) (ap (λ t. t ++ 10 ∷ []) q.text, q.fits)).0

pub call_once : {A : Type 0} (text : A → List ℕ) (Fits : A → Type 0) (call_at : List ℕ → Read A) → Spells text Fits call_at → (x y : A) (l : Line) → Says text Fits x l → Says text Fits y l → x ≡ y
call_once {A} text Fits call_at spells x y l p q =
    let same : ◌≡◌ {A = Read A} (Some (x, 10 ∷ [])) (Some (y, 10 ∷ [])) = sym (spells.again x [] p.fits) ∙ ap (λ t. call_at (t ++ 10 ∷ [])) (sym p.text_is ∙ q.text_is) ∙ spells.again y [] q.fits in
    grind (arith, same)
