-- The fault of a line.
use Rattle.std.specs.Prelude.{ℕ, List, Option, Some, None}
use Rattle.mono_text.specs.Words.{words, first_of}
use Rattle.mono_text.specs.declared.reasons.Reason.{Reason}

-- the reason, the word that it is about, and the word whose form that word breaks
pub record Wrong : Type 0 where
  pub reason : Reason
  pub word : List ℕ
  pub head : List ℕ

abbrev pub wrong_of : Reason → List ℕ → List ℕ → Wrong
wrong_of reason word head = record { reason = reason; word = word; head = head }

-- the fault of a whole line
abbrev pub whole : Reason → List ℕ → Wrong
whole reason bytes = wrong_of reason (first_of (words bytes)) (first_of (words bytes))

abbrev pub or_rest : Option Reason → List ℕ → List ℕ → Option Wrong → Option Wrong
or_rest None word head later = later
or_rest (Some r) word head later = Some (wrong_of r word head)

abbrev pub or_next : Option Wrong → Option Wrong → Option Wrong
or_next None later = later
or_next (Some w) later = Some w

abbrev pub or_else : Option Wrong → Wrong → Wrong
or_else None later = later
or_else (Some w) later = w
