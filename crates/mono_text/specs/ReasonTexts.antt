-- A fault, and the forms of lines, as the definitions have them.
use Rattle.std.specs.Prelude.{ℕ, List}
use Rattle.mono_text.specs.Words.{words}
use Rattle.mono_text.specs.Wrongs.{Wrong, wrong_of}
use Rattle.mono_text.specs.Forms.{Forms}
use Rattle.mono_text.specs.declared.reasons.Fault.{Fault}
use Rattle.mono_text.specs.declared.reasons.LineForms.{LineForms}

abbrev pub told : Fault → Wrong
told fault = wrong_of fault.reason fault.word.now fault.head.now

-- the words of these texts
abbrev pub forms_in : List ℕ → List ℕ → List ℕ → List ℕ → List ℕ → Forms
forms_in lines parts ends pairs reports = record { lines = words lines; parts = words parts; ends = words ends; pairs = words pairs; reports = words reports }

abbrev pub told_forms : LineForms → Forms
told_forms forms = forms_in forms.lines.now forms.parts.now forms.ends.now forms.pairs.now forms.reports.now
