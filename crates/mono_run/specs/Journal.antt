-- The text of a journal, and the output of a script's run.
use Rattle.std.specs.Prelude.{ℕ, List, [], ◌∷◌, ◌++◌, flat_map, Option, Some, None, codes, decimal}
use Rattle.mono_text.specs.LineText.{event_text, report_text}
use Rattle.mono_run.specs.ScriptTurns.{Entry, ran, now, park}

abbrev pub entry_text : Entry → List ℕ
entry_text (ran e r) = event_text e ++ codes " -> " ++ report_text r
entry_text (now n) = codes "now " ++ decimal n
entry_text (park None) = codes "park"
entry_text (park (Some m)) = codes "park " ++ decimal m

abbrev pub entry_line : Entry → List ℕ
entry_line entry = entry_text entry ++ 10 ∷ []

-- the lines of a journal, and the last line if the main task has this output
abbrev pub journal_text : List Entry → Option ℕ → List ℕ
journal_text entries None = flat_map entry_line entries
journal_text entries (Some o) = flat_map entry_line entries ++ codes "main " ++ decimal o ++ 10 ∷ []
