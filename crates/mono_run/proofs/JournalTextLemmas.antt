-- A journal's lines, entry by entry.
use Rattle.std.proofs.Common.{◌≡◌, ℕ, ◌+◌, ◌≤◌, List, [], ◌∷◌, ◌++◌, length, drop, map, flat_map, Option, Some, None, sym, ap, ◌∙◌, append_assoc, codes, arith}
use Rattle.std.specs.List.{slice_get}
use Rattle.std.specs.Fmt.{decimal}
use Rattle.std.proofs.lemmas.List.{drop_more, drop_all, append-nil}
use Rattle.std.proofs.lemmas.Option.{get_or_from_slice_get, slice_get_within}
use Rattle.mono_rt.specs.declared.parts.journals.Entry.{Entry}
use Rattle.mono_run.specs.ScriptTurns as script
use Rattle.mono_run.specs.Journal.{entry_line, journal_text}
use Rattle.mono_run.specs.RunRecord.{told, main_text}

abbrev pub left_of : List Entry → ℕ → List ℕ
left_of entries i = flat_map entry_line (map told (drop i entries))

-- out has all entries before the remaining ones, whose next one was appended
pub entry_written : (entries : List Entry) (i : ℕ) (x : Entry) (all out new : List ℕ) → slice_get entries i ≡ Some x → out ++ left_of entries i ≡ all
    → new ≡ out ++ entry_line (told x) → new ++ left_of entries (i + 1) ≡ all
entry_written entries i x all out new is before put =
    let here : drop i entries ≡ x ∷ drop (i + 1) entries = drop_more entries i x (slice_get_within entries i x is) ∙ ap (λ y. y ∷ drop (i + 1) entries) (get_or_from_slice_get entries i x x is) in
    let next : left_of entries i ≡ entry_line (told x) ++ left_of entries (i + 1) = ap (λ es. flat_map entry_line (map told es)) here in
    rw put (append_assoc out (entry_line (told x)) (left_of entries (i + 1)) ∙ ap (λ r. out ++ r) (sym next) ∙ before)

pub entries_written : (entries : List Entry) (i : ℕ) (all out : List ℕ) → length entries ≤ i → out ++ left_of entries i ≡ all → out ≡ all
entries_written entries i all out le before =
    let none : left_of entries i ≡ [] = ap (λ es. flat_map entry_line (map told es)) (drop_all i entries le) in
    sym (append-nil out) ∙ ap (λ r. out ++ r) (sym none) ∙ before

-- the lines of the entries and then that of the output are the journal's text
pub whole_text : (entries : List script.Entry) (output : Option ℕ) (lines out : List ℕ) → lines ≡ [] ++ flat_map entry_line entries → out ≡ lines ++ main_text output → out ≡ journal_text entries output
whole_text entries None lines out is put = put ∙ append-nil lines ∙ is
whole_text entries (Some o) lines out is put =
    let front = flat_map entry_line entries in
    let split : front ++ codes "main " ++ decimal o ++ 10 ∷ [] ≡ front ++ (codes "main " ++ decimal o ++ 10 ∷ []) = grind (arith, append_assoc) in
    put ∙ ap (λ x. x ++ (codes "main " ++ decimal o ++ 10 ∷ [])) is ∙ sym split
