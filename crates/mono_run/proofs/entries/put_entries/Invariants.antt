use Rattle.std.proofs.Common.{◌≡◌, ◌++◌, flat_map, map}
use Rattle.mono_run.specs.Journal.{entry_line}
use Rattle.mono_run.specs.RunRecord.{told}
use Rattle.mono_run.proofs.JournalTextLemmas.{left_of}
use Rattle.mono_run.proofs.entries.put_entries.Given as goal

abbrev pub invariant-entries : goal.invariant-entries
invariant-entries l = l.out.items ++ left_of l.journal.entries.items l.place ≡ l.fn.out.items ++ flat_map entry_line (map told l.journal.entries.items)
