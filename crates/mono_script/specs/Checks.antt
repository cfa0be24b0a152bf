-- The check of a journal, whether its reports are those of a run of its events; and the check of a whole journal, whether its
-- lines are those of calls of block_on, too.
use Rattle.std.specs.Prelude.{◌≡◌, ℕ, true, List, [], ◌∷◌, ◌++◌, None, codes, decimal}
use Rattle.mono_machine.specs.declared.events.Limits.{Limits}
use Rattle.mono_machine.specs.declared.events.Blocking.{Blocking}
use Rattle.mono_text.specs.Lines.{lines}
use Rattle.mono_lines.specs.Journal.{AreJournalLines, IsFirstBad, IsPassed, FailsAtLine, IsWhole, FailsWholeAtLine}
use Rattle.mono_lines.specs.declared.trace.checks.Failure.{Failure}
use Rattle.mono_lines.specs.declared.trace.journal.JournalLine.{JournalLine}
use Rattle.mono_script.specs.declared.command.Command.{Command}
use Rattle.mono_script.specs.declared.command.Command.TheVariants as command
use Rattle.mono_script.specs.declared.ends.Status.{Status}
use Rattle.mono_script.specs.declared.ends.Status.TheVariants as status
use Rattle.mono_script.specs.Endings.{Meaning}

abbrev pub yes_line : List ℕ
yes_line = codes "yes" ++ 10 ∷ []

abbrev pub no_line : ℕ → List ℕ
no_line n = codes "no " ++ decimal n ++ 10 ∷ []

-- The answer to a run is yes; the answer to another journal is no and the line of the first pair that no step allows.
abbrev pub IsChecked : Limits → Blocking → List ℕ → Status → List ℕ → Type 0
IsChecked limits strategy input status.Done output = IsPassed limits strategy input × (output ≡ yes_line)
IsChecked limits strategy input status.NotARun output = (failure : Failure) × FailsAtLine limits strategy input failure × (output ≡ no_line failure.line)
IsChecked limits strategy input status.Usage output = ⊥
IsChecked limits strategy input status.BadLine output = ⊥
IsChecked limits strategy input status.ReadFault output = ⊥
IsChecked limits strategy input status.WriteFault output = ⊥
IsChecked limits strategy input status.OutOfMemory output = ⊥
IsChecked limits strategy input status.TooLong output = ⊥
IsChecked limits strategy input status.Turns output = ⊥
IsChecked limits strategy input status.Capacity output = ⊥

abbrev pub checking : Limits → Blocking → Meaning
checking limits strategy = record {
  reads = true;
  workers = None;
  IsGood = λ input. (said : List JournalLine) × AreJournalLines said (lines input);
  IsFirstBad = λ input n. IsFirstBad (lines input) n;
  Answers = λ input s output. IsChecked limits strategy input s output;
}

-- The answer to the journal of whole calls is yes. The answer to another one is no and the line of the first pair that no step
-- allows, or else of the first line out of order.
abbrev pub IsCheckedWhole : Limits → Blocking → List ℕ → Status → List ℕ → Type 0
IsCheckedWhole limits strategy input status.Done output = IsWhole limits strategy input × (output ≡ yes_line)
IsCheckedWhole limits strategy input status.NotARun output = (failure : Failure) × FailsWholeAtLine limits strategy input failure × (output ≡ no_line failure.line)
IsCheckedWhole limits strategy input status.Usage output = ⊥
IsCheckedWhole limits strategy input status.BadLine output = ⊥
IsCheckedWhole limits strategy input status.ReadFault output = ⊥
IsCheckedWhole limits strategy input status.WriteFault output = ⊥
IsCheckedWhole limits strategy input status.OutOfMemory output = ⊥
IsCheckedWhole limits strategy input status.TooLong output = ⊥
IsCheckedWhole limits strategy input status.Turns output = ⊥
IsCheckedWhole limits strategy input status.Capacity output = ⊥

abbrev pub checking_whole : Limits → Blocking → Meaning
checking_whole limits strategy = record {
  reads = true;
  workers = None;
  IsGood = λ input. (said : List JournalLine) × AreJournalLines said (lines input);
  IsFirstBad = λ input n. IsFirstBad (lines input) n;
  Answers = λ input s output. IsCheckedWhole limits strategy input s output;
}

-- The journal that the check read fails so. Other commands read none.
abbrev pub FailsFor : Command → List ℕ → Failure → Type 0
FailsFor (command.Check limits strategy) input failure = FailsAtLine limits strategy input failure
FailsFor (command.CheckWhole limits strategy) input failure = FailsWholeAtLine limits strategy input failure
FailsFor c input failure = ⊥
