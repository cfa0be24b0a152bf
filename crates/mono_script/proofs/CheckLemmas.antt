-- The meanings of the two checks, as their commands owe them.
use Rattle.std.proofs.Common.{ℕ, List}
use Rattle.mono_machine.specs.declared.events.Limits.{Limits}
use Rattle.mono_machine.specs.declared.events.Blocking.{Blocking}
use Rattle.mono_text.specs.Lines.{lines}
use Rattle.mono_text.proofs.InputLineLemmas.{not_both_of}
use Rattle.mono_lines.specs.Journal.{IsJournalLine, AreJournalLines}
use Rattle.mono_lines.specs.declared.trace.journal.JournalLine.{JournalLine}
use Rattle.mono_script.specs.declared.ends.Status.{Status}
use Rattle.mono_script.specs.declared.ends.Status.TheVariants as status
use Rattle.mono_script.specs.Checks.{IsChecked, IsCheckedWhole, checking, checking_whole}
use Rattle.mono_script.proofs.CommandMeaningLemmas.{Sound}

good_journal : (limits : Limits) (strategy : Blocking) (input : List ℕ) (s : Status) (output : List ℕ) → IsChecked limits strategy input s output
    → (said : List JournalLine) × AreJournalLines said (lines input)
good_journal limits strategy input status.Done output a = (a.0.said, a.0.are_lines)
good_journal limits strategy input status.NotARun output a = (a.1.said, a.1.are_lines)
good_journal limits strategy input status.Usage output a = absurd a
good_journal limits strategy input status.BadLine output a = absurd a
good_journal limits strategy input status.ReadFault output a = absurd a
good_journal limits strategy input status.WriteFault output a = absurd a
good_journal limits strategy input status.OutOfMemory output a = absurd a
good_journal limits strategy input status.TooLong output a = absurd a
good_journal limits strategy input status.Turns output a = absurd a
good_journal limits strategy input status.Capacity output a = absurd a

pub sound_checking : (limits : Limits) (strategy : Blocking) → Sound (checking limits strategy)
sound_checking limits strategy = record {
  apart = λ input n good bad. not_both_of IsJournalLine good.0 (lines input) n good.1 bad;
  good = λ input s output a. good_journal limits strategy input s output a;
}

good_whole : (limits : Limits) (strategy : Blocking) (input : List ℕ) (s : Status) (output : List ℕ) → IsCheckedWhole limits strategy input s output
    → (said : List JournalLine) × AreJournalLines said (lines input)
good_whole limits strategy input status.Done output a = (a.0.said, a.0.are_lines)
good_whole limits strategy input status.NotARun output a = (a.1.said, a.1.are_lines)
good_whole limits strategy input status.Usage output a = absurd a
good_whole limits strategy input status.BadLine output a = absurd a
good_whole limits strategy input status.ReadFault output a = absurd a
good_whole limits strategy input status.WriteFault output a = absurd a
good_whole limits strategy input status.OutOfMemory output a = absurd a
good_whole limits strategy input status.TooLong output a = absurd a
good_whole limits strategy input status.Turns output a = absurd a
good_whole limits strategy input status.Capacity output a = absurd a

pub sound_checking_whole : (limits : Limits) (strategy : Blocking) → Sound (checking_whole limits strategy)
sound_checking_whole limits strategy = record {
  apart = λ input n good bad. not_both_of IsJournalLine good.0 (lines input) n good.1 bad;
  good = λ input s output a. good_whole limits strategy input s output a;
}
