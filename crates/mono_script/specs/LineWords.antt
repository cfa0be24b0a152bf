-- The forms of the lines of a command.
use Rattle.std.specs.Prelude.{ℕ, List, Option, Some, codes}
use Rattle.mono_script.specs.declared.command.Command.{Command}
use Rattle.mono_script.specs.declared.command.Command.TheVariants as command
use Rattle.mono_text.specs.Words.{words}
use Rattle.mono_text.specs.Wrongs.{Wrong}
use Rattle.mono_text.specs.Forms.{Forms}
use Rattle.mono_text.specs.ReasonTexts.{forms_in}
use Rattle.mono_text.specs.Reasons.{wrong_at}
use Rattle.mono_text.specs.Scripts.{script_wrong_at}

-- the forms of events, a word for each word; the parts of a turn are below
abbrev pub event_forms : List ℕ
event_forms = codes "spawn; wake 0; sleep 0; reset 0 0; drop-sleep 0; elapsed 0; drop-join 0; finished 0; block 0; drop-job 0; job-finished 0; job-end 0 0; turn; clock 0; remote 0; drain"

-- the forms of a journal's lines, which are not only events
abbrev pub journal_forms : List ℕ
journal_forms = codes "spawn; wake 0; sleep 0; reset 0 0; drop-sleep 0; elapsed 0; drop-join 0; finished 0; block 0; drop-job 0; job-finished 0; job-end 0 0; turn; clock 0; remote 0; drain; now 0; park; park 0; main 0"

abbrev pub line_forms : Command → List ℕ
line_forms (command.Replay limits strategy) = event_forms
line_forms (command.Run workers turns) = codes "limits 0 0 0; task; spawn 0; join 0; detach 0; await-sleep 0; block 0; await-job 0; drop-job 0; yield; done 0"
line_forms (command.Load seed count) = codes ""
line_forms (command.Sessions sessions entries) = codes "open 0; beat 0; close 0; acquire 0 0; release 0 0; owner 0; clock 0"
line_forms (command.Limiter buckets retries) = codes "bucket 0 0; take 0 0; retry 0 0 0; fail 0; done 0; clock 0"
line_forms (command.Actors actors messages) = codes "actor; send 0 0 0; timeout 0 0; turn; clock 0"
line_forms (command.Check limits strategy) = journal_forms
line_forms (command.CheckWhole limits strategy) = journal_forms

-- the forms of a turn's steps and ends
abbrev pub step_forms : List ℕ
step_forms = codes "spawn; wake 0; sleep 0; reset 0 0; drop-sleep 0; elapsed 0; drop-join 0; finished 0; block 0; drop-job 0; job-finished 0; job-end 0 0; poll 0; join 0; job 0; pending; ready 0"

-- the forms of the parts of a turn
abbrev pub part_forms : Command → List ℕ
part_forms (command.Replay limits strategy) = step_forms
part_forms (command.Run workers turns) = codes ""
part_forms (command.Load seed count) = codes ""
part_forms (command.Sessions sessions entries) = codes ""
part_forms (command.Limiter buckets retries) = codes ""
part_forms (command.Actors actors messages) = codes "send 0 0; stay; stop"
part_forms (command.Check limits strategy) = step_forms
part_forms (command.CheckWhole limits strategy) = step_forms

-- the words with which a turn's end begins, with a blank between them
abbrev pub end_words : Command → List ℕ
end_words (command.Replay limits strategy) = codes "pending ready"
end_words (command.Run workers turns) = codes ""
end_words (command.Load seed count) = codes ""
end_words (command.Sessions sessions entries) = codes ""
end_words (command.Limiter buckets retries) = codes ""
end_words (command.Actors actors messages) = codes "stay stop"
end_words (command.Check limits strategy) = codes "pending ready"
end_words (command.CheckWhole limits strategy) = codes "pending ready"

-- the forms of the lines that have a report
abbrev pub pair_forms : Command → List ℕ
pair_forms (command.Replay limits strategy) = codes ""
pair_forms (command.Run workers turns) = codes ""
pair_forms (command.Load seed count) = codes ""
pair_forms (command.Sessions sessions entries) = codes ""
pair_forms (command.Limiter buckets retries) = codes ""
pair_forms (command.Actors actors messages) = codes ""
pair_forms (command.Check limits strategy) = event_forms
pair_forms (command.CheckWhole limits strategy) = event_forms

-- the words with which a report begins
abbrev pub report_words : List ℕ
report_words = codes "task queued noted nothing sleep armed elapsed dropped job yes no ended pending ready canceled refused turn fired listed unlisted drained"

abbrev pub forms_of_command : Command → Forms
forms_of_command c = forms_in (line_forms c) (part_forms c) (end_words c) (pair_forms c) report_words

abbrev pub line_fault_at : Command → List ℕ → ℕ → Option Wrong
line_fault_at c input n = wrong_at (forms_of_command c) input n

-- The fault of line n of the input, counted from 1, by the bytes of that line, and for a script by those before it.
abbrev pub fault_at : Command → List ℕ → ℕ → Option Wrong
fault_at (command.Run workers turns) input n = Some (script_wrong_at (words (line_forms (command.Run workers turns))) input n)
fault_at (command.Replay limits strategy) input n = line_fault_at (command.Replay limits strategy) input n
fault_at (command.Load seed count) input n = line_fault_at (command.Load seed count) input n
fault_at (command.Sessions sessions entries) input n = line_fault_at (command.Sessions sessions entries) input n
fault_at (command.Limiter buckets retries) input n = line_fault_at (command.Limiter buckets retries) input n
fault_at (command.Actors actors messages) input n = line_fault_at (command.Actors actors messages) input n
fault_at (command.Check limits strategy) input n = line_fault_at (command.Check limits strategy) input n
fault_at (command.CheckWhole limits strategy) input n = line_fault_at (command.CheckWhole limits strategy) input n
