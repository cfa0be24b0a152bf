-- How a command ends. For the source, left is its rest before and rest its rest afterwards. For the sink, before and
-- after are the bytes written before and afterwards. For the spawner, starts and now are its count of starts before and
-- afterwards.
use Rattle.std.specs.Prelude.{⊤, ◌≡◌, ◌≢◌, ℕ, ◌≤◌, ◌⊎◌, Bool, true, false, List, [], ◌∷◌, ◌++◌, length, Option, Some, None, codes, decimal}
use Rattle.mono_blocking.specs.Counts.{counted_by}
use Rattle.mono_text.specs.Environment.{HasReadAll, IsLongerThan, HasWritten, HasWrittenPrefix}
use Rattle.mono_script.specs.declared.ends.Status.{Status}
use Rattle.mono_script.specs.declared.ends.Status.TheVariants as status

-- the greatest number of bytes of an input
abbrev pub max_input : ℕ
max_input = 16777216

abbrev pub bad_line_text : ℕ → List ℕ
bad_line_text n = codes "bad line " ++ decimal n ++ 10 ∷ []

abbrev pub status_code : Status → ℕ
status_code status.Done = 0
status_code status.Usage = 2
status_code status.BadLine = 3
status_code status.ReadFault = 4
status_code status.WriteFault = 5
status_code status.OutOfMemory = 6
status_code status.TooLong = 7
status_code status.Turns = 8
status_code status.Capacity = 10
status_code status.NotARun = 11

-- The definition of a command.
pub record Meaning : Type 1 where
  -- It reads the source. The input of a command that does not read has no bytes.
  pub reads : Bool
  -- The number of threads for which it asks the spawner if it answers. A command without workers never asks.
  pub workers : Option ℕ
  -- Each line of the input is in the command's form.
  pub IsGood : List ℕ → Type 0
  -- Line n of the input, counted from 1, is the first that is not, or that is missing.
  pub IsFirstBad : List ℕ → ℕ → Type 0
  -- The statuses and outputs that answer a good input. The status is Done or a status of the command's own.
  pub Answers : List ℕ → Status → List ℕ → Type 0

-- The input of a command, if the source exposes it.
abbrev pub IsInput : Bool → Option (List ℕ) → List ℕ → Type 0
IsInput true left input = left ≡ Some input
IsInput false left input = input ≡ []

-- The input was read to its end and is not too long; or no input is read.
abbrev pub HasInput : Bool → Option (List ℕ) → List ℕ → Option (List ℕ) → Type 0
HasInput true left input rest = HasReadAll left input rest × (length input ≤ max_input)
HasInput false left input rest = (input ≡ []) × (rest ≡ left)

-- The command had its input, and wrote all of an answer with this status.
pub record HasAnswered (m : Meaning) (s : Status) (left rest before after : Option (List ℕ)) : Type 0 where
  pub input : List ℕ
  pub output : List ℕ
  pub read : HasInput m.reads left input rest
  pub answers : m.Answers input s output
  pub wrote : HasWritten before after output

-- The command had its input, and its first bad line was named.
pub record NamesBadLine (m : Meaning) (left rest before after : Option (List ℕ)) : Type 0 where
  pub input : List ℕ
  pub line : ℕ
  pub read : HasInput m.reads left input rest
  pub first : m.IsFirstBad input line
  pub wrote : HasWritten before after (bad_line_text line)

-- The output for the input, and the status after it.
abbrev pub IsOutput : Meaning → List ℕ → Status → List ℕ → Type 0
IsOutput m input status.Done output = m.Answers input status.Done output
IsOutput m input status.BadLine output = (n : ℕ) × m.IsFirstBad input n × (output ≡ bad_line_text n)
IsOutput m input status.Turns output = m.Answers input status.Turns output
IsOutput m input status.Capacity output = m.Answers input status.Capacity output
IsOutput m input status.NotARun output = m.Answers input status.NotARun output
IsOutput m input status.Usage output = ⊥
IsOutput m input status.ReadFault output = ⊥
IsOutput m input status.WriteFault output = ⊥
IsOutput m input status.OutOfMemory output = ⊥
IsOutput m input status.TooLong output = ⊥

-- The line that is named with the output: the first bad line, if there is one.
abbrev pub IsLine : Meaning → List ℕ → Status → Option ℕ → Type 0
IsLine m input status.BadLine (Some n) = m.IsFirstBad input n
IsLine m input status.BadLine None = ⊥
IsLine m input s line = line ≡ None

-- The command had its input, and wrote a beginning of an output for it.
pub record IsCutShort (m : Meaning) (left rest before after : Option (List ℕ)) : Type 0 where
  pub input : List ℕ
  pub output : List ℕ
  pub meant : Status
  pub read : HasInput m.reads left input rest
  pub allowed : IsOutput m input meant output
  pub wrote : HasWrittenPrefix before after output

-- Neither a fault, nor out of memory, nor a word kept the program from reading all of its input.
pub record IsRead (code : ℕ) : Type 0 where
  pub usage : code ≢ 2
  pub read_fault : code ≢ 4
  pub memory : code ≢ 6

-- the effects of each status; a read or write fault means that a count of faults rose
abbrev pub Ends : Meaning → Option (List ℕ) → Option (List ℕ) → Option (List ℕ) → Option (List ℕ) → Type 0 → Type 0 → Status → Type 0
Ends m left rest before after reading writing status.Done = HasAnswered m status.Done left rest before after
Ends m left rest before after reading writing status.Turns = HasAnswered m status.Turns left rest before after
Ends m left rest before after reading writing status.Capacity = HasAnswered m status.Capacity left rest before after
Ends m left rest before after reading writing status.NotARun = HasAnswered m status.NotARun left rest before after
Ends m left rest before after reading writing status.BadLine = NamesBadLine m left rest before after
Ends m left rest before after reading writing status.ReadFault = (m.reads ≡ true) × reading × (after ≡ before)
Ends m left rest before after reading writing status.WriteFault = writing × IsCutShort m left rest before after
Ends m left rest before after reading writing status.OutOfMemory = after ≡ before
Ends m left rest before after reading writing status.TooLong = (m.reads ≡ true) × IsLongerThan max_input left × (after ≡ before)
Ends m left rest before after reading writing status.Usage = ⊥

-- A good input was answered, with this number as status.
abbrev pub IsAnswered : Meaning → List ℕ → ℕ → Type 0
IsAnswered m input code = (s : Status) × (code ≡ status_code s) × ((output : List ℕ) × m.Answers input s output)

-- the status after writing an output for which this status was meant
abbrev pub IsWritten : Status → List ℕ → Option (List ℕ) → Option (List ℕ) → Type 0 → Status → Type 0
IsWritten meant text before after writing s = ((s ≡ meant) × HasWritten before after text) ⊎ ((s ≡ status.WriteFault) × writing × HasWrittenPrefix before after text)

-- How often the spawner was asked for a thread, by the status. Without workers it never was. If the command answered,
-- it was asked for each worker: the count of starts rose by their number, or is at its end. It was not asked if there
-- was no good input. A write fault may have come at an answer or at the line that names a bad one. After out of memory
-- nothing is said.
abbrev pub Asks : Option ℕ → ℕ → ℕ → Status → Type 0
Asks None starts now s = now ≡ starts
Asks (Some workers) starts now status.Done = now ≡ counted_by workers starts
Asks (Some workers) starts now status.Turns = now ≡ counted_by workers starts
Asks (Some workers) starts now status.Capacity = now ≡ counted_by workers starts
Asks (Some workers) starts now status.NotARun = now ≡ counted_by workers starts
Asks (Some workers) starts now status.WriteFault = (now ≡ counted_by workers starts) ⊎ (now ≡ starts)
Asks (Some workers) starts now status.BadLine = now ≡ starts
Asks (Some workers) starts now status.ReadFault = now ≡ starts
Asks (Some workers) starts now status.TooLong = now ≡ starts
Asks (Some workers) starts now status.Usage = now ≡ starts
Asks (Some workers) starts now status.OutOfMemory = ⊤
