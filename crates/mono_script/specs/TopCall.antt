-- The contract of the top call: what the number at its end says of the source, the sink and the spawner.
use Rattle.std.specs.Prelude.{◌≡◌, ◌≢◌, ◌↔◌, ◌⊎◌, ℕ, ◌<◌, ◌≤◌, true, false, List, Option, Some, None, length}
use Rattle.mono_text.specs.Environment.{HasRisen, IsLongerThan}
use Rattle.mono_run.specs.Script.{Script}
use Rattle.mono_run.specs.ScriptText.{Spells}
use Rattle.mono_script.specs.declared.command.Command.{Command}
use Rattle.mono_script.specs.declared.command.Command.TheVariants as command
use Rattle.mono_script.specs.declared.ends.Ended.{Ended}
use Rattle.mono_script.specs.declared.ends.Status.{Status}
use Rattle.mono_script.specs.declared.ends.Status.TheVariants as status
use Rattle.mono_script.specs.Command.{IsCommand, IsNoCommand}
use Rattle.mono_script.specs.Endings.{IsInput, HasAnswered, NamesBadLine, IsCutShort, IsRead, IsAnswered, Asks, status_code, max_input}
use Rattle.mono_script.specs.Meanings.{meaning}

-- What a source, a sink and a spawner expose at a moment: the bytes that are left and those that were written, if any
-- are exposed, and the counts of faults and of starts.
pub record View : Type 0 where
  pub left : Option (List ℕ)
  pub read_faults : ℕ
  pub written : Option (List ℕ)
  pub write_faults : ℕ
  pub starts : ℕ

abbrev pub view_of : Option (List ℕ) → ℕ → Option (List ℕ) → ℕ → ℕ → View
view_of left read_faults written write_faults starts = record {
  left = left;
  read_faults = read_faults;
  written = written;
  write_faults = write_faults;
  starts = starts;
}

-- the number of an end; without a command it is that of Usage
abbrev pub code_of : Option Ended → ℕ
code_of (Some e) = status_code e.status
code_of None = 2

-- The command that the words spell had its input, and wrote all of an answer with this status.
abbrev pub Answered : List (List ℕ) → Option (List ℕ) → Status → View → View → Type 0
Answered words readings s a b =
    (c : Command) → IsCommand words c → HasAnswered (meaning readings c) s a.left b.left a.written b.written

-- The call with these words ended with this number, over a clock that exposes these readings. It led from view a to
-- view b.
pub record CarriesOut (words : List (List ℕ)) (readings : Option (List ℕ)) (a b : View) (code : ℕ) : Type 0 where
  -- Usage comes if and only if the words are no command; then nothing was read, written or started.
  pub usage : code ≡ 2 ↔ IsNoCommand words
  pub untouched : code ≡ 2 → b ≡ a
  -- The whole answer was written, with the status that goes with it.
  pub done : code ≡ 0 → Answered words readings status.Done a b
  pub not_a_run : code ≡ 11 → Answered words readings status.NotARun a b
  pub turns : code ≡ 8 → Answered words readings status.Turns a b
  pub capacity : code ≡ 10 → Answered words readings status.Capacity a b
  -- The first bad line was named.
  pub bad_line : code ≡ 3 → (c : Command) → IsCommand words c
      → NamesBadLine (meaning readings c) a.left b.left a.written b.written
  -- A read or a write failed; after a failed write a beginning of the output is there.
  pub read_fault : code ≡ 4 → HasRisen a.read_faults b.read_faults × (b.written ≡ a.written)
  pub write_fault : code ≡ 5 → HasRisen a.write_faults b.write_faults
      × ((c : Command) → IsCommand words c → IsCutShort (meaning readings c) a.left b.left a.written b.written)
  -- Out of memory, or with more input than there may be, nothing was written.
  pub out_of_memory : code ≡ 6 → b.written ≡ a.written
  pub too_long : code ≡ 7 → IsLongerThan max_input a.left × (b.written ≡ a.written)
  -- There is no other number.
  pub others : (s : Status) × (code ≡ status_code s)
  -- When a number comes, if the source exposes its bytes.
  pub too_long_where : (c : Command) (input : List ℕ) → IsCommand words c
      → IsInput (meaning readings c).reads a.left input → IsRead code → (code ≡ 7 ↔ max_input < length input)
  pub bad_line_where : (c : Command) (input : List ℕ) → IsCommand words c
      → IsInput (meaning readings c).reads a.left input → IsRead code → code ≢ 5
      → (code ≡ 3 ↔ (length input ≤ max_input) × ((n : ℕ) × (meaning readings c).IsFirstBad input n))
  pub complete : (c : Command) (input : List ℕ) → IsCommand words c
      → IsInput (meaning readings c).reads a.left input → length input ≤ max_input → (meaning readings c).IsGood input
      → ((meaning readings c).reads ≡ true → HasRisen a.read_faults b.read_faults → ⊥)
      → (HasRisen a.write_faults b.write_faults → ⊥) → (code ≡ 6) ⊎ IsAnswered (meaning readings c) input code
  pub capacity_where : (workers turns : ℕ) (input : List ℕ) (script : Script)
      → IsCommand words (command.Run workers turns) → IsInput true a.left input → length input ≤ max_input
      → Spells input script → IsRead code → code ≢ 5 → (code ≡ 10 ↔ script.limits.tasks ≡ 0)
  -- A command that does not read leaves the source as it was, and has no read fault.
  pub unread : (c : Command) → IsCommand words c → (meaning readings c).reads ≡ false → (b.left ≡ a.left) × (code ≢ 4)
  -- A count of faults never falls, and a fault gives its status.
  pub counts : (a.read_faults ≤ b.read_faults) × (a.write_faults ≤ b.write_faults)
  pub read_fault_where : a.read_faults < b.read_faults → code ≡ 4
  pub write_fault_where : a.write_faults < b.write_faults → code ≡ 5
  -- How often the spawner was asked for a thread, by the status.
  pub starts : (c : Command) (s : Status) → IsCommand words c → code ≡ status_code s
      → Asks (meaning readings c).workers a.starts b.starts s
