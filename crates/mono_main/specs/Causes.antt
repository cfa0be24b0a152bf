-- The text on standard error. Before and after are the bytes written there, faults and later the counts of its faults.
use Rattle.std.specs.Prelude.{◌≡◌, ◌⊎◌, ℕ, List, [], ◌∷◌, ◌++◌, Bool, true, false, Option, Some, None, codes}
use Rattle.std.specs.IoError.{error_kind}
use Rattle.std.specs.declared.io.Error.{Error}
use Rattle.std.specs.declared.io.ErrorKind.TheVariants.{BrokenPipe}
use Rattle.mono_text.specs.Environment.{HasRisen, HasWritten, HasWrittenPrefix}
use Rattle.mono_script.specs.declared.ends.Status.{Status}
use Rattle.mono_script.specs.declared.ends.Status.TheVariants as status
use Rattle.mono_script.specs.declared.ends.Ended.{Ended}
use Rattle.mono_script.specs.Endings.{status_code}
use Rattle.mono_main.specs.declared.causes.TheConstants.{NO_MEMORY, NO_PLACE, LONG_INPUT, LONG_LINE, WAITING}

-- the status of a call, which is Usage if its words are no command
abbrev pub end_status : Option Ended → Status
end_status (Some e) = e.status
end_status None = status.Usage

-- The error is that of a closed pipe.
abbrev pub IsBrokenPipe : Option Error → Type 0
IsBrokenPipe None = ⊥
IsBrokenPipe (Some e) = error_kind e ≡ BrokenPipe

-- the program's name, the cause and a line feed
abbrev pub cause_line : List ℕ → List ℕ
cause_line cause = codes "monoio: " ++ cause ++ 10 ∷ []

-- Nothing was written.
abbrev pub IsSilent : Option (List ℕ) → Option (List ℕ) → ℕ → ℕ → Type 0
IsSilent before after faults later = (after ≡ before) × (later ≡ faults)

-- The text was written, or a write failed and a beginning of it was.
abbrev pub Told : List ℕ → Option (List ℕ) → Option (List ℕ) → ℕ → ℕ → Type 0
Told text before after faults later = HasWritten before after text ⊎ (HasRisen faults later × HasWrittenPrefix before after text)

-- A line with some cause was written.
abbrev pub TellsCause : Option (List ℕ) → Option (List ℕ) → ℕ → ℕ → Type 0
TellsCause before after faults later = (cause : List ℕ) × Told (cause_line cause) before after faults later

-- A line with this cause or that was written.
abbrev pub TellsOneOf : List ℕ → List ℕ → Option (List ℕ) → Option (List ℕ) → ℕ → ℕ → Type 0
TellsOneOf this that before after faults later =
    (cause : List ℕ) × ((cause ≡ this) ⊎ (cause ≡ that)) × Told (cause_line cause) before after faults later

-- What is said of a status. Nothing is said of 0, nor of a pipe that its reader has closed. Each other status has a
-- cause.
abbrev pub TellsStatus : Status → Type 0 → Option (List ℕ) → Option (List ℕ) → ℕ → ℕ → Type 0
TellsStatus status.Done closed before after faults later = IsSilent before after faults later
TellsStatus status.WriteFault closed before after faults later =
    (closed × IsSilent before after faults later) ⊎ ((closed → ⊥) × TellsCause before after faults later)
TellsStatus status.OutOfMemory closed before after faults later = Told (cause_line NO_MEMORY.now) before after faults later
TellsStatus status.Capacity closed before after faults later = Told (cause_line NO_PLACE.now) before after faults later
TellsStatus status.TooLong closed before after faults later = TellsOneOf LONG_INPUT.now LONG_LINE.now before after faults later
TellsStatus status.Usage closed before after faults later = TellsCause before after faults later
TellsStatus status.BadLine closed before after faults later = TellsCause before after faults later
TellsStatus status.ReadFault closed before after faults later = TellsCause before after faults later
TellsStatus status.Turns closed before after faults later = TellsCause before after faults later
TellsStatus status.NotARun closed before after faults later = TellsCause before after faults later

-- A notice that input is awaited was written if one is due, else nothing.
abbrev pub Notices : Bool → Option (List ℕ) → Option (List ℕ) → ℕ → ℕ → Type 0
Notices true before after faults later = Told (cause_line WAITING.now) before after faults later
Notices false before after faults later = IsSilent before after faults later

-- The program ended with this number, and said first the notice if one was due, and then what belongs to the number's
-- status. Waits says whether a person is at the terminal.
pub record Says (waits : Bool) (code : ℕ) (closed : Type 0) (before after : Option (List ℕ)) (faults later : ℕ) : Type 0 where
  pub status : Status
  pub is_code : code ≡ status_code status
  pub is_due : Bool
  pub unasked : waits ≡ false → is_due ≡ false
  pub middle : Option (List ℕ)
  pub middle_faults : ℕ
  pub noticed : Notices is_due before middle faults middle_faults
  pub told : TellsStatus status closed middle after middle_faults later
