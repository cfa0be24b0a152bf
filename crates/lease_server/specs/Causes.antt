-- The text on standard error. Before and after are the bytes written there, faults and later the counts of its faults.
use Rattle.std.specs.Prelude.{◌≡◌, ◌≢◌, ◌⊎◌, ℕ, List, [], ◌∷◌, ◌++◌, Bool, true, false, Option, Some, None, codes}
use Rattle.std.specs.IoError.{error_kind}
use Rattle.std.specs.declared.io.Error.{Error}
use Rattle.std.specs.declared.io.ErrorKind.TheVariants.{BrokenPipe}
use Rattle.mono_text.specs.Environment.{HasRisen, HasWritten, HasWrittenPrefix}
use Rattle.lease_server.specs.declared.causes.TheConstants.{NO_MEMORY, NO_THREAD, WAITING}

-- The error is that of a closed pipe.
abbrev pub IsBrokenPipe : Option Error → Type 0
IsBrokenPipe None = ⊥
IsBrokenPipe (Some e) = error_kind e ≡ BrokenPipe

-- the program's name, the cause and a line feed
abbrev pub cause_line : List ℕ → List ℕ
cause_line cause = codes "lease_server: " ++ cause ++ 10 ∷ []

-- Nothing was written.
abbrev pub IsSilent : Option (List ℕ) → Option (List ℕ) → ℕ → ℕ → Type 0
IsSilent before after faults later = (after ≡ before) × (later ≡ faults)

-- The text was written, or a write failed and a beginning of it was.
abbrev pub Told : List ℕ → Option (List ℕ) → Option (List ℕ) → ℕ → ℕ → Type 0
Told text before after faults later = HasWritten before after text ⊎ (HasRisen faults later × HasWrittenPrefix before after text)

-- A line with some cause was written.
abbrev pub TellsCause : Option (List ℕ) → Option (List ℕ) → ℕ → ℕ → Type 0
TellsCause before after faults later = (cause : List ℕ) × Told (cause_line cause) before after faults later

-- A line with some cause was written, unless the reader of the output has closed its pipe.
abbrev pub TellsUnwritten : Type 0 → Option (List ℕ) → Option (List ℕ) → ℕ → ℕ → Type 0
TellsUnwritten closed before after faults later = (closed × IsSilent before after faults later) ⊎ ((closed → ⊥) × TellsCause before after faults later)

-- The number has a cause of its own, or none.
abbrev pub IsNamed : ℕ → Type 0
IsNamed code = (code ≡ 0) ⊎ (code ≡ 2) ⊎ (code ≡ 4) ⊎ (code ≡ 5) ⊎ (code ≡ 7)

-- What is said of the number of an exit. Nothing is said of 0, nor of a pipe that its reader has closed. Each other number has
-- a cause.
abbrev pub TellsEnd : ℕ → Type 0 → Option (List ℕ) → Option (List ℕ) → ℕ → ℕ → Type 0
TellsEnd code closed before after faults later =
    ((code ≡ 0) × IsSilent before after faults later)
    ⊎ ((code ≡ 2) × TellsCause before after faults later)
    ⊎ ((code ≡ 4) × TellsCause before after faults later)
    ⊎ ((code ≡ 5) × TellsUnwritten closed before after faults later)
    ⊎ ((code ≡ 7) × Told (cause_line NO_THREAD.now) before after faults later)
    ⊎ ((IsNamed code → ⊥) × Told (cause_line NO_MEMORY.now) before after faults later)

-- A notice that input is awaited was written if one is due, else nothing.
abbrev pub Notices : Bool → Option (List ℕ) → Option (List ℕ) → ℕ → ℕ → Type 0
Notices true before after faults later = Told (cause_line WAITING.now) before after faults later
Notices false before after faults later = IsSilent before after faults later

-- The program exits with this number. It said first the notice if one was due, and then what belongs to the number. Waits says
-- whether a person is at the terminal.
pub record Says (waits : Bool) (code : ℕ) (closed : Type 0) (before after : Option (List ℕ)) (faults later : ℕ) : Type 0 where
  pub is_due : Bool
  pub unasked : waits ≡ false → is_due ≡ false
  pub middle : Option (List ℕ)
  pub middle_faults : ℕ
  pub noticed : Notices is_due before middle faults middle_faults
  pub told : TellsEnd code closed middle after middle_faults later
