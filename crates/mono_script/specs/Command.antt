-- The words of each command.
use Rattle.std.specs.Prelude.{◌≡◌, ℕ, ◌<◌, ◌≤◌, ◌^◌, List, codes}
use Rattle.mono_machine.specs.declared.events.Limits.{Limits}
use Rattle.mono_machine.specs.declared.events.Blocking.{Blocking}
use Rattle.mono_text.specs.LineText.{FitLimits}
use Rattle.mono_script.specs.declared.command.Command.{Command}
use Rattle.mono_script.specs.declared.command.Command.TheVariants as command
use Rattle.mono_script.specs.Words.{two_words, limit_words, flagged_words}

abbrev pub command_words : Command → List (List ℕ)
command_words (command.Replay limits strategy) = limit_words (codes "replay") limits strategy
command_words (command.Run workers turns) = two_words (codes "run") workers turns
command_words (command.Load seed count) = two_words (codes "load") seed count
command_words (command.Sessions sessions entries) = two_words (codes "sessions") sessions entries
command_words (command.Limiter buckets retries) = two_words (codes "limiter") buckets retries
command_words (command.Actors actors messages) = two_words (codes "actors") actors messages
command_words (command.Check limits strategy) = limit_words (codes "check") limits strategy
command_words (command.CheckWhole limits strategy) = flagged_words (codes "check") (codes "--whole") limits strategy

-- the numbers are within their bounds
abbrev pub FitsCommand : Command → Type 0
FitsCommand (command.Replay limits strategy) = FitLimits limits
FitsCommand (command.Run workers turns) = (workers ≤ 64) × (turns ≤ 65536)
FitsCommand (command.Load seed count) = (seed < 2 ^ 64) × (count ≤ 100000)
FitsCommand (command.Sessions sessions entries) = (sessions < 2 ^ 64) × (entries < 2 ^ 64)
FitsCommand (command.Limiter buckets retries) = (buckets < 2 ^ 64) × (retries < 2 ^ 64)
FitsCommand (command.Actors actors messages) = (actors < 2 ^ 64) × (messages < 2 ^ 64)
FitsCommand (command.Check limits strategy) = FitLimits limits
FitsCommand (command.CheckWhole limits strategy) = FitLimits limits

-- The words spell the command.
pub record IsCommand (words : List (List ℕ)) (c : Command) : Type 0 where
  pub text : words ≡ command_words c
  pub fit : FitsCommand c

-- The words spell no command.
abbrev pub IsNoCommand : List (List ℕ) → Type 0
IsNoCommand words = (c : Command) → IsCommand words c → ⊥

-- ---- for the reader, command by command

abbrev pub IsNoReplay : List (List ℕ) → Type 0
IsNoReplay words = (limits : Limits) (strategy : Blocking) → IsCommand words (command.Replay limits strategy) → ⊥

abbrev pub IsNoRun : List (List ℕ) → Type 0
IsNoRun words = (workers turns : ℕ) → IsCommand words (command.Run workers turns) → ⊥

abbrev pub IsNoLoad : List (List ℕ) → Type 0
IsNoLoad words = (seed count : ℕ) → IsCommand words (command.Load seed count) → ⊥

abbrev pub IsNoSessions : List (List ℕ) → Type 0
IsNoSessions words = (sessions entries : ℕ) → IsCommand words (command.Sessions sessions entries) → ⊥

abbrev pub IsNoLimiter : List (List ℕ) → Type 0
IsNoLimiter words = (buckets retries : ℕ) → IsCommand words (command.Limiter buckets retries) → ⊥

abbrev pub IsNoActors : List (List ℕ) → Type 0
IsNoActors words = (actors messages : ℕ) → IsCommand words (command.Actors actors messages) → ⊥

abbrev pub IsNoCheck : List (List ℕ) → Type 0
IsNoCheck words = (limits : Limits) (strategy : Blocking) → IsCommand words (command.Check limits strategy) → ⊥

abbrev pub IsNoWhole : List (List ℕ) → Type 0
IsNoWhole words = (limits : Limits) (strategy : Blocking) → IsCommand words (command.CheckWhole limits strategy) → ⊥
