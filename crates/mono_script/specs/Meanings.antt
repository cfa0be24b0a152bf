-- The definition of each command.
use Rattle.std.specs.Prelude.{◌≡◌, ℕ, true, false, codes, List, [], ◌∷◌, ◌++◌, Option, Some, None, decimal}
use Rattle.mono_machine.specs.declared.events.Limits.{Limits}
use Rattle.mono_machine.specs.declared.events.Blocking.{Blocking}
use Rattle.mono_machine.specs.declared.events.Event.{Event}
use Rattle.mono_script.specs.declared.command.Command.{Command}
use Rattle.mono_script.specs.declared.command.Command.TheVariants as command
use Rattle.mono_script.specs.declared.ends.Status.TheVariants as status
use Rattle.mono_replay.specs.Load.{IsSummary}
use Rattle.mono_replay.specs.declared.loads.Summary.{Summary}
use Rattle.mono_script.specs.declared.ends.Status.{Status}
use Rattle.mono_run.specs.Script.{Script}
use Rattle.mono_run.specs.ScriptText.{Spells}
use Rattle.mono_run.specs.ScriptText as scripts
use Rattle.mono_run.specs.RunRecord.{RunsScript}
use Rattle.mono_run.specs.declared.runs.RunEnd.{RunEnd}
use Rattle.mono_run.specs.declared.runs.RunEnd.TheVariants as ran
use Rattle.mono_script.specs.Endings.{Meaning}
use Rattle.mono_text.specs.Lines.{lines, AreEventLines, IsFirstBad}
use Rattle.mono_actor.specs.Actors.{no_actors}
use Rattle.mono_lines.specs.ActorTexts.{line_text, FitsLine}
use Rattle.mono_lines.specs.ActorAnswers.{Answers}
use Rattle.mono_script.specs.Answers.{IsReplayed}
use Rattle.mono_session.specs.Keeper.{no_sessions}
use Rattle.mono_lines.specs.SessionTexts as session_line
use Rattle.mono_script.specs.Services.{serving}
use Rattle.mono_limit.specs.Limiter.{no_limits}
use Rattle.mono_lines.specs.LimiterTexts as limiter_line
use Rattle.mono_script.specs.Checks.{checking, checking_whole}

-- a replay: event lines as input, and a line for each report of a run
abbrev pub replaying : Limits → Blocking → Meaning
replaying limits strategy = record {
  reads = true;
  workers = None;
  IsGood = λ input. (events : List Event) × AreEventLines events (lines input);
  IsFirstBad = λ input n. IsFirstBad (lines input) n;
  Answers = λ input s output. (s ≡ status.Done) × IsReplayed limits strategy input output;
}

-- A run: a script as input, and the lines of a journal. The status is that of the run's end. It asks for this number of
-- workers; they and the clock's exposed readings decide the readings in the journal.
abbrev pub run_status : RunEnd → Status
run_status (ran.Output o) = status.Done
run_status ran.Turns = status.Turns
run_status ran.Capacity = status.Capacity

abbrev pub running : ℕ → ℕ → Option (List ℕ) → Meaning
running workers turns readings = record {
  reads = true;
  workers = Some workers;
  IsGood = λ input. (script : Script) × Spells input script;
  IsFirstBad = λ input n. scripts.IsFirstBad input n;
  Answers = λ input s output. (script : Script) × Spells input script × ((e : RunEnd) × (s ≡ run_status e) × RunsScript workers readings script turns e output);
}

-- a load: the source is not read, and one line sums up the reports of a run
abbrev pub summary_line : Summary → List ℕ
summary_line s = codes "events " ++ decimal s.events ++ codes " fired " ++ decimal s.fired ++ codes " refused " ++ decimal s.refused ++ codes " order " ++ decimal s.order ++ 10 ∷ []

abbrev pub loading : ℕ → ℕ → Meaning
loading seed count = record {
  reads = false;
  workers = None;
  IsGood = λ input. Unit {0};
  IsFirstBad = λ input n. ⊥;
  Answers = λ input s output. (s ≡ status.Done) × ((sum : Summary) × IsSummary seed count sum × (output ≡ summary_line sum));
}

-- sessions: lines of calls as input, and a line for each answer of a run of their steps from the empty sessions
abbrev pub keeping_sessions : ℕ → ℕ → Meaning
keeping_sessions most_sessions most_entries = serving session_line.call_text session_line.FitsCall session_line.StepsAs (no_sessions most_sessions most_entries)

-- a limiter: lines of calls as input, on buckets and retries that begin empty, and a line for each answer of a run
abbrev pub limiting : ℕ → ℕ → Meaning
limiting buckets retries = serving limiter_line.call_text limiter_line.FitsCall limiter_line.StepsAs (no_limits buckets retries)

-- actors: lines of calls as input, and a line for each call's answers
abbrev pub acting : ℕ → ℕ → Meaning
acting actors messages = serving line_text FitsLine Answers (no_actors actors messages)

-- each command, if the clock exposes these readings
abbrev pub meaning : Option (List ℕ) → Command → Meaning
meaning readings (command.Replay limits strategy) = replaying limits strategy
meaning readings (command.Run workers turns) = running workers turns readings
meaning readings (command.Load seed count) = loading seed count
meaning readings (command.Sessions sessions entries) = keeping_sessions sessions entries
meaning readings (command.Limiter buckets retries) = limiting buckets retries
meaning readings (command.Actors actors messages) = acting actors messages
meaning readings (command.Check limits strategy) = checking limits strategy
meaning readings (command.CheckWhole limits strategy) = checking_whole limits strategy
