-- The bytes written by a command that answers each line as soon as it was read.
use Rattle.std.specs.Prelude.{◌≡◌, ◌⊎◌, ℕ, List, Option}
use Rattle.mono_machine.specs.Machine.{Machine, start_machine}
use Rattle.mono_machine.specs.Steps.{Step}
use Rattle.mono_machine.specs.declared.events.Event.{Event}
use Rattle.mono_machine.specs.declared.events.Report.{Report}
use Rattle.mono_text.specs.Follows.{HasFollowed}
use Rattle.mono_text.specs.LineText.{event_text, FitsEvent, report_text}
use Rattle.mono_text.specs.declared.followers.FollowEnd.{FollowEnd}
use Rattle.mono_text.specs.declared.followers.FollowEnd.TheVariants as end
use Rattle.mono_actor.specs.Actors.{no_actors}
use Rattle.mono_lines.specs.ActorTexts as actor_line
use Rattle.mono_lines.specs.ActorAnswers as actor_answer
use Rattle.mono_session.specs.Keeper.{no_sessions}
use Rattle.mono_lines.specs.SessionTexts as session_line
use Rattle.mono_limit.specs.Limiter.{no_limits}
use Rattle.mono_lines.specs.LimiterTexts as limiter_line
use Rattle.mono_script.specs.declared.command.Command.{Command}
use Rattle.mono_script.specs.declared.command.Command.TheVariants as command
use Rattle.mono_script.specs.declared.ends.Status.{Status}
use Rattle.mono_script.specs.declared.ends.Status.TheVariants as status

abbrev pub status_of_end : FollowEnd → Status
status_of_end end.Done = status.Done
status_of_end end.BadLine = status.BadLine
status_of_end end.ReadFault = status.ReadFault
status_of_end end.WriteFault = status.WriteFault
status_of_end end.OutOfMemory = status.OutOfMemory
status_of_end end.TooLong = status.TooLong

-- The text is the report of a step for the event.
abbrev pub ReportsAs : Machine → Event → List ℕ → Machine → Type 0
ReportsAs m e text next = (r : Report) × Step m e r next × (text ≡ report_text r)

-- There was no memory to begin, and nothing was read or written.
abbrev pub HasNotBegun : FollowEnd → Option (List ℕ) → Option (List ℕ) → Option (List ℕ) → Option (List ℕ) → Type 0
HasNotBegun e left now before after = (e ≡ end.OutOfMemory) × (now ≡ left) × (after ≡ before)

abbrev pub FollowsAs : Command → FollowEnd → List ℕ → Option (List ℕ) → Option (List ℕ) → Option (List ℕ) → Option (List ℕ) → Type 0
FollowsAs (command.Replay limits strategy) e rest left now before after =
    HasFollowed event_text FitsEvent ReportsAs (start_machine limits strategy) e rest left now before after ⊎ HasNotBegun e left now before after
FollowsAs (command.Sessions sessions entries) e rest left now before after =
    HasFollowed session_line.call_text session_line.FitsCall session_line.StepsAs (no_sessions sessions entries) e rest left now before after ⊎ HasNotBegun e left now before after
FollowsAs (command.Limiter buckets retries) e rest left now before after =
    HasFollowed limiter_line.call_text limiter_line.FitsCall limiter_line.StepsAs (no_limits buckets retries) e rest left now before after ⊎ HasNotBegun e left now before after
FollowsAs (command.Actors actors messages) e rest left now before after =
    HasFollowed actor_line.line_text actor_line.FitsLine actor_answer.Answers (no_actors actors messages) e rest left now before after ⊎ HasNotBegun e left now before after
FollowsAs (command.Run workers turns) e rest left now before after = ⊥
FollowsAs (command.Load seed count) e rest left now before after = ⊥
FollowsAs (command.Check limits strategy) e rest left now before after = ⊥
FollowsAs (command.CheckWhole limits strategy) e rest left now before after = ⊥
