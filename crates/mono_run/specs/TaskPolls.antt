-- One poll of a script's task: the acts that its lines give, from where its last turn stopped.
use Rattle.std.specs.Prelude.{⊤, ◌≡◌, ◌≤◌, ℕ, ◌+◌, ◌*◌, true, false, List, [], ◌++◌, length, map, drop, slice_get, Option, Some, None}
use Rattle.mono_model.specs.declared.poll.Poll.{Poll}
use Rattle.mono_model.specs.declared.poll.Poll.TheVariants.{Ready, Pending}
use Rattle.mono_time.specs.Instants.{nanos_of}
use Rattle.mono_machine.specs.declared.events.TurnStep.{TurnStep}
use Rattle.mono_machine.specs.declared.events.Reply.{Reply}
use Rattle.mono_machine.specs.Machine.{Machine}
use Rattle.mono_blocking.specs.JobSpawns.{Seen}
use Rattle.mono_rt.specs.Numbering.{end_of}
use Rattle.mono_rt.specs.Refinement.{hosting_of, Matches}
use Rattle.mono_rt.specs.Record.{Record}
use Rattle.mono_rt.specs.declared.contexts.Cx.{Cx}
use Rattle.mono_rt.specs.declared.parts.state.Parts.{Parts}
use Rattle.mono_run.specs.declared.scripts.body.BodyLine.{BodyLine}
use Rattle.mono_run.specs.Script.{Kind}
use Rattle.mono_run.specs.ScriptTurns.{Place, place, Turned, turn_of, own_steps, own_replies}
use Rattle.mono_run.specs.TaskStages.{lines_of}
use Rattle.mono_run.specs.declared.tasks.Own.{Own}
use Rattle.mono_run.specs.declared.tasks.ScriptTask.{ScriptTask}

abbrev pub kind_of : ScriptTask → Option Kind
kind_of task = slice_get task.kinds.now task.kind

-- the lines from this one on, and the output
abbrev pub left_of : Option Kind → ℕ → List BodyLine
left_of None at = []
left_of (Some kind) at = drop at kind.body

abbrev pub output_of : Option Kind → ℕ
output_of None = 0
output_of (Some kind) = kind.output

-- the place of the task
abbrev pub place_of : ScriptTask → Place
place_of task = place (left_of (kind_of task) task.at) (output_of (kind_of task)) task.own.tasks task.own.jobs task.own.sleeping

abbrev pub no_own : Own
no_own = record { tasks = []; jobs = []; sleeping = None }

-- a task of kind k of the same script, at its first line
abbrev pub new_task : ScriptTask → ℕ → ScriptTask
new_task task k = record { kinds = task.kinds; kind = k; at = 0; own = no_own }

-- the new tasks as the futures of a table
abbrev pub new_futures : ScriptTask → List ℕ → List (Option ScriptTask)
new_futures task ks = map (λ k. Some (new_task task k)) ks

-- No body of the script has more than 127 lines, and each handle that the task has was made by a line before.
pub record Fits (task : ScriptTask) : Type 0 where
  pub short : (k : ℕ) → lines_of (slice_get task.kinds.now k) ≤ 127
  pub tasks : length task.own.tasks ≤ task.at
  pub jobs : length task.own.jobs ≤ task.at

-- The record grew by acts with their replies. The steps here are the task's own, without the ends of jobs that they saw,
-- whatever follows.
pub record Grew (c d : Record) (steps : List TurnStep) (replies : List Reply) : Type 0 where
  pub acts : List TurnStep
  pub told : List Reply
  pub steps_are : d.steps ≡ c.steps ++ acts
  pub replies_are : d.replies ≡ c.replies ++ told
  pub paired : length told ≡ length acts
  pub own : (rest : List TurnStep) → own_steps (acts ++ rest) ≡ steps ++ own_steps rest
  pub answers : (rest : List TurnStep) (more : List Reply) → own_replies (acts ++ rest) (told ++ more) ≡ replies ++ own_replies rest more

-- The record grew by at most n acts.
abbrev pub GrewAtMost : ℕ → Record → Record → Type 0
GrewAtMost n c d = length d.steps ≤ length c.steps + n

-- A turn of a task of a script has at most this number of acts: two for the sleep for which the task waits, and four for
-- each of at most 127 lines. Four are those of a line that waits for a job: a poll and a drop, each after an end that it
-- saw.
abbrev pub most_acts : ℕ
most_acts = 2 + 4 * 127

-- No call ran out of memory, and there are timers.
pub record HasKept {O B : Type 0} (c : Parts O B) : Type 0 where
  pub memory : c.is_out_of_memory ≡ false
  pub timers : c.has_timers ≡ true

-- The parts refine a machine, as those of a runtime do in each turn.
abbrev pub Stands : {P : Type 0} → Parts ℕ (Seen P) → Type 0
Stands c = (m : Machine) × Matches (λ n. n) hosting_of c m

-- the place of a task that gave this answer
abbrev pub stands_at : Poll ℕ → ScriptTask → Option Place
stands_at (Ready output) left = None
stands_at Pending left = Some (place_of left)

module _ {P U J A V : Type 0} where
  -- The acts of the turn from here are those that the task's lines give, by the replies and the clock's reading before
  -- the turn.
  pub record RunsLines (task : ScriptTask) (c : Cx ScriptTask ℕ P U ⊤ J A V) (answer : Poll ℕ) (left : ScriptTask) (d : Cx ScriptTask ℕ P U ⊤ J A V) : Type 0 where
    pub replies : List Reply
    pub turned : Turned
    pub gives : turn_of (place_of task) c.parts.me (nanos_of c.parts.now) replies ≡ Some turned
    pub acts : Grew c.parts.acts d.parts.acts turned.steps replies
    pub ends : turned.e ≡ end_of (λ n. n) answer
    pub after : turned.after ≡ stands_at answer left
    -- the tasks that it made come after the others
    pub made : d.futures.items ≡ c.futures.items ++ new_futures task turned.made
    -- it is a task of the same script, and of the same kind
    pub kinds : left.kinds ≡ task.kinds
    pub kind : left.kind ≡ task.kind
    pub fits : Fits left

  -- One poll of a task of a script: it has few acts (`few`). In a turn of a runtime in which no call ran out of memory
  -- they are those of its lines (`lines`).
  pub record PollsTask (task : ScriptTask) (c : Cx ScriptTask ℕ P U ⊤ J A V) (answer : Poll ℕ) (left : ScriptTask) (d : Cx ScriptTask ℕ P U ⊤ J A V) : Type 0 where
    pub few : GrewAtMost most_acts c.parts.acts d.parts.acts
    pub lines : Fits task → Stands c.parts → HasKept d.parts → RunsLines task c answer left d
