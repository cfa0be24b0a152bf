-- Part of a poll: the rest of the turn changes from one function of the replies to another.
use Rattle.std.specs.Prelude.{⊤, ◌≡◌, ◌<◌, ℕ, Bool, true, false, List, ◌∷◌, ◌++◌, length, Option, Some, None, Result, Ok, Err}
use Rattle.mono_model.specs.declared.poll.Poll.{Poll}
use Rattle.mono_model.specs.declared.poll.Poll.TheVariants.{Ready, Pending}
use Rattle.mono_machine.specs.declared.events.Act.TheVariants as act
use Rattle.mono_machine.specs.declared.events.TurnStep.{TurnStep}
use Rattle.mono_machine.specs.declared.events.TurnStep.TheVariants as step
use Rattle.mono_machine.specs.declared.events.Reply.{Reply}
use Rattle.mono_rt.specs.declared.contexts.Cx.{Cx}
use Rattle.mono_run.specs.declared.scripts.body.BodyLine.{BodyLine}
use Rattle.mono_run.specs.ScriptTurns.{Place, place, Turned, turn_from, stops_at, asked, with_handle, sleep_steps, sleep_in, none_made}
use Rattle.mono_run.specs.TaskPolls.{Grew, new_futures, kind_of, left_of, output_of, place_of}
use Rattle.mono_run.specs.declared.tasks.Next.{Next}
use Rattle.mono_run.specs.declared.tasks.Next.TheVariants as next
use Rattle.mono_run.specs.declared.tasks.Own.{Own}
use Rattle.mono_run.specs.declared.tasks.ScriptTask.{ScriptTask}

-- the rest of a turn, by the replies to come
abbrev pub Rest : Type 0
Rest = List Reply → Option Turned

-- these steps, and tasks of these kinds, before the others
abbrev pub behind : List TurnStep → List ℕ → Option Turned → Option Turned
behind steps made None = None
behind steps made (Some t) = Some (record { steps = steps ++ t.steps; e = t.e; after = t.after; made = made ++ t.made })

module _ {P U J A V : Type 0} where
  -- Between the two contexts the turn went from f to g.
  pub record Goes (task : ScriptTask) (f g : Rest) (c d : Cx ScriptTask ℕ P U ⊤ J A V) : Type 0 where
    pub replies : List Reply
    pub steps : List TurnStep
    pub made : List ℕ
    pub gives : (rest : List Reply) → f (replies ++ rest) ≡ behind steps made (g rest)
    pub acts : Grew c.parts.acts d.parts.acts steps replies
    pub futures : d.futures.items ≡ c.futures.items ++ new_futures task made

-- the answer of a poll that has to wait
abbrev pub waits : {A E : Type 0} → Result (Poll A) E → Bool
waits (Ok (Ready x)) = false
waits (Ok Pending) = true
waits (Err e) = false

-- after a wait that is over the rest follows, and else the turn stops here
abbrev pub if_over : Bool → Rest → Place → Rest
if_over true f here = f
if_over false f here = stops_at here

-- how the task continues after a line that waits, and after a line that makes its source
abbrev pub next_if : Bool → Next
next_if true = next.GoesOn
next_if false = next.Stays

abbrev pub next_behind : Bool → Next
next_behind true = next.GoesOn
next_behind false = next.Stops

-- a line that makes a sleep with this deadline and waits for it
abbrev pub sleep_line : Option ℕ → List BodyLine → ℕ → Own → Rest → Rest
sleep_line deadline left o own f =
    with_handle deadline
    (λ d q. asked (step.Act (act.NewSleep d)) sleep_in none_made (λ h p. with_handle h (λ s u. sleep_steps s (place left o own.tasks own.jobs (Some s)) f u) f p) q)
    f

-- the rest after a line, by how the task continues
abbrev pub behind_line : Next → BodyLine → List BodyLine → ℕ → ℕ → ℕ → Own → Rest
behind_line next.GoesOn line left me t o own = turn_from left me t o own.tasks own.jobs
behind_line next.Stops line left me t o own = stops_at (place left o own.tasks own.jobs own.sleeping)
behind_line next.Stays line left me t o own = stops_at (place (line ∷ left) o own.tasks own.jobs own.sleeping)

-- there is a place for one more handle of each sort
abbrev pub HasPlaces : Own → Type 0
HasPlaces own = (length own.tasks < 127) × (length own.jobs < 127)

-- the rest of the turn of a task that is at a line
abbrev pub at_task : ℕ → ℕ → ScriptTask → Rest
at_task me t task = turn_from (left_of (kind_of task) task.at) me t (output_of (kind_of task)) task.own.tasks task.own.jobs

abbrev pub behind_step : Next → ℕ → ℕ → ScriptTask → Rest
behind_step next.GoesOn me t task = at_task me t task
behind_step next.Stops me t task = stops_at (place_of task)
behind_step next.Stays me t task = stops_at (place_of task)
