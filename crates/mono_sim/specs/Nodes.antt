-- A runtime in a world.
use Rattle.std.specs.Prelude.{◌≡◌, ℕ, Bool, false, Option, Some, None, Result, Ok, Err}
use Rattle.mono_model.specs.Joins.{finished_answer, join_answer}
use Rattle.mono_model.specs.declared.poll.Poll.{Poll}
use Rattle.mono_model.specs.declared.poll.Poll.TheVariants.{Ready, Pending}
use Rattle.mono_model.specs.declared.task_error.TaskError.{TaskError}
use Rattle.mono_task.specs.Members.{FutureOf, SharedOf}
use Rattle.mono_driver.specs.declared.clock.Clock
use Rattle.mono_rt.specs.Views.{tasks_of}
use Rattle.mono_rt.specs.declared.contexts.Cx.{Cx}
use Rattle.mono_sim.specs.declared.nodes.Node.{Node}
use Rattle.mono_sim.specs.Courses.{Runs}

abbrev pub is_finished : Result Bool TaskError → Bool
is_finished (Ok has_finished) = has_finished
is_finished (Err e) = false

-- The output in the answer of a poll.
abbrev pub output_in : {O : Type 0} → Result (Poll O) TaskError → Option O
output_in (Ok (Ready output)) = Some output
output_in (Ok Pending) = None
output_in (Err e) = None

module _ {F O D P W U J A V : Type 0} where
  -- The output of the main task, unless it was taken.
  abbrev pub output_of : Node F O D P W U J A V → Option O
  output_of node = output_in (join_answer (tasks_of node.runtime) node.main)

  -- Whether the main task has finished.
  abbrev pub has_finished : Node F O D P W U J A V → Bool
  has_finished node = is_finished (finished_answer (tasks_of node.runtime) node.main)

  module _ (number : O → ℕ) (sharing : SharedOf W) (clock : Clock.Ghosts D) (future : FutureOf F (Cx F O P U W J A V) O) where
    -- The runtime went on by some calls of `run_until` on its main task, and by nothing else.
    pub record GoesOn (old new : Node F O D P W U J A V) : Type 0 where
      pub main : new.main ≡ old.main
      pub calls : ℕ
      pub runs : Runs number sharing clock future old.main calls old.runtime new.runtime
