-- The history of one call on a new runtime.
use Rattle.std.specs.Prelude.{ℕ, Bool, List, [], Option, None, Result}
use Rattle.mono_task.specs.Members.{FutureOf, SharedOf}
use Rattle.mono_machine.specs.Machine.{Machine}
use Rattle.mono_rt.specs.Numbering.{answer_numbered}
use Rattle.mono_rt.specs.Rounds.{Blocked}
use Rattle.mono_rt.specs.Journals.{Registers}
use Rattle.mono_rt.specs.Stores.{Store, first_store}
use Rattle.mono_rt.specs.FuturePolls.{OnMain, PollsMain, OnLack, StillPollsMain}
use Rattle.mono_rt.specs.DriverReadings.{Told, IsTold}
use Rattle.mono_rt.specs.declared.contexts.Cx.{Cx}
use Rattle.mono_rt.specs.declared.parts.errors.RunError.{RunError}
use Rattle.mono_rt.specs.declared.parts.journals.Entry.{Entry}

-- There is a history from this machine and this shared value on that `Blocked` specifies for the answer. Its readings and parks are those of
-- a driver that exposed this before it. Each park is until the next expiration over the registered ticks, of which there
-- are none first. Each turn is one poll of its task's own future, with this one as the main task's; if memory ran out, also the turn in which it
-- did (`still_polled`).
pub record RunsFrom {F O P U W J A V : Type 0} (number : O → ℕ) (sharing : SharedOf W) (future : FutureOf F (Cx F O P U W J A V) O) (has_timers : Bool) (turns : ℕ) (main : F) (answer : Result O RunError) (old : Machine) (shared : W) (first : Told) : Type 0 where
  pub part : List Entry
  pub new : Machine
  pub blocked : Blocked has_timers turns (answer_numbered number answer) old part new []
  pub left : ℕ → Option ℕ
  pub parks : Registers None old (λ s. None) part new left
  pub told : IsTold answer first part
  pub polled : OnMain answer ((last : Machine) × ((store : Store F W) × PollsMain number sharing future has_timers main (first_store shared) store old part last []))
  pub still_polled : OnLack answer ((last : Machine) × ((store : Store F W) × StillPollsMain number sharing future has_timers main (first_store shared) store old part last []))
