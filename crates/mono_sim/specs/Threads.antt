-- What a world shows of its runtimes, beside what threads may show of theirs.
use Rattle.std.specs.Prelude.{ℕ}
use Rattle.mono_task.specs.Members.{FutureOf, SharedOf}
use Rattle.mono_driver.specs.declared.clock.Clock
use Rattle.mono_rt.specs.declared.contexts.Cx.{Cx}
use Rattle.mono_sim.specs.declared.worlds.World.{World}
use Rattle.mono_sim.specs.Worlds.{Chain, EachGoesOn}

module _ {F O D P W U J A V : Type 0} (number : O → ℕ) (sharing : SharedOf W) (clock : Clock.Ghosts D) (future : FutureOf F (Cx F O P U W J A V) O) where
  -- After any steps of a world each of its runtimes went on as a thread may let it: by calls of `run_until` on its main task,
  -- each with all clauses of that call, and by nothing else.
  abbrev pub IsAsOnThreads : Type 0
  IsAsOnThreads = (n : ℕ) (old new : World F O D P W U J A V) → Chain number sharing clock future n old new → EachGoesOn number sharing clock future old new
