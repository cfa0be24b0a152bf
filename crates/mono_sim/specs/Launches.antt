-- A runtime with the defaults, in a world.
use Rattle.std.specs.Prelude.{◌≡◌, true, [], ◌∷◌, ◌++◌, length, Some}
use Rattle.mono_rt.specs.Views.{futures_of, HasNewJournal}
use Rattle.mono_rt.specs.declared.runtimes.Runtime.{Runtime}
use Rattle.mono_sim.specs.declared.nodes.Node.{Node}
use Rattle.mono_sim.specs.declared.worlds.World.{World}
use Rattle.mono_sim.specs.Plans.{added, after_driver}

module _ {F O D P W U J A V : Type 0} where
  -- A runtime with a journal, whose one task is to run this future. Nothing was done yet.
  pub record IsStarted (future : F) (runtime : Runtime F O D P W U J A V) : Type 0 where
    pub futures : futures_of runtime ≡ Some future ∷ []
    pub history : runtime.journal.history.entries ≡ []
    pub journal : HasNewJournal true runtime

  -- Such a runtime was added. It is to have a step in this round.
  pub record Launches (future : F) (old new : World F O D P W U J A V) : Type 0 where
    pub node : Node F O D P W U J A V
    pub started : IsStarted future node.runtime
    pub nodes : new.nodes.items ≡ old.nodes.items ++ node ∷ []
    pub plan : new.schedule ≡ added (length old.nodes.items) (after_driver old.schedule)
    pub time : new.time ≡ old.time
