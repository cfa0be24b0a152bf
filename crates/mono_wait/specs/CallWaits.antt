-- The parks of one call of `block_on`: each finds its tasks waiting.
use Rattle.std.specs.Prelude.{ℕ, Bool, List}
use Rattle.mono_task.specs.Members.{FutureOf, SharedOf}
use Rattle.mono_machine.specs.Machine.{Machine}
use Rattle.mono_machine.specs.Watches.{Source}
use Rattle.mono_rt.specs.Rounds.{IsSpawn}
use Rattle.mono_rt.specs.Stores.{Store, with_future}
use Rattle.mono_rt.specs.declared.contexts.Cx.{Cx}
use Rattle.mono_rt.specs.declared.parts.journals.Entry.{Entry}
use Rattle.mono_wait.specs.JournalWaits.{Waiting}

module _ {F O P U W J A V : Type 0} (number : O → ℕ) (sharing : SharedOf W) (future : FutureOf F (Cx F O P U W J A V) O) (needs : F → Source → Type 0) (has_timers : Bool) where
  -- The entries are the spawn of the main task, whose future comes last, and more. At each park among these each
  -- unfinished task waits for each source that its future needs.
  pub record WaitsInCall (first : F) (store : Store F W) (old : Machine) (part : List Entry) : Type 0 where
    pub main : ℕ
    pub spawned : Machine
    pub more : List Entry
    pub spawn : IsSpawn main old part spawned more
    pub waits : (reading t : ℕ) (x : Source) → Waiting number sharing future needs has_timers t x ⊥ spawned (with_future store first) reading more
