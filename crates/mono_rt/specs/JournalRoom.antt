-- When a journal becomes full.
use Rattle.std.specs.Prelude.{◌≡◌, ◌<◌, ◌⊎◌, ℕ, true, false, length}
use Rattle.mono_model.specs.declared.Ended.{Ended}
use Rattle.mono_task.specs.Members.{FutureOf, SharedOf}
use Rattle.mono_time.specs.declared.instant.Instant.{Instant}
use Rattle.mono_machine.specs.Machine.{Machine}
use Rattle.mono_machine.specs.declared.events.End.{End}
use Rattle.mono_rt.specs.Record.{no_acts, room}
use Rattle.mono_rt.specs.Refinement.{hosting_of, Matches}
use Rattle.mono_rt.specs.Turns.{Turn}
use Rattle.mono_rt.specs.PartTurns.{IsTurnOf}
use Rattle.mono_rt.specs.Journals.{Goes}
use Rattle.mono_rt.specs.declared.contexts.Cx.{Cx}
use Rattle.mono_rt.specs.declared.parts.journals.Journal.{Journal}

module _ {F O P U W J A V : Type 0} (number : O → ℕ) (sharing : SharedOf W) (future : FutureOf F (Cx F O P U W J A V) O) where
  -- A turn in which one poll of the task's own future made more calls than the record of a turn has room for. It began
  -- with an empty record and ended with a full one, and for each machine it is a turn of more than 512 acts.
  pub record LongTurn (c d : Cx F O P U W J A V) : Type 0 where
    pub task : ℕ
    pub now : Instant
    pub ending : End
    pub ended : Ended
    pub turn : Turn number sharing future task now (no_acts false) ending ended c d
    pub is_full : d.parts.acts.is_full ≡ true
    pub acts : (m : Machine) → Matches number hosting_of c.parts m → (is : IsTurnOf number task ending ended c.parts d.parts m) × (room < length is.steps)

  -- there is such a turn
  abbrev pub IsOneLong : Type 0
  IsOneLong = (c : Cx F O P U W J A V) × ((d : Cx F O P U W J A V) × LongTurn c d)

  -- There was such a turn. The journal was not full until it began, so it kept all entries before.
  pub record FilledBy (c : Cx F O P U W J A V) (j : Journal) : Type 0 where
    pub before : Cx F O P U W J A V
    pub after : Cx F O P U W J A V
    pub so_far : Journal
    pub went : Goes number c.parts before.parts j so_far
    pub unfull : so_far.is_full ≡ false
    pub long : LongTurn before after

  -- The journal is full afterwards only if it was full before, or a turn made more acts than its record has room for. A
  -- full journal stays full.
  pub record Fills (c : Cx F O P U W J A V) (j k : Journal) : Type 0 where
    pub filled : k.is_full ≡ true → (j.is_full ≡ true) ⊎ FilledBy c j
    pub stays : j.is_full ≡ true → k.is_full ≡ true
