-- A task that is spawned at the first poll.
use Rattle.std.specs.Prelude.{◌≡◌, ℕ, Option, Some, None, Result}
use Rattle.mono_model.specs.Tasks.{Tasks}
use Rattle.mono_model.specs.declared.poll.Poll.{Poll}
use Rattle.mono_model.specs.declared.poll.Poll.TheVariants.{Ready}
use Rattle.mono_task.specs.Spawns.{Spawns}
use Rattle.mono_task.specs.declared.error.SpawnRefused.{SpawnRefused}

module _ {C G F O : Type 0} (gives : G → F → Type 0) (tasks : C → Tasks O) (reaches : C → C → Type 0) where
  -- the task that the answer is about, by the future that was made for it
  pub record SpawnsFrom (g : G) (c : C) (r : Poll (Result ℕ (SpawnRefused F))) (left : Option G) (d : C) : Type 0 where
    pub future : F
    pub made : gives g future
    pub answer : Result ℕ (SpawnRefused F)
    pub ready : r ≡ Ready answer
    pub spawned : Spawns (tasks c) future answer (tasks d)
    pub spent : left ≡ None
    pub reached : reaches c d

  abbrev pub SpawnPolls : Option G → C → Poll (Result ℕ (SpawnRefused F)) → Option G → C → Type 0
  SpawnPolls (Some g) c r left d = SpawnsFrom g c r left d
  SpawnPolls None c r left d = ⊥

module _ {G F : Type 0} (O : Type 0) (gives : G → F → Type 0) where
  -- The answer is that of a spawn of a future that is made of this one, among some tasks.
  pub record AnswersSpawn (g : G) (answer : Result ℕ (SpawnRefused F)) : Type 0 where
    pub future : F
    pub made : gives g future
    pub before : Tasks O
    pub after : Tasks O
    pub spawned : Spawns before future answer after

  abbrev pub SpawnGives : Option G → Result ℕ (SpawnRefused F) → Type 0
  SpawnGives (Some g) answer = AnswersSpawn g answer
  SpawnGives None answer = ⊥
