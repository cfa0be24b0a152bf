-- What a spawn answers, and what it leaves of the tasks.
use Rattle.std.specs.Prelude.{◌≡◌, ℕ, ⊤, Bool, true, false, Result, Ok, Err}
use Rattle.mono_model.specs.Table.{next_number, is_full}
use Rattle.mono_model.specs.Tasks.{Tasks, spawned}
use Rattle.mono_task.specs.declared.error.SpawnRefused.{SpawnRefused}
use Rattle.mono_task.specs.declared.error.SpawnRefused.TheVariants.{Memory, AtCapacity}

-- the future that a refusal hands back
abbrev pub refused_future : {F : Type 0} → SpawnRefused F → F
refused_future (Memory f) = f
refused_future (AtCapacity f) = f

module _ {F : Type 0} where
  -- The answer is AtCapacity if and only if the live tasks are at the limit or the numbers are used up.
  abbrev pub IsRefusedIfFull : {O : Type 0} → Tasks O → Result ℕ (SpawnRefused F) → Type 0
  IsRefusedIfFull old (Ok t) = is_full old.table old.limit ≡ false
  IsRefusedIfFull old (Err (Memory back)) = is_full old.table old.limit ≡ false
  IsRefusedIfFull old (Err (AtCapacity back)) = is_full old.table old.limit ≡ true

  -- The answer is the next number, whose task is queued last; or the future comes back, and the tasks stay. The answer
  -- is AtCapacity if and only if the live tasks are at the limit or the numbers are used up.
  abbrev pub Spawns : {O : Type 0} → Tasks O → F → Result ℕ (SpawnRefused F) → Tasks O → Type 0
  Spawns old future (Ok t) new = (t ≡ next_number old.table) × (is_full old.table old.limit ≡ false) × (new ≡ spawned old)
  Spawns old future (Err (Memory back)) new = (back ≡ future) × (is_full old.table old.limit ≡ false) × (new ≡ old)
  Spawns old future (Err (AtCapacity back)) new = (back ≡ future) × (is_full old.table old.limit ≡ true) × (new ≡ old)

  -- refused memory is noted by a flag
  abbrev pub NotesMemory : Result ℕ (SpawnRefused F) → Bool → Type 0
  NotesMemory (Ok t) noted = ⊤
  NotesMemory (Err (Memory future)) noted = noted ≡ true
  NotesMemory (Err (AtCapacity future)) noted = ⊤
