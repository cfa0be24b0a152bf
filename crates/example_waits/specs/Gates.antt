-- What a park finds of a task that waits for a permit.
use Rattle.std.specs.Prelude.{◌≡◌, ◌≤◌, ℕ, true, false, List}
use Rattle.mono_sync.specs.Semaphores.{listed_by}
use Rattle.mono_sync.specs.declared.parts.Only.{Only}
use Rattle.mono_sync.specs.declared.semaphores.Semaphore.{Semaphore}

-- The task stands in the line at this place. The semaphore is open, and no permit is free: each is held, or reserved for a
-- task that was served.
abbrev pub StandsInLine : Only Semaphore → List ℕ → ℕ → Type 0
StandsInLine w p t = (listed_by w.part p t ≡ true) × ((w.part.is_closed ≡ false) × (w.part.available ≤ w.part.line.granted))
