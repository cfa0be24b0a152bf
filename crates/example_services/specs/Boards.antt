-- The parts of a board.
use Rattle.std.specs.Prelude.{ℕ}
use Rattle.mono_sync.specs.declared.mpsc.Channel.{Channel}
use Rattle.mono_sync.specs.declared.semaphores.Semaphore.{Semaphore}
use Rattle.example_services.specs.declared.channels.boards.Board.{Board}

abbrev pub numbers : Board → Channel ℕ
numbers w = w.numbers

abbrev pub permits : Board → Semaphore
permits w = w.permits
