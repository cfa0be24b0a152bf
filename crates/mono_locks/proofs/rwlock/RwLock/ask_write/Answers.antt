use Rattle.std.proofs.Common.{refl}
use Rattle.mono_locks.proofs.rwlock.RwLock.ask_write.Goals as goal

pub returns-in-Memory : goal.returns-in-Memory
returns-in-Memory g c = (rw c.room-room.ensures at c.in-Memory.ensures.asks, refl, refl)

pub returns-in-Joined : goal.returns-in-Joined
returns-in-Joined g c = (rw c.room-room.ensures at c.in-Joined.ensures.asks, refl, refl)
