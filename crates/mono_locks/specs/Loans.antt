-- What a guard ends as, if a reference to its value is handed out.
use Rattle.std.specs.Borrow.{Lends, Fml, RattleType, MutBor}
use Rattle.mono_locks.specs.contracts.mutex.MutexGuard.{the_row}
use Rattle.mono_locks.specs.contracts.rwlock.RwLockWriteGuard.{the_row as written_row}
use Rattle.mono_locks.specs.declared.mutex.MutexGuard.{MutexGuard}
use Rattle.mono_locks.specs.declared.rwlock.RwLockWriteGuard.{RwLockWriteGuard}

-- The guard ends with the last value under r.
abbrev pub LendsGuarded : (T : RattleType) → MutBor (MutexGuard T.Denot) → MutBor T.Denot → Fml
LendsGuarded T g r = Lends (the_row T) T g r (λ x. record { value = x })

abbrev pub LendsWritten : (T : RattleType) → MutBor (RwLockWriteGuard T.Denot) → MutBor T.Denot → Fml
LendsWritten T g r = Lends (written_row T) T g r (λ x. record { value = x })
