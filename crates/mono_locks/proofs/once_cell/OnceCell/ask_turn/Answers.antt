use Rattle.mono_locks.proofs.once_cell.OnceCell.ask_turn.Goals as goal

pub returns-in-Memory-clause-asks : goal.returns-in-Memory-clause-asks
returns-in-Memory-clause-asks g c = rw c.room-room.ensures at c.in-Memory.ensures.asks

pub returns-in-Joined-clause-asks : goal.returns-in-Joined-clause-asks
returns-in-Joined-clause-asks g c = rw c.room-room.ensures at c.in-Joined.ensures.asks
