use Rattle.mono_actor.proofs.table.Actors.advance.Given as goal

-- the ledger of the steps is the one of the blank
abbrev pub ghosts-ring_each : goal.ghosts-ring_each
ghosts-ring_each g a = record { name = a.blank.name; parts = a.blank.parts }
