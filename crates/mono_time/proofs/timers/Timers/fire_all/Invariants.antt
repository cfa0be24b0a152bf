use Rattle.mono_time.proofs.timers.Timers.fire_all.Given as goal

-- the ledger of the steps is the one of the blank
abbrev pub ghosts-fire_each : goal.ghosts-fire_each
ghosts-fire_each a = record { name = a.blank.name; parts = a.blank.parts }
