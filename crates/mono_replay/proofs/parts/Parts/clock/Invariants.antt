use Rattle.mono_replay.proofs.parts.Parts.clock.Given as goal

-- the ledger of the steps is the one of the blank
abbrev pub ghosts-fire_all : goal.ghosts-fire_all
ghosts-fire_all a = record { name = a.blank.name; parts = a.blank.parts }
