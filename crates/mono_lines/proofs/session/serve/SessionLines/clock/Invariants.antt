use Rattle.mono_lines.proofs.session.serve.SessionLines.clock.Given as goal

-- the ledger of the steps is the one of the blank
abbrev pub ghosts-clock_step : goal.ghosts-clock_step
ghosts-clock_step a = record { name = a.blank.name; parts = a.blank.parts }
