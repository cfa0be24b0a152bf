use Rattle.mono_session.proofs.keeper.Sessions.advance.Given as goal

-- the ledger of the steps is the one of the blank
abbrev pub ghosts-close_each : goal.ghosts-close_each
ghosts-close_each a = record { name = a.blank.name; parts = a.blank.parts }
