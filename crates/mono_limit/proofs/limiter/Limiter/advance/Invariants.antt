use Rattle.mono_limit.proofs.limiter.Limiter.advance.Given as goal

-- the ledger of the steps is the one of the blank
abbrev pub ghosts-end_each : goal.ghosts-end_each
ghosts-end_each a = record { name = a.blank.name; parts = a.blank.parts }
