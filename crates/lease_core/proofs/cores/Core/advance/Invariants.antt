use Rattle.lease_core.proofs.cores.Core.advance.Given as goal

-- the ledger of the steps is the one of the blank
abbrev pub ghosts-close_due : goal.ghosts-close_due
ghosts-close_due a = record { name = a.blank.name; parts = a.blank.parts }

abbrev pub ghosts-fill : goal.ghosts-fill
ghosts-fill a = record { name = a.blank.name; parts = a.blank.parts }
