use Rattle.mono_rt.proofs.parts.clock_steps.Parts+O+Blockings+P.clock_step.Given as goal

-- the ledger of the steps is the one of the blank
abbrev pub ghosts-take_due : goal.ghosts-take_due
ghosts-take_due g a = record { name = a.blank.name; parts = a.blank.parts }
