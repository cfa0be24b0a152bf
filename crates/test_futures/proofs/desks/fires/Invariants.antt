use Rattle.test_futures.proofs.desks.fires.Given as goal

abbrev pub ghosts-fired : goal.ghosts-fired
ghosts-fired a = record { name = a.blank.name; parts = a.blank.parts }
