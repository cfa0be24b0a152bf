use Rattle.test_futures.proofs.vectors.comes_out.Given as goal

abbrev pub ghosts-polled_to : goal.ghosts-polled_to
ghosts-polled_to a = record { name = a.blank.name; parts = a.blank.parts }
