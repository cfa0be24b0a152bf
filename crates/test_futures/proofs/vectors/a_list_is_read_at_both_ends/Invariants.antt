use Rattle.test_futures.proofs.vectors.a_list_is_read_at_both_ends.Given as goal

abbrev pub ghosts-two_lists : goal.ghosts-two_lists
ghosts-two_lists g a = record { name = a.blank.name; parts = a.blank.parts }
