use Rattle.test_threads.proofs.recorded_inboxes.a_recorded_wake_ends_a_park.Given as goal

abbrev pub ghosts-wakes_end_parks : goal.ghosts-wakes_end_parks
ghosts-wakes_end_parks g a = record { name = a.blank.name; parts = a.blank.parts }
