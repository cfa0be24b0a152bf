use Rattle.example_checks.proofs.simulations.talk.Goals as goal

pub run-requires : goal.run-requires
run-requires g c = record { sound = c.add-2.ensures.sound (c.driver-2.ensures.sound (c.add.ensures.sound (c.driver.ensures.sound c.new-world.ensures.sound))) }
