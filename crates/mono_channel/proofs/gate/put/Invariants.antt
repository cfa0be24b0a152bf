use Rattle.crossbeam_queue.specs.Passes.{ruled_capacity}
use Rattle.mono_channel.proofs.gate.put.Given as goal

-- as many places as the queue has
abbrev pub ghosts-push : goal.ghosts-push
ghosts-push g a = record { places = ruled_capacity a.queue.now }
