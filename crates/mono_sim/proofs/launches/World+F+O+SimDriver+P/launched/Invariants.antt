use Rattle.std.proofs.Common.{◌≡◌, ◌+◌, length}
use Rattle.std.specs.Vec.Iter.{into_iter_items}
use Rattle.mono_sim.specs.Worlds.{IsSound}
use Rattle.mono_sim.proofs.launches.World+F+O+SimDriver+P.launched.Given as goal

-- the futures so far run, and those that are left follow
abbrev pub invariant-loop-future : goal.invariant-loop-future
invariant-loop-future g l = IsSound g.F.TaskFuture l.world × (length l.world.nodes.items + length (into_iter_items l.future-iterator) ≡ length l.fn.futures.items)
