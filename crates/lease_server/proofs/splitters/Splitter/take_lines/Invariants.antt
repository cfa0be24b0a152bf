use Rattle.std.proofs.Common.{◌≡◌, ℕ, List, length}
use Rattle.lease_server.specs.Blocks.{rest_of, size_of}
use Rattle.lease_server.specs.Dispatch.{KeepsWays}
use Rattle.lease_server.specs.Splits.{Stands}
use Rattle.lease_server.proofs.splitters.Splitter.take_lines.Given as goal

abbrev pub invariant-loop-count : goal.invariant-loop-count
invariant-loop-count l = record {
  ways : KeepsWays l.fn.self.dispatcher l.self.dispatcher;
  stands : (text : List ℕ) → Stands text l.fn.self → Stands text l.self;
  size : size_of l.self.block ≡ size_of l.fn.self.block;
}

abbrev pub decreases-loop-count : goal.decreases-loop-count
decreases-loop-count l = length (rest_of l.self.block)
