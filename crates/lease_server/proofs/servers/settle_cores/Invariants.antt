use Rattle.std.specs.Prelude.{◌≡◌, ◌+◌, List, length}
use Rattle.std.specs.Vec.Iter.{into_iter_items}
use Rattle.mono_channel.specs.Ends.{received_by, settled_by, shares_of, IsPair}
use Rattle.lease_server.specs.Threads.{ArePaired}
use Rattle.lease_server.proofs.ThreadLemmas.{Left}
use Rattle.lease_server.proofs.servers.settle_cores.Given as goal

abbrev pub invariant-loop-thread : goal.invariant-loop-thread
invariant-loop-thread g l = record {
  paired : ArePaired l.fn.texts (into_iter_items l.thread-iterator) (into_iter_items l.ways);
  pair : IsPair l.texts l.fn.texts;
  received : received_by l.texts ≡ received_by l.fn.texts;
  shares : shares_of l.texts + length (into_iter_items l.thread-iterator) ≡ shares_of l.fn.texts + length l.fn.threads.items;
  left : Left (settled_by l.fn.texts) l.fn.threads.items l.fn.lanes.items (settled_by l.texts) (into_iter_items l.thread-iterator) (into_iter_items l.ways) l.is_done;
}
