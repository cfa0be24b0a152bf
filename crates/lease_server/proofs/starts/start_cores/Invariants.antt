use Rattle.std.specs.Prelude.{◌≡◌, ◌+◌, ◌≤◌, [], length}
use Rattle.mono_channel.specs.Delivery.{all_shares}
use Rattle.mono_channel.specs.Ends.{shares_of, IsPair}
use Rattle.lease_server.specs.Dispatch.{Holds}
use Rattle.lease_server.specs.Threads.{ArePaired, AreNumbered}
use Rattle.lease_server.proofs.starts.start_cores.Given as goal

abbrev pub invariant-loop-number : goal.invariant-loop-number
invariant-loop-number g l = record {
  paired : ArePaired l.fn.dispatcher.refusals.outlet.sender l.threads.items l.dispatcher.lanes.items;
  numbered : AreNumbered 0 l.settings.sizes l.threads.items;
  count : length l.threads.items ≡ l.number;
  most : l.number ≤ l.settings.cores;
  shares : shares_of l.dispatcher.refusals.outlet.sender + length l.threads.items ≡ all_shares;
  pair : IsPair l.dispatcher.refusals.outlet.sender l.fn.dispatcher.refusals.outlet.sender;
  holds : Holds [] l.fn.dispatcher → Holds [] l.dispatcher;
}
