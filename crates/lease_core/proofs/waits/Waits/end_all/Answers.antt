use Rattle.std.proofs.Common.{arith}
use Rattle.lease_core.proofs.PlaceLemmas.{length_waiters}
use Rattle.lease_core.proofs.waits.Waits.end_all.Goals as goal

pub end_each-requires : goal.end_each-requires
end_each-requires c = omega (arith, c.requires, length_waiters c.args.self.now.places.entries)
