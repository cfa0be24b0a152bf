use Rattle.std.proofs.Common.{refl}
use Rattle.lease_server.proofs.StationLemmas.{flushed}
use Rattle.lease_server.proofs.stations.Station.flush.Goals as goal

pub returns-clause-led : goal.returns-clause-led
returns-clause-led g c = flushed _ _ refl refl refl c.flush.ensures.kept
