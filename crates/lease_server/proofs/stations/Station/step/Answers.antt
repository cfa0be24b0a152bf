use Rattle.std.proofs.Common.{refl}
use Rattle.mono_time.specs.Instants.{nanos_of}
use Rattle.lease_server.specs.Texts.{said_by}
use Rattle.lease_server.proofs.StationLemmas.{stepped, works, lost}
use Rattle.lease_server.proofs.stations.Station.step.Goals as goal

pub returns-in-Ok-clause-led : goal.returns-in-Ok-clause-led
returns-in-Ok-clause-led g c =
    stepped c.args.self.now c.keep.new.self c.serve_at.new.desk c.serve_at.new.requests c.in-Ok.came (nanos_of c.args.now) (said_by c.in-Ok.text) c.serve_at.ensures.taken c.serve_at.ensures.kept c.in-Ok.ensures.served
    c.keep.ensures.same.0 c.keep.ensures.same.1 c.keep.ensures.same.2 c.requires.open c.keep.ensures.stage c.keep.ensures.said

pub returns-in-Ok-clause-worked : goal.returns-in-Ok-clause-worked
returns-in-Ok-clause-worked g c =
    works c.args.self.now c.keep.new.self c.serve_at.new.desk c.serve_at.new.requests c.in-Ok.came (nanos_of c.args.now) (said_by c.in-Ok.text) c.in-Ok.ensures.served c.keep.ensures.same.0 c.keep.ensures.same.1

pub returns-in-Err-clause-led : goal.returns-in-Err-clause-led
returns-in-Err-clause-led g c = lost _ _ c.serve_at.ensures.taken c.serve_at.ensures.kept refl c.requires.open refl
