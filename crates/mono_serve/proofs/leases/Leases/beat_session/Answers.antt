use Rattle.std.proofs.Common.{refl}
use Rattle.mono_session.specs.Calls as call
use Rattle.mono_time.specs.Instants.{nanos_of}
use Rattle.mono_serve.proofs.LeaseLemmas.{beats, lacks_at}
use Rattle.mono_serve.proofs.leases.Leases.beat_session.Goals as goal

pub returns-in-Ok : goal.returns-in-Ok
returns-in-Ok c = (beats _ _ _ (nanos_of c.args.now) c.args.session c.beat.result c.in-Ok.ensures c.beat.ensures.step, (refl, refl, refl), (refl, refl, refl))

pub returns-in-Err : goal.returns-in-Err
returns-in-Err c = (lacks_at _ _ (nanos_of c.args.now) (call.Beat c.args.session) _ c.in-Err.ensures refl, (refl, refl, refl), (refl, refl, refl))
