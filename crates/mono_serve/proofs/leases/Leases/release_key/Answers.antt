use Rattle.std.proofs.Common.{refl}
use Rattle.mono_session.specs.Calls as call
use Rattle.mono_time.specs.Instants.{nanos_of}
use Rattle.mono_serve.proofs.LeaseLemmas.{releases, lacks_at}
use Rattle.mono_serve.proofs.leases.Leases.release_key.Goals as goal

pub returns-in-Ok : goal.returns-in-Ok
returns-in-Ok c = (releases _ _ _ (nanos_of c.args.now) c.args.session c.args.key c.release.result c.in-Ok.ensures c.release.ensures.step, (refl, refl, refl), (refl, refl, refl))

pub returns-in-Err : goal.returns-in-Err
returns-in-Err c = (lacks_at _ _ (nanos_of c.args.now) (call.Release c.args.session c.args.key) _ c.in-Err.ensures refl, (refl, refl, refl), (refl, refl, refl))
