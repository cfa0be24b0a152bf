use Rattle.std.proofs.Common.{refl}
use Rattle.mono_session.specs.Calls as call
use Rattle.mono_time.specs.Instants.{nanos_of}
use Rattle.mono_serve.proofs.LeaseLemmas.{closes, lacks_at}
use Rattle.mono_serve.proofs.leases.Leases.close_session.Goals as goal

pub returns-in-Ok : goal.returns-in-Ok
returns-in-Ok c = (closes _ _ _ (nanos_of c.args.now) c.args.session c.close.result c.in-Ok.ensures c.close.ensures.step, (refl, refl, refl), (refl, refl, refl))

pub returns-in-Err : goal.returns-in-Err
returns-in-Err c = (lacks_at _ _ (nanos_of c.args.now) (call.Close c.args.session) _ c.in-Err.ensures refl, (refl, refl, refl), (refl, refl, refl))
