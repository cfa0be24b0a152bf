use Rattle.std.proofs.Common.{refl}
use Rattle.mono_session.specs.Calls as call
use Rattle.mono_time.specs.Instants.{nanos_of}
use Rattle.mono_serve.proofs.LeaseLemmas.{opens, lacks_at}
use Rattle.mono_serve.proofs.leases.Leases.open_session.Goals as goal

pub returns-in-Ok : goal.returns-in-Ok
returns-in-Ok c = (opens _ _ _ (nanos_of c.args.now) c.args.limit_ms c.open.result c.in-Ok.ensures c.open.ensures.step, (refl, refl, refl), (refl, refl, refl))

pub returns-in-Err : goal.returns-in-Err
returns-in-Err c = (lacks_at _ _ (nanos_of c.args.now) (call.Open c.args.limit_ms) _ c.in-Err.ensures refl, (refl, refl, refl), (refl, refl, refl))
