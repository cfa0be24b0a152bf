use Rattle.mono_time.specs.Instants.{nanos_of}
use Rattle.mono_serve.proofs.LeaseLemmas.{looks_by, lost_by}
use Rattle.mono_serve.proofs.leases.Leases.look_at.Goals as goal

pub returns-in-Ok : goal.returns-in-Ok
returns-in-Ok c = (
  looks_by _ _ _ c.args.self.now.waiters.items (nanos_of c.args.now) c.args.ticket c.args.session c.args.key c.see.result c.in-Ok.ensures c.see.ensures.0,
  c.see.ensures.1,
  c.see.ensures.2,
)

pub returns-in-Err : goal.returns-in-Err
returns-in-Err c = (lost_by _ _ _ c.args.self.now.waiters.items (nanos_of c.args.now) c.args.ticket c.args.session c.args.key c.in-Err.ensures c.drop_out.ensures.0, c.drop_out.ensures.1, c.drop_out.ensures.2)
