use Rattle.mono_time.specs.Instants.{nanos_of}
use Rattle.mono_serve.proofs.LeaseLemmas.{shown}
use Rattle.mono_serve.proofs.leases.Leases.show.Goals as goal

pub returns : goal.returns
returns c = shown c.args.sessions.now c.advance.new.self (nanos_of c.args.now) _ _ c.advance.result c.args.now.in_range c.advance.ensures.step c.advance.ensures.refused
