use Rattle.std.proofs.Common.{None, refl}
use Rattle.mono_serve.proofs.leases.Leases.serve.Goals as goal

pub returns-in-None-clause-serves : goal.returns-in-None-clause-serves
returns-in-None-clause-serves c = (None, c.in-None.ensures, (refl, refl, refl), refl, refl, (refl, refl, refl))
