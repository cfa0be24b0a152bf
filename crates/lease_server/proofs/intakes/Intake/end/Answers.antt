use Rattle.std.proofs.Common.{inl, inr, refl}
use Rattle.lease_server.proofs.intakes.Intake.end.Goals as goal

pub returns : goal.returns
returns g c = inr (c.status.ensures, c.is_over.ensures c.if-not-is_over.false, c.has_sent_all.ensures c.if-not-has_sent_all.false)
