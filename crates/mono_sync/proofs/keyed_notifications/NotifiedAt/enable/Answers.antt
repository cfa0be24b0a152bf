use Rattle.std.specs.Prelude.{Some}
use Rattle.std.proofs.Common.{ap, refl, inl, inr, subst}
use Rattle.mono_sync.specs.KeyedNotices.{AwaitsAt}
use Rattle.mono_sync.proofs.keyed_notifications.NotifiedAt.enable.Goals as goal

pub returns-in-Notified-clause-polled : goal.returns-in-Notified-clause-polled
returns-in-Notified-clause-polled g c = (subst (λ r. AwaitsAt c.args.self.now.key (g.W.Holds.part (g.C.SharedContext.shared c.args.cx.now)) c.args.self.now.ticket (g.C.Context.number c.args.cx.now) (Some r) (g.W.Holds.part (g.C.SharedContext.shared c.ask.new.cx))) c.in-Notified.is c.in-Some.ensures.answer, c.in-Some.ensures.work)

pub returns-in-Memory-clause-polled : goal.returns-in-Memory-clause-polled
returns-in-Memory-clause-polled g c = (subst (λ r. AwaitsAt c.args.self.now.key (g.W.Holds.part (g.C.SharedContext.shared c.args.cx.now)) c.args.self.now.ticket (g.C.Context.number c.args.cx.now) (Some r) (g.W.Holds.part (g.C.SharedContext.shared c.ask.new.cx))) c.in-Memory.is c.in-Some.ensures.answer, c.in-Some.ensures.work)

pub returns-in-Waits-clause-polled : goal.returns-in-Waits-clause-polled
returns-in-Waits-clause-polled g c = inl (refl, subst (λ r. AwaitsAt c.args.self.now.key (g.W.Holds.part (g.C.SharedContext.shared c.args.cx.now)) c.args.self.now.ticket (g.C.Context.number c.args.cx.now) (Some r) (g.W.Holds.part (g.C.SharedContext.shared c.ask.new.cx))) c.in-Waits.is c.in-Some.ensures.answer, c.in-Some.ensures.work)

pub returns-in-Joined-clause-polled : goal.returns-in-Joined-clause-polled
returns-in-Joined-clause-polled g c = inr (c.in-Joined.ticket, (ap Some c.number.ensures, subst (λ r. AwaitsAt c.args.self.now.key (g.W.Holds.part (g.C.SharedContext.shared c.args.cx.now)) c.args.self.now.ticket (g.C.Context.number c.args.cx.now) (Some r) (g.W.Holds.part (g.C.SharedContext.shared c.ask.new.cx))) c.in-Joined.is c.in-Some.ensures.answer, c.in-Some.ensures.work))
