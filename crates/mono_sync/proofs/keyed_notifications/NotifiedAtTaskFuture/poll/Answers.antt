use Rattle.mono_sync.proofs.NoticeLemmas.{polls_at_give}
use Rattle.mono_sync.proofs.keyed_notifications.NotifiedAtTaskFuture.poll.Goals as goal

pub returns-clause-given : goal.returns-clause-given
returns-clause-given g c =
    polls_at_give (λ x. g.W.Holds.part (g.C.SharedContext.shared x)) g.C.Context.number g.C.Context.work c.args.self.now.key c.args.self.now.ticket c.args.cx.now c.enable.result c.enable.new.self.ticket c.enable.new.cx
    c.enable.ensures.polled
