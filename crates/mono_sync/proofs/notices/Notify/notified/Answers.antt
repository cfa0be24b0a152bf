use Rattle.mono_sync.proofs.NoticeLemmas.{awaits_keeps}
use Rattle.mono_sync.proofs.notices.Notify.notified.Goals as goal

pub returns-clause-keeps : goal.returns-clause-keeps
returns-clause-keeps c = awaits_keeps c.args.self.now c.ask.new.self c.args.ticket c.args.me c.ask.result c.ask.ensures
