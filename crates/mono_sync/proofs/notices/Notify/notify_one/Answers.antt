use Rattle.mono_sync.proofs.NoticeLemmas.{line_stays}
use Rattle.mono_sync.proofs.notices.Notify.notify_one.Goals as goal

pub returns-clause-keeps : goal.returns-clause-keeps
returns-clause-keeps c me = line_stays me c.args.self.now c.give.new.self c.give.ensures.1
