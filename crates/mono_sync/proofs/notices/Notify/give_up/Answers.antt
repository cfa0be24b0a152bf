use Rattle.mono_sync.proofs.NoticeLemmas.{gives_up_keeps}
use Rattle.mono_sync.proofs.notices.Notify.give_up.Goals as goal

pub returns-clause-keeps : goal.returns-clause-keeps
returns-clause-keeps c = gives_up_keeps c.args.self.now c.drop_out.new.self c.args.ticket c.args.me c.drop_out.ensures
