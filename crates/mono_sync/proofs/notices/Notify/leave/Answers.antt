use Rattle.mono_sync.proofs.NoticeLemmas.{leaves_giving, leaves_quiet}
use Rattle.mono_sync.proofs.notices.Notify.leave.Goals as goal

pub returns-then-had_notice : goal.returns-then-had_notice
returns-then-had_notice c =
    leaves_giving c.args.self.now c.give.new.self c.leave.new.self c.args.ticket c.args.me c.had_notice.result (rw c.number.ensures at c.had_notice.ensures) c.if-had_notice.true c.leave.ensures c.give.ensures

pub returns-else-had_notice : goal.returns-else-had_notice
returns-else-had_notice c = leaves_quiet c.args.self.now c.leave.new.self c.args.ticket c.args.me c.had_notice.result (rw c.number.ensures at c.had_notice.ensures) c.if-had_notice.false c.leave.ensures
