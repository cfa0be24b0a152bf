use Rattle.std.proofs.Common.{rules, ◌≤◌, refl, Some}
use Rattle.mono_sync.specs.declared.lines.Coming.TheVariants.{Full}
use Rattle.mono_sync.specs.Lines.{Comes}
use Rattle.mono_sync.proofs.notices.Notify.ask_again.Goals as goal

pub returns-in-Ok : goal.returns-in-Ok
returns-in-Ok c =
    let comes : Comes c.args.self.now.line (Some c.args.ticket) c.args.me 1 Full c.come.new.self = search rules in
    let later : c.args.self.now.cleared.next ≤ c.args.ticket = search rules in
    ((c.come.new.self, (comes, later, c.in-Ok.ensures)), (refl, refl))

pub returns-in-Err : goal.returns-in-Err
returns-in-Err c =
    let comes : Comes c.args.self.now.line (Some c.args.ticket) c.args.me 1 Full c.come.new.self = search rules in
    let later : c.args.self.now.cleared.next ≤ c.args.ticket = search rules in
    ((c.come.new.self, (comes, later, c.in-Err.ensures)), (refl, refl))
