use Rattle.std.proofs.Common.{rules, refl, length}
use Rattle.mono_sync.specs.declared.lines.Coming.TheVariants.{Full}
use Rattle.mono_sync.specs.Lines.{Comes}
use Rattle.mono_sync.proofs.mpsc.Channel.ask_recv.Goals as goal

pub returns-in-Ok : goal.returns-in-Ok
returns-in-Ok g c =
    let comes : Comes c.args.self.now.receivers c.args.ticket c.args.me (length c.args.self.now.queue.items) Full c.come.new.self = search rules in
    (c.if-self.false, (c.come.new.self, (comes, c.in-Ok.ensures)), (refl, refl, (refl, refl)))

pub returns-in-Err : goal.returns-in-Err
returns-in-Err g c =
    let comes : Comes c.args.self.now.receivers c.args.ticket c.args.me (length c.args.self.now.queue.items) Full c.come.new.self = search rules in
    (c.if-self.false, (c.come.new.self, (comes, c.in-Err.ensures)), (refl, refl, (refl, refl)))
