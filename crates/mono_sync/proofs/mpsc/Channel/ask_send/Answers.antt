use Rattle.std.proofs.Common.{rules, refl, inr}
use Rattle.mono_sync.specs.declared.lines.Coming.TheVariants.{Full}
use Rattle.mono_sync.specs.Lines.{Comes}
use Rattle.mono_sync.specs.Mpsc.{places}
use Rattle.mono_sync.proofs.mpsc.Channel.ask_send.Goals as goal

pub returns-in-Ok-join : goal.returns-in-Ok-join
returns-in-Ok-join g c =
    let comes : Comes c.args.self.now.senders c.args.ticket c.args.me (places c.args.self.now) Full c.come.new.self = search rules in
    (refl, c.if-self.false, (c.come.new.self, (comes, c.in-Ok-join.ensures)), (refl, refl, (refl, refl)))

pub returns-in-Err-join : goal.returns-in-Err-join
returns-in-Err-join g c =
    let comes : Comes c.args.self.now.senders c.args.ticket c.args.me (places c.args.self.now) Full c.come.new.self = search rules in
    (refl, c.if-self.false, inr (c.come.new.self, (comes, c.in-Err-join.ensures)), (refl, refl, (refl, refl)))
