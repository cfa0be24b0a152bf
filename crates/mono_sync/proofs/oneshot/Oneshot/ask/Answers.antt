use Rattle.std.proofs.Common.{rules, ◌≡◌, refl, false}
use Rattle.mono_sync.specs.declared.lines.Coming.TheVariants.{Full}
use Rattle.mono_sync.specs.Lines.{Comes, is_held}
use Rattle.mono_sync.specs.Oneshot.{count, is_over}
use Rattle.mono_sync.proofs.oneshot.Oneshot.ask.Goals as goal

pub returns-in-Ok : goal.returns-in-Ok
returns-in-Ok g c =
    let comes : Comes c.args.self.now.line c.args.ticket c.args.me (count c.args.self.now.message) Full c.come.new.self = search rules in
    let over : is_over c.args.self.now ≡ false = search rules in
    let held : is_held c.come.new.self ≡ false = search rules in
    (over, (c.come.new.self, (comes, held, c.in-Ok.ensures)), (refl, refl))

pub returns-in-Err : goal.returns-in-Err
returns-in-Err g c =
    let comes : Comes c.args.self.now.line c.args.ticket c.args.me (count c.args.self.now.message) Full c.come.new.self = search rules in
    let over : is_over c.args.self.now ≡ false = search rules in
    let held : is_held c.come.new.self ≡ false = search rules in
    (over, (c.come.new.self, (comes, held, c.in-Err.ensures)), (refl, refl))
