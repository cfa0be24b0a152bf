use Rattle.std.proofs.Common.{rules, ◌≡◌, refl}
use Rattle.mono_sync.specs.declared.lines.Coming.TheVariants.{Full}
use Rattle.mono_sync.specs.Lines.{Comes}
use Rattle.mono_sync.proofs.watch.Watch.ask.Goals as goal

pub returns-in-Ok : goal.returns-in-Ok
returns-in-Ok g c =
    let comes : Comes c.args.self.now.line c.args.ticket c.args.me 0 Full c.come.new.self = search rules in
    let seen : c.args.self.now.version ≡ c.args.seen = search rules in
    (seen, search rules, (c.come.new.self, (comes, c.in-Ok.ensures)), (refl, refl, refl, refl))

pub returns-in-Err : goal.returns-in-Err
returns-in-Err g c =
    let comes : Comes c.args.self.now.line c.args.ticket c.args.me 0 Full c.come.new.self = search rules in
    let seen : c.args.self.now.version ≡ c.args.seen = search rules in
    (seen, search rules, (c.come.new.self, (comes, c.in-Err.ensures)), (refl, refl, refl, refl))
