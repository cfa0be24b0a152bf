use Rattle.std.proofs.Common.{refl}
use Rattle.std.specs.Fn.{FnReturnsAt}
use Rattle.mono_sync.specs.Runs.{leads_by}
use Rattle.mono_sync.specs.WatchRuns.{asked, gave_up, Step}
use Rattle.mono_sync.proofs.WaitForLemmas.{meets, waits}
use Rattle.mono_sync.proofs.watch.Watch.wait_for.Goals as goal

pub returns-then-func-clause-answer : goal.returns-then-func-clause-answer
returns-then-func-clause-answer g c =
    let said : FnReturnsAt g.F.Fn c.args.func.now c.args.self.now.value c.func.result = record { shown = _; shows = refl; says = record { met = c.func.ensures } } in
    meets (FnReturnsAt g.F.Fn c.args.func.now) c.args.self.now c.give_up.new.self c.args.ticket c.args.me c.func.result said c.if-func.true c.give_up.ensures.answer

pub returns-then-func-clause-leads : goal.returns-then-func-clause-leads
returns-then-func-clause-leads g c = leads_by Step (gave_up c.args.ticket c.args.me) c.args.self.now c.give_up.new.self c.give_up.ensures.answer

pub returns-clause-answer : goal.returns-clause-answer
returns-clause-answer g c =
    let said : FnReturnsAt g.F.Fn c.args.func.now c.args.self.now.value c.func.result = record { shown = _; shows = refl; says = record { met = c.func.ensures } } in
    waits (FnReturnsAt g.F.Fn c.args.func.now) c.args.self.now c.changed.new.self c.args.ticket c.args.me c.func.result said c.changed.result c.if-func.false c.changed.ensures.answer

pub returns-clause-leads : goal.returns-clause-leads
returns-clause-leads g c = leads_by Step (asked c.args.self.now.version c.args.ticket c.args.me c.changed.result) c.args.self.now c.changed.new.self c.changed.ensures.answer
