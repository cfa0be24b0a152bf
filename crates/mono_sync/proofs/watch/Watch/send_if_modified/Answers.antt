use Rattle.std.proofs.Common.{rules, ◌≡◌, ◌+◌, Ok, refl}
use Rattle.mono_sync.specs.Runs.{leads_by}
use Rattle.mono_sync.specs.WatchRuns.{sent, edited, Step}
use Rattle.mono_sync.proofs.watch.Watch.send_if_modified.Goals as goal

pub returns-then-not-func-clause-leads : goal.returns-then-not-func-clause-leads
returns-then-not-func-clause-leads g c = leads_by Step (edited c.func.new.arg2) _ _ (refl, refl, refl, refl, refl)

pub returns-clause-leads : goal.returns-clause-leads
returns-clause-leads g c =
    let next : c.in-Some.version ≡ c.args.self.now.version + 1 = search rules in
    leads_by Step (sent c.func.new.arg2 (Ok c.args.self.now.value)) _ _ (c.if-self.false, refl, refl, next, refl, refl, c.if-self.false)
