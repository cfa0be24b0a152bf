use Rattle.std.proofs.Common.{rules, ◌≡◌, ◌+◌, Ok, refl}
use Rattle.mono_sync.specs.Runs.{leads_by}
use Rattle.mono_sync.specs.WatchRuns.{sent, Step}
use Rattle.mono_sync.proofs.watch.Watch.send_modify.Goals as goal

pub returns-clause-leads : goal.returns-clause-leads
returns-clause-leads g c =
    let next : c.in-Some.version ≡ c.args.self.now.version + 1 = search rules in
    leads_by Step (sent c.func.new.arg2 (Ok c.args.self.now.value)) _ _ (c.if-self.false, refl, refl, next, refl, refl, c.if-self.false)
