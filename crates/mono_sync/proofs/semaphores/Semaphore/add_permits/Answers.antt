use Rattle.std.proofs.Common.{rules, ◌≤◌, ◌-◌, refl}
use Rattle.mono_sync.specs.declared.semaphores.TheConstants.{MAX_PERMITS}
use Rattle.mono_sync.proofs.ManyPermitLemmas.{adds_lead}
use Rattle.mono_sync.proofs.semaphores.Semaphore.add_permits.Goals as goal

pub returns-clause-leads : goal.returns-clause-leads
returns-clause-leads c =
    let less : c.args.count ≤ MAX_PERMITS - c.args.self.now.available = search rules in
    adds_lead c.args.count c.args.self.now _ less refl refl refl
