use Rattle.std.proofs.Common.{rules, ◌≡◌, ◌≤◌, ◌+◌, ◌-◌, refl}
use Rattle.mono_sync.specs.ManyPermits.{free_permits}
use Rattle.mono_sync.proofs.ManyPermitLemmas.{takes_lead}
use Rattle.mono_sync.proofs.semaphores.Semaphore.try_acquire_many.Goals as goal

pub returns-clause-leads : goal.returns-clause-leads
returns-clause-leads c =
    let room : c.args.count ≤ free_permits c.args.self.now = search rules in
    let back : c.args.self.now.available - c.args.count + c.args.count ≡ c.args.self.now.available = search rules in
    takes_lead c.args.count c.args.self.now _ (c.if-self.false, room, back, refl, c.if-self.false)
