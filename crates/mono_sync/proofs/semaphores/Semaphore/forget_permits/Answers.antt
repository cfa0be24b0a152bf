use Rattle.std.proofs.Common.{rules, ◌≡◌, ◌≤◌, ◌+◌, ◌-◌, refl}
use Rattle.mono_sync.specs.ManyPermits.{free_permits}
use Rattle.mono_sync.proofs.ManyPermitLemmas.{takes_lead}
use Rattle.mono_sync.proofs.semaphores.Semaphore.forget_permits.Goals as goal

pub returns-clause-leads : goal.returns-clause-leads
returns-clause-leads c =
    let room : c.lesser-forgotten.result ≤ free_permits c.args.self.now = search rules in
    let back : c.args.self.now.available - c.lesser-forgotten.result + c.lesser-forgotten.result ≡ c.args.self.now.available = search rules in
    takes_lead c.lesser-forgotten.result c.args.self.now _ (c.if-self.false, room, back, refl, c.if-self.false)
