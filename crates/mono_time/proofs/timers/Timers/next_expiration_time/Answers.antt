use Rattle.mono_time.proofs.ExpirationLemmas.{next-expiration, next-armed, next-ahead}
use Rattle.mono_time.proofs.ClockMoveLemmas.{all-registered}
use Rattle.mono_time.proofs.timers.Timers.next_expiration_time.Goals as goal

pub returns-clause-next : goal.returns-clause-next
returns-clause-next c =
    let t = c.args.self.now in
    next-expiration t.wheel t.keys t.entries.items t.greatest t.live t.holds t.limit t.is_enabled c.next_expiration_time.result c.next_expiration_time.ensures.next

pub returns-clause-armed : goal.returns-clause-armed
returns-clause-armed c =
    let t = c.args.self.now in
    next-armed t.wheel t.keys t.entries.items t.greatest t.live t.holds t.limit t.is_enabled c.next_expiration_time.result c.next_expiration_time.ensures.next

pub returns-clause-ahead : goal.returns-clause-ahead
returns-clause-ahead c = λ none rest.
    let t = c.args.self.now in
    next-ahead t.wheel t.keys t.entries.items t.greatest t.live t.holds t.limit t.is_enabled c.next_expiration_time.result c.next_expiration_time.ensures.next c.next_expiration_time.ensures.fits rest none
    c.slots_start_ahead.ensures.above c.slots_start_ahead.ensures.within

pub returns-clause-registered : goal.returns-clause-registered
returns-clause-registered c = all-registered c.args.self.now

pub returns-clause-behind : goal.returns-clause-behind
returns-clause-behind c = c.args.self.now.holds.elapsed
