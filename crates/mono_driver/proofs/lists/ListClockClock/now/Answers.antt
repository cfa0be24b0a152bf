use Rattle.std.proofs.Common.{ℕ, ◌+◌, ◌<◌, length, subst, ◌∙◌}
use Rattle.mono_time.specs.Instants.{nanos_of}
use Rattle.mono_driver.proofs.ReadingLemmas.{reads_one}
use Rattle.mono_driver.proofs.lists.ListClockClock.now.Goals as goal

pub returns-then-self-len-clause-reads : goal.returns-then-self-len-clause-reads
returns-then-self-len-clause-reads c =
    let inside : c.self.inside.next + 1 < length c.self.inside.readings.items = subst (λ n. c.self.inside.next + 1 < n) (c.len.ensures ∙ c.self.inside.readings.ok.0) c.if-self-len.true in
    reads_one nanos_of c.self.inside.readings.items c.self.inside.next c.index-reading.result.now c.args.self.now c.self.view_is c.index-reading.ensures inside
