use Rattle.std.proofs.Common.{arith}
use Rattle.mono_rt.specs.Reaches.{reaches_on}
use Rattle.mono_time.specs.Instants.{nanos_of}
use Rattle.mono_time.specs.Futures.{deadline_after}
use Rattle.mono_run.proofs.SegmentLemmas.{kept_before}
use Rattle.mono_run.proofs.ScriptLineLemmas.{slept_line, waits_for}
use Rattle.mono_run.proofs.tasks.Own.sleep_for.Goals as goal

pub returns-clause-reached : goal.returns-clause-reached
returns-clause-reached c = reaches_on (λ n. n) c.args.cx.now c.make_sleep-self.new.cx c.end_sleep.new.cx c.make_sleep-self.ensures.reached c.end_sleep.ensures.reached

pub returns-clause-goes : goal.returns-clause-goes
returns-clause-goes c = λ task left o f st had.
    let own = c.args.self.now in
    let old = c.args.cx.now in
    let mid = c.make_sleep-self.new.cx in
    let last = c.end_sleep.new.cx in
    slept_line task old mid last (deadline_after (nanos_of old.parts.now) c.args.nanos) left o own c.end_sleep.new.self c.make_sleep-self.result f c.end_sleep.result
    (c.make_sleep-self.ensures.goes task (waits_for left o own f) st (kept_before mid last c.end_sleep.ensures.reached had))
    (λ here. c.end_sleep.ensures.goes task here f had)
    c.end_sleep.ensures.own c.end_sleep.ensures.still

pub returns-clause-few : goal.returns-clause-few
returns-clause-few c = omega (arith, c.make_sleep-self.ensures.few, c.end_sleep.ensures.few)
