use Rattle.std.proofs.Common.{ap, sym, None, ◌++◌, ◌∷◌, [], arith}
use Rattle.mono_time.specs.Instants.{nanos_of}
use Rattle.mono_run.specs.ScriptTurns.{place, turn_from}
use Rattle.mono_run.specs.declared.scripts.body.BodyLine.TheVariants as body
use Rattle.mono_run.proofs.SegmentLemmas.{goes_to}
use Rattle.mono_run.proofs.ScriptLineLemmas.{behind_sleep, behind_wait}
use Rattle.mono_run.proofs.tasks.Own.run_line.Goals as goal

pub returns-in-Spawn-clause-goes : goal.returns-in-Spawn-clause-goes
returns-in-Spawn-clause-goes g c = λ task left o me t same me_is t_is places rests st had.
    let own = c.args.self.now in
    rw c.in-Spawn.is
    (goes_to task _ _ _ c.args.cx.now c.spawn_kind-number.new.cx (ap (λ x. turn_from left me t o x own.jobs) (sym (c.push.ensures.one_more places.0)))
    (c.spawn_kind-number.ensures.goes task (λ h q. turn_from left me t o (own.tasks ++ h ∷ []) own.jobs q) same had))

pub returns-in-Block-clause-goes : goal.returns-in-Block-clause-goes
returns-in-Block-clause-goes g c = λ task left o me t same me_is t_is places rests st had.
    let own = c.args.self.now in
    rw c.in-Block.is
    (goes_to task _ _ _ c.args.cx.now c.block-number.new.cx (ap (λ x. turn_from left me t o own.tasks x) (sym (c.push-in-Block.ensures.one_more places.1)))
    (c.block-number.ensures.goes task (λ h q. turn_from left me t o own.tasks (own.jobs ++ h ∷ []) q) had))

pub returns-in-Join-clause-goes : goal.returns-in-Join-clause-goes
returns-in-Join-clause-goes g c = λ task left o me t same me_is t_is places rests st had.
    let own = c.args.self.now in
    rw (c.in-Join.is, c.next_if.ensures)
    (behind_wait task c.args.cx.now c.join.new.cx (body.Join c.in-Join.i) left me t o own _ c.join.result rests (c.join.ensures.goes task (place (body.Join c.in-Join.i ∷ left) o own.tasks own.jobs None) (turn_from left me t o own.tasks own.jobs) had))

pub returns-in-AwaitJob-clause-goes : goal.returns-in-AwaitJob-clause-goes
returns-in-AwaitJob-clause-goes g c = λ task left o me t same me_is t_is places rests st had.
    let own = c.args.self.now in
    rw (c.in-AwaitJob.is, c.next_if-in-AwaitJob.ensures)
    (behind_wait task c.args.cx.now c.await_own_job.new.cx (body.AwaitJob c.in-AwaitJob.i) left me t o own _ c.await_own_job.result rests (c.await_own_job.ensures.goes task (place (body.AwaitJob c.in-AwaitJob.i ∷ left) o own.tasks own.jobs None) (turn_from left me t o own.tasks own.jobs) had))

pub returns-in-AwaitSleep-clause-goes : goal.returns-in-AwaitSleep-clause-goes
returns-in-AwaitSleep-clause-goes g c = λ task left o me t same me_is t_is places rests st had.
    let own = c.args.self.now in
    rw (c.in-AwaitSleep.is, c.next_behind.ensures, t_is)
    (behind_sleep task c.args.cx.now c.sleep_for.new.cx (body.AwaitSleep c.in-AwaitSleep.nanos) left me (nanos_of c.args.cx.now.parts.now) o own c.sleep_for.new.self _ c.sleep_for.result c.sleep_for.ensures.own
    (c.sleep_for.ensures.goes task left o (turn_from left me (nanos_of c.args.cx.now.parts.now) o own.tasks own.jobs) st had))

pub returns-in-Detach-clause-goes : goal.returns-in-Detach-clause-goes
returns-in-Detach-clause-goes g c = λ task left o me t same me_is t_is places rests st had.
    let own = c.args.self.now in
    rw c.in-Detach.is (c.detach.ensures.goes task (turn_from left me t o own.tasks own.jobs) had)

pub returns-in-DropJob-clause-goes : goal.returns-in-DropJob-clause-goes
returns-in-DropJob-clause-goes g c = λ task left o me t same me_is t_is places rests st had.
    let own = c.args.self.now in
    rw c.in-DropJob.is (c.drop_own_job.ensures.goes task (turn_from left me t o own.tasks own.jobs) had)

pub returns-in-Yield-clause-goes : goal.returns-in-Yield-clause-goes
returns-in-Yield-clause-goes g c = λ task left o me t same me_is t_is places rests st had.
    let own = c.args.self.now in
    rw (c.in-Yield.is, me_is, rests) (c.wake_self.ensures.goes task (place left o own.tasks own.jobs None) had)

pub returns-in-Spawn-clause-few : goal.returns-in-Spawn-clause-few
returns-in-Spawn-clause-few g c = omega (arith, c.spawn_kind-number.ensures.few)

pub returns-in-Block-clause-few : goal.returns-in-Block-clause-few
returns-in-Block-clause-few g c = omega (arith, c.block-number.ensures.few)

pub returns-in-Join-clause-few : goal.returns-in-Join-clause-few
returns-in-Join-clause-few g c = omega (arith, c.join.ensures.few)

pub returns-in-AwaitJob-clause-few : goal.returns-in-AwaitJob-clause-few
returns-in-AwaitJob-clause-few g c = omega (arith, c.await_own_job.ensures.few)

pub returns-in-AwaitSleep-clause-few : goal.returns-in-AwaitSleep-clause-few
returns-in-AwaitSleep-clause-few g c = omega (arith, c.sleep_for.ensures.few)

pub returns-in-Detach-clause-few : goal.returns-in-Detach-clause-few
returns-in-Detach-clause-few g c = omega (arith, c.detach.ensures.few)

pub returns-in-DropJob-clause-few : goal.returns-in-DropJob-clause-few
returns-in-DropJob-clause-few g c = omega (arith, c.drop_own_job.ensures.few)

pub returns-in-Yield-clause-few : goal.returns-in-Yield-clause-few
returns-in-Yield-clause-few g c = omega (arith, c.wake_self.ensures.few)
