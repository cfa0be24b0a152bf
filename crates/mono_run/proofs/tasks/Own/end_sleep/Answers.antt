use Rattle.std.proofs.Common.{subst, refl}
use Rattle.mono_rt.specs.Reaches.{reaches_itself}
use Rattle.mono_run.specs.ScriptTurns.{sleep_steps}
use Rattle.mono_run.specs.Segments.{Goes, if_over}
use Rattle.mono_run.proofs.SegmentLemmas.{handled, unhandled}
use Rattle.mono_run.proofs.FewActsLemmas.{no_act}
use Rattle.mono_run.proofs.tasks.Own.end_sleep.Goals as goal

pub returns-then-await_sleep-clause-goes : goal.returns-then-await_sleep-clause-goes
returns-then-await_sleep-clause-goes c = λ task here f had.
    let old = c.args.cx.now in
    let new = c.await_sleep.new.cx in
    handled task c.args.self.now.sleeping c.in-Some.number (λ s q. sleep_steps s here f q) f _ old new c.in-Some.is
    (subst (λ b. Goes task (sleep_steps c.in-Some.number here f) (if_over b f here) old new) c.if-await_sleep.true (c.await_sleep.ensures.goes task here f had))

pub returns-else-await_sleep-clause-goes : goal.returns-else-await_sleep-clause-goes
returns-else-await_sleep-clause-goes c = λ task here f had.
    let old = c.args.cx.now in
    let new = c.await_sleep.new.cx in
    handled task c.args.self.now.sleeping c.in-Some.number (λ s q. sleep_steps s here f q) f _ old new c.in-Some.is
    (subst (λ b. Goes task (sleep_steps c.in-Some.number here f) (if_over b f here) old new) c.if-await_sleep.false (c.await_sleep.ensures.goes task here f had))

pub returns-in-None-clause-goes : goal.returns-in-None-clause-goes
returns-in-None-clause-goes c = λ task here f had.
    unhandled task c.args.self.now.sleeping (λ s q. sleep_steps s here f q) f c.args.cx.now c.args.cx.now c.in-None.is refl refl

pub returns-then-await_sleep-clause-few : goal.returns-then-await_sleep-clause-few
returns-then-await_sleep-clause-few c = c.await_sleep.ensures.few

pub returns-else-await_sleep-clause-few : goal.returns-else-await_sleep-clause-few
returns-else-await_sleep-clause-few c = c.await_sleep.ensures.few

pub returns-in-None-clause-few : goal.returns-in-None-clause-few
returns-in-None-clause-few c = no_act 2 c.args.cx.now.parts.acts c.args.cx.now.parts.acts refl

pub returns-in-None-clause-reached : goal.returns-in-None-clause-reached
returns-in-None-clause-reached c = reaches_itself (λ n. n) c.args.cx.now
