use Rattle.std.proofs.Common.{ap, sym, ◌+◌, ◌∙◌, drop}
use Rattle.mono_model.specs.Tasks.{all_woken}
use Rattle.mono_task.proofs.ScheduleLemmas.{nothing_left, woken_more, schedule_is}
use Rattle.mono_task.proofs.wakers.wake_all.Goals as goal

pub loop-t-preserved : goal.loop-t-preserved
loop-t-preserved g c =
    let before = c.loop-t.invariant in
    let woken = c.args.woken.now in
    let i = c.loop-t.t-index in (
      ap (λ x. x.turns) c.wake.ensures.after ∙ before.0,
      ap (λ x. x.turn) c.wake.ensures.after ∙ before.1,
      ap (λ x. all_woken x.tasks (drop (i + 1) woken)) c.wake.ensures.after ∙ woken_more woken i _ c.loop-t.tasks.tasks _ c.loop-t-test.true before.2,
    )

pub returns : goal.returns
returns g c =
    let before = c.loop-t.invariant in
    schedule_is c.loop-t.tasks c.args.tasks.now _ before.0 before.1 (ap (all_woken c.loop-t.tasks.tasks) (sym (nothing_left c.args.woken.now c.loop-t.t-index c.loop-t-test.false)) ∙ before.2)
