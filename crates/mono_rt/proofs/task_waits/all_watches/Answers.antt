use Rattle.mono_rt.proofs.TaskWaitLemmas.{watches-machine}
use Rattle.mono_rt.proofs.task_waits.all_watches.Goals as goal

pub returns : goal.returns
returns g c = λ m fits.
    let parts = c.args.parts.now in
    watches-machine g.O.Outcome.output_number parts.timers parts.tasks.tasks parts.blocking.table.jobs m fits.sleeps fits.tasks fits.jobs
    c.new-list.result.items c.add_sleeps.new.list.items c.add_tasks.new.list.items c.add_jobs.new.list.items
    c.new-list.ensures.items c.in_ok-add_sleeps.ensures c.in_ok-add_tasks.ensures c.in_ok-add_jobs.ensures
