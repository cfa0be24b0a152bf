use Rattle.std.proofs.Common.{ap, ◌∙◌}
use Rattle.mono_task.specs.Work.{without_outputs}
use Rattle.mono_task.proofs.ForgottenOutputLemmas.{without_outputs-woken}
use Rattle.test_futures.proofs.boards.BoardContext.wake.Goals as goal

pub returns-clause-work : goal.returns-clause-work
returns-clause-work c = ap (λ s. without_outputs s.tasks) c.wake.ensures.after ∙ without_outputs-woken c.args.self.now.tasks.tasks c.args.task
