use Rattle.std.proofs.Common.{ap, ◌∙◌}
use Rattle.mono_rt.specs.CallActs.{noted_wake}
use Rattle.mono_run.proofs.TaskCallLemmas.{woke}
use Rattle.mono_run.proofs.FewActsLemmas.{one_act}
use Rattle.mono_run.proofs.tasks.wake_self.Goals as goal

pub returns-clause-goes : goal.returns-clause-goes
returns-clause-goes c = λ task here had.
    let old = c.args.cx.now in
    let kept = c.wake.ensures.kept in
    woke task old c.wake.new.self had here old.parts.me c.wake.result (ap (λ x. x.parts.acts) kept ∙ ap (λ me. noted_wake old.parts.acts me c.wake.result) c.me-me.ensures) (ap (λ x. x.futures.items) kept)

pub returns-clause-few : goal.returns-clause-few
returns-clause-few c = one_act c.args.cx.now.parts.acts c.wake.new.self.parts.acts _ _ (ap (λ x. x.parts.acts) c.wake.ensures.kept)
