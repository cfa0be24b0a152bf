use Rattle.std.proofs.Common.{sym, ◌∙◌, refl, None}
use Rattle.std.specs.Prelude.{slice_index_or}
use Rattle.mono_run.specs.ScriptTurns.{join_steps}
use Rattle.mono_run.proofs.SegmentLemmas.{handled, unhandled}
use Rattle.mono_rt.specs.Reaches.{reaches_itself}
use Rattle.mono_run.proofs.FewActsLemmas.{no_act}
use Rattle.mono_run.proofs.tasks.Own.join.Goals as goal

pub returns-in-Some-clause-goes : goal.returns-in-Some-clause-goes
returns-in-Some-clause-goes c = λ task here f had.
    handled task (slice_index_or c.args.self.now.tasks c.args.i None) c.in-Some.number (λ h q. join_steps h here f q) f _ c.args.cx.now c.await_task.new.cx (sym c.get.ensures ∙ c.in-Some.is) (c.await_task.ensures.goes task here f had)

pub returns-in-None-clause-goes : goal.returns-in-None-clause-goes
returns-in-None-clause-goes c = λ task here f had.
    unhandled task (slice_index_or c.args.self.now.tasks c.args.i None) (λ h q. join_steps h here f q) f c.args.cx.now c.args.cx.now (sym c.get.ensures ∙ c.in-None.is) refl refl

pub returns-in-None-clause-reached : goal.returns-in-None-clause-reached
returns-in-None-clause-reached c = reaches_itself (λ n. n) c.args.cx.now

pub returns-in-Some-clause-few : goal.returns-in-Some-clause-few
returns-in-Some-clause-few c = c.await_task.ensures.few

pub returns-in-None-clause-few : goal.returns-in-None-clause-few
returns-in-None-clause-few c = no_act 2 c.args.cx.now.parts.acts c.args.cx.now.parts.acts refl
