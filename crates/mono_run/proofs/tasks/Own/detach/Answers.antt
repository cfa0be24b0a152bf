use Rattle.std.proofs.Common.{ap, sym, ◌∙◌, refl, None}
use Rattle.std.specs.Prelude.{slice_index_or}
use Rattle.mono_machine.specs.declared.events.Act.TheVariants as act
use Rattle.mono_machine.specs.declared.events.TurnStep.TheVariants as step
use Rattle.mono_run.specs.ScriptTurns.{acted}
use Rattle.mono_run.proofs.SegmentLemmas.{handled, unhandled}
use Rattle.mono_run.proofs.TaskCallLemmas.{join_dropped}
use Rattle.mono_rt.specs.Reaches.{reaches_itself}
use Rattle.mono_run.proofs.FewActsLemmas.{no_act, one_act}
use Rattle.mono_run.proofs.tasks.Own.detach.Goals as goal

pub returns-in-Some-clause-goes : goal.returns-in-Some-clause-goes
returns-in-Some-clause-goes c = λ task f had.
    let old = c.args.cx.now in
    let new = c.drop_join.new.self in
    let kept = c.drop_join.ensures.kept in
    handled task (slice_index_or c.args.self.now.tasks c.args.i None) c.in-Some.number (λ h q. acted (step.Act (act.DropJoin h)) f q) f f old new (sym c.get.ensures ∙ c.in-Some.is)
    (join_dropped task old new had f c.in-Some.number c.drop_join.result (ap (λ x. x.parts.acts) kept) (ap (λ x. x.futures.items) kept))

pub returns-in-None-clause-goes : goal.returns-in-None-clause-goes
returns-in-None-clause-goes c = λ task f had.
    unhandled task (slice_index_or c.args.self.now.tasks c.args.i None) (λ h q. acted (step.Act (act.DropJoin h)) f q) f c.args.cx.now c.args.cx.now (sym c.get.ensures ∙ c.in-None.is) refl refl

pub returns-in-None-clause-reached : goal.returns-in-None-clause-reached
returns-in-None-clause-reached c = reaches_itself (λ n. n) c.args.cx.now

pub returns-in-Some-clause-few : goal.returns-in-Some-clause-few
returns-in-Some-clause-few c = one_act c.args.cx.now.parts.acts c.drop_join.new.self.parts.acts _ _ (ap (λ x. x.parts.acts) c.drop_join.ensures.kept)

pub returns-in-None-clause-few : goal.returns-in-None-clause-few
returns-in-None-clause-few c = no_act 1 c.args.cx.now.parts.acts c.args.cx.now.parts.acts refl
