use Rattle.std.proofs.Common.{ap, sym, ◌∙◌, subst, None, refl}
use Rattle.mono_machine.specs.declared.events.Act.TheVariants as act
use Rattle.mono_machine.specs.declared.events.TurnStep.TheVariants as step
use Rattle.mono_time.specs.Futures.{deadline_after}
use Rattle.mono_run.specs.ScriptTurns.{asked, with_handle, sleep_in, none_made}
use Rattle.mono_rt.specs.Reaches.{reaches_itself}
use Rattle.mono_run.specs.Segments.{Goes}
use Rattle.mono_run.proofs.SegmentLemmas.{goes_by_none}
use Rattle.mono_run.proofs.FewActsLemmas.{no_act}
use Rattle.mono_run.proofs.tasks.make_sleep.Goals as goal

pub returns-in-Some-clause-goes : goal.returns-in-Some-clause-goes
returns-in-Some-clause-goes c = λ task k st had.
    let old = c.args.cx.now in
    let new = c.add_sleep.new.cx in
    subst (λ d. Goes task (with_handle d (λ d q. asked (step.Act (act.NewSleep d)) sleep_in none_made k q) (k None)) (k c.add_sleep.result) old new)
    (sym (ap (λ t. deadline_after t c.args.nanos) (sym c.now.ensures) ∙ c.in-Some.ensures.some)) (c.add_sleep.ensures.goes task k st had)

pub returns-in-None-clause-goes : goal.returns-in-None-clause-goes
returns-in-None-clause-goes c = λ task k st had.
    let old = c.args.cx.now in
    subst (λ d. Goes task (with_handle d (λ d q. asked (step.Act (act.NewSleep d)) sleep_in none_made k q) (k None)) (k None) old old)
    (sym (ap (λ t. deadline_after t c.args.nanos) (sym c.now.ensures) ∙ c.in-None.ensures.none)) (goes_by_none task (k None) old old refl refl)

pub returns-in-None-clause-reached : goal.returns-in-None-clause-reached
returns-in-None-clause-reached c = reaches_itself _ _

pub returns-in-Some-clause-few : goal.returns-in-Some-clause-few
returns-in-Some-clause-few c = c.add_sleep.ensures.few

pub returns-in-None-clause-few : goal.returns-in-None-clause-few
returns-in-None-clause-few c = no_act 1 c.args.cx.now.parts.acts c.args.cx.now.parts.acts refl
