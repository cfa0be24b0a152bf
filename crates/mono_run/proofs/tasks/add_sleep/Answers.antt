use Rattle.std.proofs.Common.{ap, ◌∙◌, subst}
use Rattle.std.specs.Prelude.{Err}
use Rattle.mono_time.specs.Instants.{nanos_of}
use Rattle.mono_time.specs.Sleeps.{Added}
use Rattle.mono_time.specs.Timers.{sleeps_of}
use Rattle.mono_rt.specs.CallActs.{noted_sleep, lacks_sleep}
use Rattle.mono_run.proofs.TaskCallLemmas.{sleep_made, sleep_refused}
use Rattle.mono_run.proofs.FewActsLemmas.{of_sleep}
use Rattle.mono_run.proofs.tasks.add_sleep.Goals as goal

pub returns-in-Ok-clause-goes : goal.returns-in-Ok-clause-goes
returns-in-Ok-clause-goes c = λ task k st had.
    let old = c.args.cx.now in
    let kept = c.add_sleep.ensures.kept in
    sleep_made task old c.add_sleep.new.self had k (nanos_of c.args.deadline) c.in-Ok.number (ap (λ x. x.parts.acts) kept ∙ ap (noted_sleep old.parts.acts (nanos_of c.args.deadline)) c.in-Ok.is) (ap (λ x. x.futures.items) kept)

pub returns-in-Err-clause-goes : goal.returns-in-Err-clause-goes
returns-in-Err-clause-goes c = λ task k st had.
    let old = c.args.cx.now in
    let new = c.add_sleep.new.self in
    let n = nanos_of c.args.deadline in
    let kept = c.add_sleep.ensures.kept in
    let added : Added (sleeps_of old.parts.timers) n (Err c.in-Err.field-0) (sleeps_of new.parts.timers) = subst (λ r. Added (sleeps_of old.parts.timers) n r (sleeps_of new.parts.timers)) c.in-Err.is c.add_sleep.ensures.added in
    sleep_refused task old new had k n c.in-Err.field-0 st added (ap (λ x. x.parts.has_timers) kept) (ap (λ x. x.parts.acts) kept ∙ ap (noted_sleep old.parts.acts n) c.in-Err.is)
    (ap (λ x. x.parts.is_out_of_memory) kept ∙ ap (lacks_sleep old.parts.is_out_of_memory) c.in-Err.is) (ap (λ x. x.futures.items) kept)

pub returns-in-Ok-clause-few : goal.returns-in-Ok-clause-few
returns-in-Ok-clause-few c = of_sleep c.args.cx.now.parts.acts c.add_sleep.new.self.parts.acts (nanos_of c.args.deadline) c.add_sleep.result (ap (λ x. x.parts.acts) c.add_sleep.ensures.kept)

pub returns-in-Err-clause-few : goal.returns-in-Err-clause-few
returns-in-Err-clause-few c = of_sleep c.args.cx.now.parts.acts c.add_sleep.new.self.parts.acts (nanos_of c.args.deadline) c.add_sleep.result (ap (λ x. x.parts.acts) c.add_sleep.ensures.kept)
