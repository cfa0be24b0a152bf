use Rattle.std.proofs.Common.{◌∷◌, subst, arith}
use Rattle.std.specs.Prelude.{◌+◌}
use Rattle.mono_run.specs.ScriptTurns.{turn_from}
use Rattle.mono_run.specs.TaskPolls.{kind_of, left_of, output_of}
use Rattle.mono_run.specs.Segments.{Goes, HasPlaces, behind_line}
use Rattle.mono_run.specs.declared.tasks.Next.TheVariants as next
use Rattle.mono_run.proofs.TaskPollLemmas.{step_line}
use Rattle.mono_run.proofs.tasks.ScriptTask.step.Goals as goal

pub returns-in-GoesOn-clause-goes : goal.returns-in-GoesOn-clause-goes
returns-in-GoesOn-clause-goes g c = λ maker me t kinds me_is t_is short fits rests is_line st had.
    let task = c.args.self.now in
    let places : HasPlaces task.own = (omega (arith, fits.tasks, short), omega (arith, fits.jobs, short)) in
    let goes = c.run_line.ensures.goes maker (left_of (kind_of task) (task.at + 1)) (output_of (kind_of task)) me t kinds me_is t_is places rests st had in
    step_line maker task me t c.args.line c.run_line.new.self next.GoesOn c.args.cx.now c.run_line.new.cx is_line
    (subst (λ r. Goes maker (turn_from (c.args.line ∷ left_of (kind_of task) (task.at + 1)) me t (output_of (kind_of task)) task.own.tasks task.own.jobs) (behind_line r c.args.line (left_of (kind_of task) (task.at + 1)) me t (output_of (kind_of task)) c.run_line.new.self) c.args.cx.now c.run_line.new.cx) c.in-GoesOn.is goes)

pub returns-in-Stops-clause-goes : goal.returns-in-Stops-clause-goes
returns-in-Stops-clause-goes g c = λ maker me t kinds me_is t_is short fits rests is_line st had.
    let task = c.args.self.now in
    let places : HasPlaces task.own = (omega (arith, fits.tasks, short), omega (arith, fits.jobs, short)) in
    let goes = c.run_line.ensures.goes maker (left_of (kind_of task) (task.at + 1)) (output_of (kind_of task)) me t kinds me_is t_is places rests st had in
    step_line maker task me t c.args.line c.run_line.new.self next.Stops c.args.cx.now c.run_line.new.cx is_line
    (subst (λ r. Goes maker (turn_from (c.args.line ∷ left_of (kind_of task) (task.at + 1)) me t (output_of (kind_of task)) task.own.tasks task.own.jobs) (behind_line r c.args.line (left_of (kind_of task) (task.at + 1)) me t (output_of (kind_of task)) c.run_line.new.self) c.args.cx.now c.run_line.new.cx) c.in-Stops.is goes)

pub returns-in-Stays-clause-goes : goal.returns-in-Stays-clause-goes
returns-in-Stays-clause-goes g c = λ maker me t kinds me_is t_is short fits rests is_line st had.
    let task = c.args.self.now in
    let places : HasPlaces task.own = (omega (arith, fits.tasks, short), omega (arith, fits.jobs, short)) in
    let goes = c.run_line.ensures.goes maker (left_of (kind_of task) (task.at + 1)) (output_of (kind_of task)) me t kinds me_is t_is places rests st had in
    step_line maker task me t c.args.line c.run_line.new.self next.Stays c.args.cx.now c.run_line.new.cx is_line
    (subst (λ r. Goes maker (turn_from (c.args.line ∷ left_of (kind_of task) (task.at + 1)) me t (output_of (kind_of task)) task.own.tasks task.own.jobs) (behind_line r c.args.line (left_of (kind_of task) (task.at + 1)) me t (output_of (kind_of task)) c.run_line.new.self) c.args.cx.now c.run_line.new.cx) c.in-Stays.is goes)

pub returns-in-GoesOn-clause-fits : goal.returns-in-GoesOn-clause-fits
returns-in-GoesOn-clause-fits g c = λ f. record { short = f.short; tasks = omega (arith, f.tasks, c.run_line.ensures.tasks); jobs = omega (arith, f.jobs, c.run_line.ensures.jobs) }

pub returns-in-Stops-clause-fits : goal.returns-in-Stops-clause-fits
returns-in-Stops-clause-fits g c = λ f. record { short = f.short; tasks = omega (arith, f.tasks, c.run_line.ensures.tasks); jobs = omega (arith, f.jobs, c.run_line.ensures.jobs) }

pub returns-in-Stays-clause-fits : goal.returns-in-Stays-clause-fits
returns-in-Stays-clause-fits g c = λ f.
    let few = c.run_line.ensures.stays c.in-Stays.is in
    record { short = f.short; tasks = omega (arith, f.tasks, few.0); jobs = omega (arith, f.jobs, few.1) }

pub returns-in-GoesOn-clause-few : goal.returns-in-GoesOn-clause-few
returns-in-GoesOn-clause-few g c = c.run_line.ensures.few

pub returns-in-Stops-clause-few : goal.returns-in-Stops-clause-few
returns-in-Stops-clause-few g c = c.run_line.ensures.few

pub returns-in-Stays-clause-few : goal.returns-in-Stays-clause-few
returns-in-Stays-clause-few g c = c.run_line.ensures.few
