use Rattle.std.proofs.Common.{refl, ap, ◌∙◌}
use Rattle.mono_machine.specs.JobCalls.{drop_answer, job_dropped}
use Rattle.mono_machine.specs.declared.events.Act.TheVariants as act
use Rattle.mono_machine.specs.declared.events.TurnStep.TheVariants as step
use Rattle.mono_blocking.specs.JobAnswers.{dropped_reply}
use Rattle.mono_rt.specs.Record.{noted}
use Rattle.mono_rt.specs.JobActs.{noted_end, with_blocking}
use Rattle.mono_rt.proofs.JobActLemmas.{asks_leads}
use Rattle.mono_rt.proofs.parts.job_acts.Parts+O+Blockings+P.drop_job.Goals as goal

pub returns-clause-leads : goal.returns-clause-leads
returns-clause-leads g c =
    let old = c.args.self.now in
    let j = c.args.job in
    let asked = step.Act (act.DropJob j) in
    let dropped = c.drop_handle-dropped in
    asks_leads g.O.Outcome.output_number drop_answer job_dropped asked j (dropped_reply g.P.Job.Output.Outcome.output_number dropped.result.answer) old _ (λ m. refl)
    (record {
      end = dropped.result.end;
      is_end = dropped.ensures.end;
      is_answer = dropped.ensures.answer;
      jobs = dropped.ensures.jobs;
      pool = dropped.ensures.pool;
      parts = ap (λ a. with_blocking old dropped.new.self a old.is_out_of_memory)
          (c.note.ensures ∙ ap (λ a. noted a asked c.dropped_reply-reply.result) c.note_end.ensures ∙ ap (noted (noted_end old.acts j dropped.result.end) asked) c.dropped_reply-reply.ensures);
    })
