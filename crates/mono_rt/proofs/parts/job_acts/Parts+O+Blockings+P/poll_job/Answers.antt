use Rattle.std.proofs.Common.{refl, ap, ◌∙◌}
use Rattle.mono_machine.specs.JobCalls.{poll_answer, job_polled}
use Rattle.mono_machine.specs.declared.events.Query.TheVariants as query
use Rattle.mono_machine.specs.declared.events.TurnStep.TheVariants as step
use Rattle.mono_blocking.specs.JobAnswers.{after_end, polled_reply}
use Rattle.mono_rt.specs.Record.{noted}
use Rattle.mono_blocking.specs.Calls.{polled_by}
use Rattle.mono_rt.specs.JobActs.{noted_end, with_blocking}
use Rattle.mono_rt.proofs.JobActLemmas.{asks_leads}
use Rattle.mono_rt.proofs.parts.job_acts.Parts+O+Blockings+P.poll_job.Goals as goal

pub returns-clause-leads : goal.returns-clause-leads
returns-clause-leads g c =
    let old = c.args.self.now in
    let j = c.args.job in
    let asked = step.Query (query.Job j) in
    let polled = c.poll-polled in
    asks_leads g.O.Outcome.output_number poll_answer (polled_by old.me) asked j (polled_reply g.P.Job.Output.Outcome.output_number polled.result.answer) old _ (λ m. refl)
    (record {
      end = polled.result.end;
      is_end = polled.ensures.end;
      is_answer = polled.ensures.answer;
      jobs = polled.ensures.jobs ∙ ap (job_polled (after_end polled.result.end old.blocking.table.jobs j) j) c.requires.mine;
      pool = polled.ensures.pool;
      parts = ap (λ a. with_blocking old polled.new.self a old.is_out_of_memory)
          (c.note.ensures ∙ ap (λ a. noted a asked c.polled_reply-reply.result) c.note_end.ensures ∙ ap (noted (noted_end old.acts j polled.result.end) asked) c.polled_reply-reply.ensures);
    })
