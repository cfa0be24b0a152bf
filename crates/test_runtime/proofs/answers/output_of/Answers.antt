use Rattle.std.proofs.Common.{[], ◌∷◌, refl, sym}
use Rattle.mono_answers.specs.declared.passages.Passage.TheVariants as passage
use Rattle.test_runtime.proofs.answers.output_of.Goals as goal

pub returns-in-Ok-Ready : goal.returns-in-Ok-Ready
returns-in-Ok-Ready g c = record {
  given = c.what_a_spawned_task_answers.ensures.polled c.expect-runtime.result.cx c.spawn.new.self.cx c.run_until.new.self.cx c.in-Ok.handle c.args.task (passage.Turns ∷ []) c.in-Ok-Ready.output
      (record { aligned = rw c.expect-runtime.ensures at c.build.ensures.aligned; number = c.in-Ok.ensures.number; tasks = c.in-Ok.ensures.tasks; futures = c.in-Ok.ensures.futures })
      (c.run_until.new.self.cx, c.run_until.ensures.answers, refl)
      (sym (rw c.in-Ok-Ready.field-0-is at c.in-Ok-Ready.ensures.answer));
}
