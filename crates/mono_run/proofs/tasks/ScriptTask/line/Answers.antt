use Rattle.std.proofs.Common.{◌≡◌, ◌<◌, Some, length, rules, sym, subst}
use Rattle.std.specs.Prelude.{slice_get}
use Rattle.mono_run.specs.TaskStages.{lines_of}
use Rattle.mono_run.proofs.tasks.ScriptTask.line.Goals as goal

pub returns-in-Some-clause-inside : goal.returns-in-Some-clause-inside
returns-in-Some-clause-inside c =
    let some : slice_get c.args.self.now.kinds.now c.args.self.now.kind ≡ Some c.in-Some.kind.now = search rules in
    let less : c.args.self.now.at < length c.in-Some.kind.now.body = search rules in
    subst (λ k. c.args.self.now.at < lines_of k) (sym some) less
