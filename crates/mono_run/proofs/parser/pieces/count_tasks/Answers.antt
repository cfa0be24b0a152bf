use Rattle.std.proofs.Common.{◌≡◌, length, codes, rules}
use Rattle.mono_run.proofs.LineCutLemmas.{one_task, no_task, counted_all, counted_end}
use Rattle.mono_run.proofs.parser.pieces.count_tasks.Goals as goal

pub returns-in_default : goal.returns-in_default
returns-in_default c = counted_all c.args.input.now c.lines.count c.lines.pieces.rest.now c.lines.invariant c.in_default.ensures.none

pub lines-preserved : goal.lines-preserved
lines-preserved c =
    let other : c.in-Some.text.now ≡ codes "task" → ⊥ = search rules in
    no_task c.args.input.now c.lines.count c.lines.pieces.rest.now c.in-Some.text.now c.line.new.self.rest.now c.lines.invariant c.in-Some.ensures.line.0 c.in-Some.ensures.line.1 other
