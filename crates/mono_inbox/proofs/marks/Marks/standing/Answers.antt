use Rattle.std.proofs.Common.{ap, ◌∙◌, arith}
use Rattle.mono_inbox.specs.Standings.{standing_at}
use Rattle.mono_inbox.proofs.LayoutLemmas.{standing_behind, standing_past, standing_read}
use Rattle.mono_inbox.proofs.marks.Marks.standing.Goals as goal

pub returns-then-task-self : goal.returns-then-task-self
returns-then-task-self c =
    standing_behind 1048576 (omega arith) c.self.inside.parts.items c.self.inside.len c.self.invariant c.args.task (omega arith)
    ∙ ap (λ s. standing_at s c.args.task) c.self.view_is

pub returns-then-at-len : goal.returns-then-at-len
returns-then-at-len c =
    standing_past 1048576 (omega arith) c.self.inside.parts.items c.self.inside.len c.self.invariant c.args.task (omega arith)
    ∙ ap (λ s. standing_at s c.args.task) c.self.view_is

pub returns : goal.returns
returns c =
    c.standing.ensures ∙ standing_read 1048576 (omega arith) c.self.inside.parts.items c.self.inside.len c.self.invariant c.args.task c.index.result.now (omega arith) c.index.ensures
    ∙ ap (λ s. standing_at s c.args.task) c.self.view_is
