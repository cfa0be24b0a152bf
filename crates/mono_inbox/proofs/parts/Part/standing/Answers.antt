use Rattle.std.proofs.Common.{ap, ◌∙◌, arith}
use Rattle.mono_inbox.specs.Standings.{standing_at}
use Rattle.mono_inbox.proofs.LayoutLemmas.{standing_past, standing_read}
use Rattle.mono_inbox.proofs.parts.Part.standing.Goals as goal

pub returns-then-at-len : goal.returns-then-at-len
returns-then-at-len c =
    standing_past 4096 (omega arith) c.self.inside.pages.items c.self.inside.len c.self.invariant.laid c.args.task (omega arith)
    ∙ ap (λ s. standing_at s c.args.task) c.self.view_is

pub returns : goal.returns
returns c =
    c.standing.ensures ∙ standing_read 4096 (omega arith) c.self.inside.pages.items c.self.inside.len c.self.invariant.laid c.args.task c.index.result.now (omega arith) c.index.ensures
    ∙ ap (λ s. standing_at s c.args.task) c.self.view_is
