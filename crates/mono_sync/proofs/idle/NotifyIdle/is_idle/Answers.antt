use Rattle.std.proofs.Common.{sym, ap, ◌∙◌}
use Rattle.std.proofs.lemmas.Bool.{eqb-true, eq-eqb}
use Rattle.mono_sync.specs.Lines.{tasks_of}
use Rattle.mono_sync.proofs.EmptyLineLemmas.{no_waiters, no_tasks, no_notice}
use Rattle.mono_sync.proofs.idle.NotifyIdle.is_idle.Goals as goal

pub returns : goal.returns
returns c =
    let a = c.args.self.now in (
      (λ is. let none = no_waiters a.line.waiters.items a.line.waiters.len a.line.waiters.ok.0 (eqb-true a.line.waiters.len 0 (sym c.is_empty.ensures ∙ is)) in (ap tasks_of none, no_notice a.cleared.next a.pending a.line.waiters.items none)),
      (λ idle. c.is_empty.ensures ∙ eq-eqb a.line.waiters.len 0 (a.line.waiters.ok.0 ∙ no_tasks a.line.waiters.items idle.0)),
    )
