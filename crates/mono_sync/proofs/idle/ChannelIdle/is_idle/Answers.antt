use Rattle.std.proofs.Common.{sym, ◌∙◌}
use Rattle.std.proofs.lemmas.Bool.{eq-eqb}
use Rattle.mono_sync.specs.Lines.{tasks_of}
use Rattle.mono_sync.specs.Parts.{nil_first}
use Rattle.mono_sync.proofs.EmptyLineLemmas.{no_tasks}
use Rattle.mono_sync.proofs.WaitLemmas.{false-true}
use Rattle.mono_sync.proofs.idle.ChannelIdle.is_idle.Goals as goal

pub returns : goal.returns
returns g c =
    let a = c.args.self.now in (
      (λ is. absurd (false-true is)),
      (λ idle. sym c.if-is_empty.false ∙ c.is_empty.ensures ∙ eq-eqb a.senders.waiters.len 0 (a.senders.waiters.ok.0 ∙ no_tasks a.senders.waiters.items (nil_first (tasks_of a.senders.waiters.items) (tasks_of a.receivers.waiters.items) idle.0))),
    )
