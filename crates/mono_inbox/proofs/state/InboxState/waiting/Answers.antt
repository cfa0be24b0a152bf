use Rattle.std.proofs.Common.{subst}
use Rattle.mono_inbox.specs.State.{State, HasNoDoubles}
use Rattle.mono_inbox.specs.Standings.{waits, standing_at}
use Rattle.mono_inbox.proofs.ListLemmas.{distinct}
use Rattle.mono_inbox.proofs.state.InboxState.waiting.Goals as goal

pub returns-clause-distinct : goal.returns-clause-distinct
returns-clause-distinct c =
    subst (λ (s : State). HasNoDoubles s.waiting) c.self.view_is
    (distinct c.self.inside.waiting.items (λ t. waits (standing_at c.self.inside.standings t)) c.self.invariant.once)
