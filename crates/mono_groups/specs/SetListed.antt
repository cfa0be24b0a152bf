-- Each task that a set lists is one of those that wait in it.
use Rattle.std.specs.Prelude.{true, ◌≡◌, ◌==◌, ℕ, List}
use Rattle.std.specs.List.{list_any}
use Rattle.mono_sync.specs.Parts.{some_parts}
use Rattle.mono_groups.specs.declared.join_set.JoinSet.{JoinSet}
use Rattle.mono_groups.specs.JoinSets.{aborting, joining, joiner_at, joiners_in, listed_by, waiting_in}
use Rattle.mono_groups.specs.Listed.{node_some, waiters_some}
use Rattle.mono_groups.specs.Nodes as node

pub set_some : {T : Type 0} (a : JoinSet T) (p : List ℕ) (t : ℕ) → listed_by a p t ≡ true → list_any (λ u. u == t) (waiting_in a) ≡ true
set_some = some_parts aborting joining node.listed_by joiner_at node.waiting_in joiners_in node_some (λ q p t is. waiters_some q.1.entries.items p t is)
