use Rattle.std.proofs.Common.{sym, ◌∙◌}
use Rattle.mono_wait.proofs.WatcherLemmas.{own_of}
use Rattle.mono_wait.proofs.laws.peers_wake_who_is_named.Goals as goal

pub returns : goal.returns
returns g c = λ cx t is. own_of (g.W.SharedState.names (g.C.SharedContext.shared cx) (g.C.Context.number cx)) (g.C.Context.number cx) t (sym (g.met.C.SharedWaitContext.watches_peers cx) ∙ is)
