use Rattle.std.proofs.Common.{sym, ◌∙◌}
use Rattle.mono_wait.proofs.WatcherLemmas.{own_of}
use Rattle.mono_wait.proofs.laws.places_list_who_waits.Goals as goal

pub returns : goal.returns
returns g c = λ cx p t is. own_of (g.W.SharedState.lists (g.C.SharedContext.shared cx) p (g.C.Context.number cx)) (g.C.Context.number cx) t (sym (g.met.C.SharedWaitContext.watches_places cx p) ∙ is)
