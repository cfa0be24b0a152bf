use Rattle.std.proofs.Common.{sym, ◌∙◌}
use Rattle.mono_wait.proofs.WatcherLemmas.{own_of}
use Rattle.mono_wait.proofs.laws.threads_wake_who_handed_out.Goals as goal

pub returns : goal.returns
returns g c = λ cx t is. own_of (g.C.RemoteContext.has_handed_out cx) (g.C.Context.number cx) t (sym (g.met.C.RemoteWaitContext.watches_threads cx) ∙ is)
