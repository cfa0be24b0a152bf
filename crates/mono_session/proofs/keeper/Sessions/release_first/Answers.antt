use Rattle.std.proofs.Common.{refl}
use Rattle.mono_session.proofs.LeaveLemmas.{stands_first}
use Rattle.mono_session.proofs.keeper.Sessions.release_first.Goals as goal

pub returns-clause-step : goal.returns-clause-step
returns-clause-step c = λ k stands. (
  c.leave_first.ensures.key k.entries stands.matches.beside.entries,
  stands_first c.args.self.now _ k c.args.session c.leave_first.result refl refl refl stands (c.leave_first.ensures.kept k.entries stands.matches.beside.entries),
)
