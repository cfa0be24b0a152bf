use Rattle.std.proofs.Common.{sym, ◌∙◌}
use Rattle.mono_session.proofs.SessionSleepLemmas.{closes}
use Rattle.mono_session.proofs.keeper.Sessions.close.Goals as goal

pub returns-clause-step : goal.returns-clause-step
returns-clause-step c = λ k stands. closes c.args.self.now c.forget.new.self k c.args.session stands (sym c.has.ensures ∙ c.if-not-has.false) c.forget.ensures.sleeps (c.forget.ensures.beside k stands.matches.beside) c.forget.ensures.elapsed
