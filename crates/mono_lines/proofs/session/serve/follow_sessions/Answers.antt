use Rattle.mono_session.specs.Keeper.{no_sessions}
use Rattle.mono_session.specs.Refinement.{StandsFor}
use Rattle.mono_lines.specs.SessionTexts.{call_text, FitsCall, StepsAs}
use Rattle.mono_lines.specs.declared.session.serve.SessionLines.{SessionLines}
use Rattle.mono_lines.proofs.ServiceLemmas.{followed}
use Rattle.mono_lines.proofs.session.serve.follow_sessions.Goals as goal

pub returns-clause-followed : goal.returns-clause-followed
returns-clause-followed g c =
    let start : SessionLines = record { sessions = c.in_ok-made.made; closed = c.new-2.result } in
    followed (λ (l : SessionLines). l.sessions) StandsFor StepsAs call_text FitsCall start (no_sessions c.args.sessions c.args.entries) c.follow.result
    (g.S.Source.left c.args.source.now) (g.S.Source.left c.follow.new.source) (g.K.Sink.written c.args.sink.now) (g.K.Sink.written c.follow.new.sink) c.in_ok-made.ensures.stands c.follow.ensures.followed
