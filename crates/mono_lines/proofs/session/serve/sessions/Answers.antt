use Rattle.mono_session.specs.Keeper.{no_sessions}
use Rattle.mono_session.specs.Refinement.{StandsFor}
use Rattle.mono_lines.specs.SessionTexts.{call_text, FitsCall, StepsAs}
use Rattle.mono_lines.specs.declared.session.serve.SessionLines.{SessionLines}
use Rattle.mono_lines.proofs.ServiceLemmas.{served}
use Rattle.mono_lines.proofs.session.serve.sessions.Goals as goal

pub returns : goal.returns
returns c =
    let start : SessionLines = record { sessions = c.in_ok-made.made; closed = c.new-2.result } in
    served (λ (l : SessionLines). l.sessions) StandsFor StepsAs call_text FitsCall start (no_sessions c.args.sessions c.args.entries) c.args.input.now c.serve.result c.in_ok-made.ensures.stands c.serve.ensures
