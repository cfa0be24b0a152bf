use Rattle.std.proofs.Common.{refl}
use Rattle.mono_lines.specs.ActorReplies.{answer_of}
use Rattle.mono_lines.specs.declared.actor.words.ActorLine.TheVariants as line
use Rattle.mono_lines.proofs.ServiceLemmas.{on_ok}
use Rattle.mono_lines.proofs.ActorCallLemmas.{one_told}
use Rattle.mono_lines.proofs.actor.serve.made.Goals as goal

pub returns-in_ok-told-in-Actor-clause-answered : goal.returns-in_ok-told-in-Actor-clause-answered
returns-in_ok-told-in-Actor-clause-answered c =
    rw c.in-Actor.is (on_ok c.put_told.result (one_told _ _ line.Actor (answer_of c.in_ok-told-in-Actor.told) _ _ (c.in_ok-told-in-Actor.ensures.step, refl)) c.put_told.ensures)

pub returns-in_ok-told-in-Send-clause-answered : goal.returns-in_ok-told-in-Send-clause-answered
returns-in_ok-told-in-Send-clause-answered c =
    rw c.in-Send.is
    (on_ok c.put_told-in-Send.result (one_told _ _ (line.Send c.in-Send.from c.in-Send.to c.in-Send.message) (answer_of c.in_ok-told-in-Send.told) _ _ (c.in_ok-told-in-Send.ensures.step, refl)) c.put_told-in-Send.ensures)

pub returns-in-Timeout-clause-answered : goal.returns-in-Timeout-clause-answered
returns-in-Timeout-clause-answered c =
    rw c.in-Timeout.is (on_ok c.put_told-in-Timeout.result (one_told _ _ (line.Timeout c.in-Timeout.actor c.in-Timeout.ms) (answer_of c.timed-told.result) _ _ (c.timed-told.ensures.step, refl)) c.put_told-in-Timeout.ensures)
