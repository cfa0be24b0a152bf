use Rattle.std.proofs.Common.{length}
use Rattle.mono_lines.proofs.ActorTurnLemmas.{PartsRead}
use Rattle.mono_lines.proofs.actor.read.read_turn.Given as goal

abbrev pub invariant-parts : goal.invariant-parts
invariant-parts l = PartsRead l.fn.reader.rest.now l.sends l.reader.rest.now

abbrev pub decreases-parts : goal.decreases-parts
decreases-parts l = length l.reader.rest.now
