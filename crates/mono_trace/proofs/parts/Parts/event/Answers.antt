use Rattle.std.proofs.Common.{arith}
use Rattle.mono_trace.proofs.ArmCountLemmas.{if_ok, told_arms, tried_arms}
use Rattle.mono_trace.proofs.parts.Parts.event.Goals as goal

pub returns-in-Turn-clause-arms : goal.returns-in-Turn-clause-arms
returns-in-Turn-clause-arms c =
    if_ok c.turn.result _ _ (told_arms c.as_slice.result.now c.in-Turn.end c.args.report.now _ c.args.self.now c.turn.new.self _ (omega (arith, c.as_slice.type_inv))) c.turn.ensures

pub returns-in-Clock-clause-arms : goal.returns-in-Clock-clause-arms
returns-in-Clock-clause-arms c = if_ok c.clock.result _ _ (tried_arms c.in-Clock.n c.args.report.now c.args.self.now c.clock.new.self _) c.clock.ensures.tried
