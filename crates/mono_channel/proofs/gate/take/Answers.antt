use Rattle.std.proofs.Common.{refl}
use Rattle.mono_channel.proofs.DeliveryLemmas.{gets, learns, all_arrived}
use Rattle.mono_channel.proofs.gate.take.Goals as goal

pub pop_as-requires-clause-rule : goal.pop_as-requires-clause-rule
pop_as-requires-clause-rule g c = (gets _ _ c.requires.receives, learns _ _ c.requires.receives)

pub returns-in-None-clause-taken : goal.returns-in-None-clause-taken
returns-in-None-clause-taken g c = let rule = c.in-None.ensures.rule in (rule.0, refl, all_arrived _ _ _ rule.1)
