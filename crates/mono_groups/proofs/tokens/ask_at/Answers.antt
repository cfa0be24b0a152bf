use Rattle.std.proofs.Common.{refl, inl}
use Rattle.mono_groups.proofs.tokens.ask_at.Goals as goal

pub returns : goal.returns
returns c = inl (c.value_mut.result.now, c.ask.new.self, c.value_mut.ensures.value, c.ask.ensures, refl)
