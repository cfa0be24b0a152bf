use Rattle.std.proofs.Common.{refl, inl}
use Rattle.mono_groups.proofs.tokens.leave_at.Goals as goal

pub returns : goal.returns
returns c = inl (c.value_mut.result.now, c.leave.new.self, c.value_mut.ensures.value, c.leave.ensures, refl)
