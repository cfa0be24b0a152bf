use Rattle.std.proofs.Common.{refl, arith}
use Rattle.mono_rt.proofs.parts.laws.the_last_reading_is_repeated.Goals as goal

pub returns-clause-held : goal.returns-clause-held
returns-clause-held c = (refl, (refl, (refl, tt)))

pub returns-clause-apart : goal.returns-clause-apart
returns-clause-apart c = λ is. omega (arith, is.1.0)
