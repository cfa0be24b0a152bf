use Rattle.std.proofs.Common.{refl, arith}
use Rattle.mono_rt.proofs.parts.laws.a_park_moves_the_readings.Goals as goal

pub returns-clause-held : goal.returns-clause-held
returns-clause-held c = (refl, (refl, tt))

pub returns-clause-apart : goal.returns-clause-apart
returns-clause-apart c = λ is. omega (arith, is.1.0)
