use Rattle.std.proofs.Common.{arith}
use Rattle.mono_wheel.proofs.search.slot_by.Goals as goal

pub returns-in-None : goal.returns-in-None
returns-in-None c = λ key timed is ahead. absurd (c.in-None.ensures key timed is ahead)

pub returns-then-slot-now : goal.returns-then-slot-now
returns-then-slot-now c = (c.in-Some.ensures, c.if-slot-now.true)

pub returns-else-slot-now : goal.returns-else-slot-now
returns-else-slot-now c = λ key timed is ahead. let least = c.in-Some.ensures.least key timed is ahead in let later = c.if-slot-now.false in omega (arith, least, later)
