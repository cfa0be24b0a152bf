-- The final value of a future that keeps its output, after a reference to the output was given to the caller.
use Rattle.std.specs.Prelude.{Option}
use Rattle.std.specs.Borrow.{LendsIf, Fml, RattleType, MutBor}
use Rattle.mono_combine.specs.contracts.maybe.MaybeDone.{the_row}
use Rattle.mono_combine.specs.declared.maybe.MaybeDone.{MaybeDone}
use Rattle.mono_combine.specs.declared.maybe.MaybeDone.TheVariants.{Done}

-- Whether it ends with the output last written through r, or as it was.
abbrev pub LendsOutput : (Fut O : RattleType) → MutBor (MaybeDone Fut.Denot O.Denot) → Option (MutBor O.Denot) → Fml
LendsOutput Fut O m r = LendsIf (the_row Fut O) O m r (λ x. Done x) m.now
