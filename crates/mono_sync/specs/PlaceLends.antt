-- What a place ends as, if a reference to its part is handed out.
use Rattle.std.specs.Prelude.{Option, Some}
use Rattle.std.specs.Borrow.{Lends, Fml, RattleType, MutBor}
use Rattle.std.specs.contracts.option.Option.{the_row as option_row}

-- once the borrow r ends, the place has the last value written through it
abbrev pub place_lends : (T : RattleType) → MutBor (Option T.Denot) → MutBor T.Denot → Fml
place_lends T place r = Lends (option_row T) T place r Some
