-- What two shared values end as, if a reference to one of them is handed out.
use Rattle.std.specs.Borrow.{Lends, Fml, RattleType, MutBor}
use Rattle.mono_sync.specs.declared.boths.Both.{Both}
use Rattle.mono_sync.specs.contracts.boths.Both.{the_row as both_row}
use Rattle.mono_sync.specs.Boths.{with_first, with_second}

-- once the borrow r ends, the first has the last value written through it
abbrev pub first_lends : (A B : RattleType) → MutBor (Both A.Denot B.Denot) → MutBor A.Denot → Fml
first_lends A B both r = Lends (both_row A B) A both r (with_first both.now)

-- once the borrow r ends, the second has the last value written through it
abbrev pub second_lends : (A B : RattleType) → MutBor (Both A.Denot B.Denot) → MutBor B.Denot → Fml
second_lends A B both r = Lends (both_row A B) B both r (with_second both.now)
