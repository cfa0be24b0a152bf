-- What a table of parts ends as, if a reference to the part with a key is handed out.
use Rattle.std.specs.Prelude.{ℕ}
use Rattle.std.specs.Borrow.{Lends, Fml, RattleType, MutBor}
use Rattle.mono_model.specs.Table.{Table, with_value}
use Rattle.mono_task.specs.Members.{SharedOf}
use Rattle.mono_sync.specs.contracts.tables.Many.{the_row as many_row}

-- once the borrow r ends, the key has the last value written through it
abbrev pub many_lends : (T : RattleType) → SharedOf T.Denot → MutBor (Table T.Denot) → ℕ → MutBor T.Denot → Fml
many_lends T shared s key r = Lends (many_row T shared) T s r (with_value s.now key)
