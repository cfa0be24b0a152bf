-- What a table ends as, if a reference to the value of one number is handed out.
use Rattle.std.specs.Prelude.{ℕ, Option, Some}
use Rattle.std.specs.Borrow.{Lends, Fml, RattleType, MutBor}
use Rattle.std.specs.contracts.option.Option.{the_row as option_row}
use Rattle.mono_model.specs.Table.{Table, with_value}
use Rattle.mono_table.specs.contracts.pages.Page.{the_row as page_row}
use Rattle.mono_table.specs.contracts.parts.Part.{the_row as part_row}
use Rattle.mono_table.specs.contracts.directory.Table.{the_row as table_row}

-- once the borrow r ends, the place has the last value written through it
abbrev pub place_lends : (T : RattleType) → MutBor (Option T.Denot) → MutBor T.Denot → Fml
place_lends T place r = Lends (option_row T) T place r Some

module _ (T : RattleType) (s : MutBor (Table T.Denot)) (number : ℕ) (r : MutBor T.Denot) where
  -- once the borrow r ends, the number has the last value written through it
  abbrev pub page_lends : Fml
  page_lends = Lends (page_row T) T s r (with_value s.now number)

  abbrev pub part_lends : Fml
  part_lends = Lends (part_row T) T s r (with_value s.now number)

  abbrev pub table_lends : Fml
  table_lends = Lends (table_row T) T s r (with_value s.now number)
