-- Sleeps that are armed as they are made.
use Rattle.std.specs.Prelude.{◌≡◌, ℕ, false, None, Result, Ok, Err}
use Rattle.mono_model.specs.Table.{next_number, is_full, with_next}
use Rattle.mono_model.specs.declared.error.SleepError.{SleepError}
use Rattle.mono_time.specs.Sleeps.{SleepTable, Added, with_table, at_tick}

-- A new sleep has the next number, and is armed without a waker. A refusal is that of an addition, and changes nothing.
abbrev pub Arms : SleepTable → ℕ → Result ℕ SleepError → SleepTable → Type 0
Arms old tick (Ok number) new =
    (is_full old.table old.limit ≡ false) × (number ≡ next_number old.table) × (new ≡ with_table old (with_next old.table (at_tick old.greatest tick None)))
Arms old tick (Err error) new = Added old tick (Err error) new
