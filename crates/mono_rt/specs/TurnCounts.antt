-- The count of the turns that have begun, and the turns of a history.
use Rattle.std.specs.Prelude.{◌≡◌, ◌≤◌, ℕ, ◌+◌, ◌-◌, ◌^◌, min, List}
use Rattle.mono_machine.specs.Machine.{Machine}
use Rattle.mono_rt.specs.Budgets.{turns_in}
use Rattle.mono_rt.specs.declared.parts.journals.Entry.{Entry}

-- The count rose by the turns among the entries, at most to 2^64 - 1.
pub record CountsTurns (before now : ℕ) (old : Machine) (part : List Entry) (new : Machine) (rest : List Entry) : Type 0 where
  pub turns : ℕ
  pub are : turns_in part ≡ turns + turns_in rest
  pub counted : before ≤ 2 ^ 64 - 1 → now ≡ min (before + turns) (2 ^ 64 - 1)
