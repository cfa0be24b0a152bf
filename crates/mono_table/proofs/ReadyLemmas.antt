-- A number that has a value lies below the next one.
use Rattle.std.proofs.Common.{◌≡◌, ◌<◌, ◌≤◌, ℕ, true, length, take, None, Option, inl, inr, arith}
use Rattle.std.specs.Prelude.{is_some}
use Rattle.std.proofs.lemmas.Bool.{cases_lt}
use Rattle.std.proofs.lemmas.List.{length-take-le, get_or_past}
use Rattle.mono_model.specs.Table.{Table, value_at}

none-true : {V : Type 0} (v : Option V) → v ≡ None → is_some v ≡ true → ⊥
none-true v is some = cc

pub inside : {V : Type 0} (places : Table V) (next t : ℕ) → next ≤ length places → is_some (value_at (take next places) t) ≡ true → t < next
inside places next t enough some = elim (cases_lt t next) [
  | inl below ↦ below
  | inr past ↦ absurd (none-true (value_at (take next places) t) (get_or_past (take next places) t None (omega (arith, past, length-take-le next places enough))) some)
]
