-- Which stake is of which count.
use Rattle.std.specs.Prelude.{◌≡◌, []}
use Rattle.atomic_table.specs.declared.shared.Seat.{Seat}
use Rattle.mono_channel.specs.declared.stakes.Standing.{Standing}
use Rattle.mono_channel.specs.declared.stakes.SenderCount.{SenderCount}

-- It is a stake of this count.
abbrev pub IsStakeOf : SenderCount → Seat (Unit {0}) Standing → Type 0
IsStakeOf count stake = (stake.table_id ≡ count.table.shared.table_id) × (stake.me.1 ≡ [])
