-- The acquires that wait, as the contracts see them.
use Rattle.std.specs.Prelude.{List}
use Rattle.lease_core.specs.declared.ends.Waiter.{Waiter}
use Rattle.lease_core.specs.declared.waits.Waits.{Waits}
use Rattle.lease_core.specs.Places.{waiters}

-- In the order in which they came.
abbrev pub waits_of : Waits → List Waiter
waits_of waits = waiters waits.places.entries
