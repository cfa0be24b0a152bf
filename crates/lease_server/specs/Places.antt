-- What a core's place says of its promise.
use Rattle.std.specs.Prelude.{◌≡◌}
use Rattle.lease_server.specs.CoreEnds.{HasEnded}
use Rattle.lease_server.specs.declared.threads.Serves.{Serves}
use Rattle.lease_server.specs.declared.threads.Place.{Place}
use Rattle.lease_server.specs.declared.threads.Place.TheVariants as place

-- The thread has the promise, or the core has ended as it says.
abbrev pub IsPromised : Serves → Place → Type 0
IsPromised promise (place.Thread thread) = thread.promise ≡ promise
IsPromised promise (place.Ended end) = HasEnded promise.number promise.sizes promise.requests.value promise.texts.value end
