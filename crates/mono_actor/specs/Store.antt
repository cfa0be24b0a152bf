-- The store's view of each actor.
use Rattle.std.specs.Prelude.{List, Option}
use Rattle.mono_actor.specs.Places.{Place}
use Rattle.mono_actor.specs.Mailboxes.{places_in}
use Rattle.mono_actor.specs.declared.store.Store.{Store}

abbrev pub places_of : {M : Type 0} → Store M → List (Option (Place M))
places_of store = places_in store.links.slots store.entries
