-- The events and the replies that a past lists.
use Rattle.std.specs.Prelude.{List, map}
use Rattle.std.specs.List.{flat_map}
use Rattle.lease_core.specs.declared.requests.Reply.{Reply}
use Rattle.lease_core.specs.Steps.{Event, Advance, Handle, Finish}
use Rattle.lease_server.specs.declared.pasts.Asked.{Asked}
use Rattle.lease_server.specs.declared.pasts.Asked.TheVariants as asked
use Rattle.lease_server.specs.declared.pasts.Past.{Past}

abbrev pub event_of : Asked → Event
event_of (asked.Time n) = Advance n
event_of (asked.Call request) = Handle request
event_of asked.End = Finish

-- All events, in order.
abbrev pub events_of : Past → List Event
events_of past = map event_of past.asked.entries

-- All replies, in order: those of each step after those of the steps before it.
abbrev pub replies_of : Past → List Reply
replies_of past = flat_map (λ replies. replies) past.replied.entries
