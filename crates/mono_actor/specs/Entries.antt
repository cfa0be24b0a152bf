-- The effect of calls on the entry of an actor.
use Rattle.std.specs.Prelude.{ℕ, Bool, ◌==◌, if◌then◌else◌}
use Rattle.mono_actor.specs.Actors.{wait_from}
use Rattle.mono_actor.specs.declared.mailboxes.Mailbox.{Mailbox}
use Rattle.mono_actor.specs.declared.places.Mode as declared
use Rattle.mono_actor.specs.declared.places.Mode.TheVariants as place
use Rattle.mono_actor.specs.declared.places.Entry.{Entry}

abbrev pub entry_with : Mailbox → Entry → Entry
entry_with mailbox entry = record { mode = entry.mode; mailbox = mailbox; timeout = entry.timeout; timer = entry.timer }

abbrev pub entry_in : declared.Mode → Entry → Entry
entry_in mode entry = record { mode = mode; mailbox = entry.mailbox; timeout = entry.timeout; timer = entry.timer }

-- The mode after a message: an idle actor is queued.
abbrev pub notified_mode : declared.Mode → declared.Mode
notified_mode (place.Idle waits_for) = place.Queued
notified_mode place.Queued = place.Queued
notified_mode place.Running = place.Running

abbrev pub notified : Mailbox → Entry → Entry
notified mailbox entry = record { mode = notified_mode entry.mode; mailbox = mailbox; timeout = entry.timeout; timer = entry.timer }

-- The mode after a new timeout: an idle actor waits anew from now.
abbrev pub timed_mode : ℕ → ℕ → declared.Mode → declared.Mode
timed_mode now timeout (place.Idle waits_for) = place.Idle (wait_from now timeout)
timed_mode now timeout place.Queued = place.Queued
timed_mode now timeout place.Running = place.Running

abbrev pub timed_entry : ℕ → ℕ → Entry → Entry
timed_entry now timeout entry = record { mode = timed_mode now timeout entry.mode; mailbox = entry.mailbox; timeout = timeout; timer = entry.timer }

-- The mode after a turn: an actor is queued again if it has messages, and otherwise idle.
abbrev pub rested_mode : ℕ → ℕ → Bool → declared.Mode
rested_mode now timeout empty = if empty then place.Idle (wait_from now timeout) else place.Queued

abbrev pub rested_entry : ℕ → Entry → Entry
rested_entry now entry = entry_in (rested_mode now entry.timeout (entry.mailbox.count == 0)) entry
