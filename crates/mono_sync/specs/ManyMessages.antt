-- Several messages in one call.
use Rattle.std.specs.Prelude.{◌≡◌, ◌+◌, ◌-◌, ◌++◌, if◌then◌else◌, ℕ, List, [], length, Result, Ok, Err}
use Rattle.std.specs.declared.alloc.AllocError.{AllocError}
use Rattle.std.specs.Global.{Vec}
use Rattle.mono_sync.specs.declared.mpsc.Channel.{Channel}
use Rattle.mono_sync.specs.Mpsc.{Kept, places}
use Rattle.mono_sync.specs.ManyPermits.{lesser_of}

module _ {T : Type 0} where
  -- How many messages are neither promised nor owed to a task that waits. A closed channel promises none.
  abbrev pub free_messages : Channel T → ℕ
  free_messages a = if a.is_closed then length a.queue.items else length a.queue.items - (a.receivers.granted + length a.receivers.waiters.items)

  -- How many places are neither taken, reserved nor owed to a task that waits.
  abbrev pub free_places : Channel T → ℕ
  free_places a = places a - (a.senders.granted + length a.senders.waiters.items)

  -- The first n messages have left the queue, and stand after those that were held.
  pub record Moves (a : Channel T) (held : List T) (n : ℕ) (b : Channel T) (kept : List T) : Type 0 where
    pub messages : List T
    pub count : length messages ≡ n
    pub queue : a.queue.items ≡ messages ++ b.queue.items
    pub buffer : kept ≡ held ++ messages
    pub senders : b.senders ≡ a.senders
    pub receivers : b.receivers ≡ a.receivers
    pub same : Kept a b

  -- As many messages as are free leave the queue, at most `limit`. If out of memory, nothing changes.
  abbrev pub ReceivesMany : Channel T → ℕ → List T → Result ℕ AllocError → Channel T → List T → Type 0
  ReceivesMany a limit held (Ok n) b kept = (n ≡ lesser_of limit (free_messages a)) × Moves a held n b kept
  ReceivesMany a limit held (Err e) b kept = (b ≡ a) × (kept ≡ held)

  -- The same, with the messages in a new list.
  abbrev pub AnswersMany : Channel T → ℕ → Result (Vec T) AllocError → Channel T → Type 0
  AnswersMany a limit (Ok messages) b = (n : ℕ) × ReceivesMany a limit [] (Ok n) b messages.items
  AnswersMany a limit (Err e) b = b ≡ a
