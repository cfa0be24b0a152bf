-- Which futures have answered. Such a future may not be polled.
use Rattle.std.specs.Prelude.{Bool, is_none}
use Rattle.mono_sync.specs.declared.permits.Acquire.{Acquire}
use Rattle.mono_sync.specs.declared.notifications.Notified.{Notified}
use Rattle.mono_sync.specs.declared.messages.Send.{Send}
use Rattle.mono_sync.specs.declared.messages.Recv as messages
use Rattle.mono_sync.specs.declared.deliveries.Recv as deliveries
use Rattle.mono_sync.specs.declared.keyed_deliveries.RecvAt as keyed_deliveries
use Rattle.mono_sync.specs.declared.keyed_messages.RecvAt as keyed_messages
use Rattle.mono_sync.specs.declared.keyed_messages.SendAt.{SendAt}
use Rattle.mono_sync.specs.declared.keyed_permits.AcquireAt.{AcquireAt}
use Rattle.mono_sync.specs.declared.keyed_notifications.NotifiedAt.{NotifiedAt}
use Rattle.mono_sync.specs.declared.keyed_changes.ChangedAt.{ChangedAt}
use Rattle.mono_sync.specs.declared.changes.Changed.{Changed}
use Rattle.mono_sync.specs.declared.waiting.WaitFor.{WaitFor}
use Rattle.mono_sync.specs.declared.acts.performs.AtOnce.{AtOnce}
use Rattle.mono_sync.specs.Messages.{has_none}

module _ {W : Type 0} where
  abbrev pub acquire_spent : Acquire W → Bool
  acquire_spent f = f.has_answered

  abbrev pub acquire_at_spent : AcquireAt W → Bool
  acquire_at_spent f = f.has_answered

  abbrev pub notified_spent : Notified W → Bool
  notified_spent f = f.has_answered

  abbrev pub notified_at_spent : NotifiedAt W → Bool
  notified_at_spent f = f.has_answered

module _ {W T : Type 0} where
  -- of a channel
  abbrev pub send_spent : Send W T → Bool
  send_spent f = has_none f.message

  abbrev pub recv_spent : messages.Recv W T → Bool
  recv_spent f = f.has_answered

  abbrev pub send_at_spent : SendAt W T → Bool
  send_at_spent f = has_none f.message

  abbrev pub recv_at_spent : keyed_messages.RecvAt W T → Bool
  recv_at_spent f = f.has_answered

  -- of a oneshot channel
  abbrev pub oneshot_spent : deliveries.Recv W T → Bool
  oneshot_spent f = f.has_answered

  abbrev pub oneshot_at_spent : keyed_deliveries.RecvAt W T → Bool
  oneshot_at_spent f = f.has_answered

  abbrev pub changed_spent : Changed W T → Bool
  changed_spent f = f.has_answered

  abbrev pub changed_at_spent : ChangedAt W T → Bool
  changed_at_spent f = f.has_answered

module _ {W T F : Type 0} where
  abbrev pub wait_for_spent : WaitFor W T F → Bool
  wait_for_spent f = f.has_answered

module _ {W A : Type 0} where
  abbrev pub at_once_spent : AtOnce W A → Bool
  at_once_spent f = is_none f.act
