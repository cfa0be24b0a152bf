-- Nobody overtakes a line.
use Rattle.std.proofs.Common.{◌≡◌, ◌+◌, ◌-◌, ◌<◌, ◌≤◌, ℕ, zero, suc, Bool, true, false, cond, MatchBool, List, [], ◌∷◌, ◌++◌, length, None, Ok, ◌⊎◌, refl, ap, ◌∙◌, inl, inr, arith, length-append}
use Rattle.mono_sync.specs.declared.lines.Waiter.{Waiter}
use Rattle.mono_sync.specs.declared.lines.Line.{Line}
use Rattle.mono_sync.specs.declared.lines.Coming.TheVariants.{Free}
use Rattle.mono_sync.specs.declared.mpsc.Channel.{Channel}
use Rattle.mono_sync.specs.Lines.{due, owed_of, tasks_of, Comes, Leaves}
use Rattle.mono_sync.specs.declared.mpsc.Sending.TheVariants as sending
use Rattle.mono_sync.specs.declared.mpsc.Receiving.TheVariants as receiving
use Rattle.mono_sync.specs.Mpsc as channel
use Rattle.mono_sync.specs.Mpsc.{places, owed_receivers}
use Rattle.mono_sync.specs.LineLaws.{NoTaskIsOvertaken, NoSenderIsOvertaken}

due_if : (b : Bool) (n : ℕ) (ws : List Waiter) → ((m : ℕ) → length ws ≤ m → due m ws ≡ tasks_of ws) → length ws ≤ n → due (cond b (suc n) n) ws ≡ tasks_of ws
due_if true n ws rest le = rest (suc n) (omega (arith, le))
due_if false n ws rest le = rest n le

-- a line for which there is room for all
due_all : (n : ℕ) (ws : List Waiter) → length ws ≤ n → due n ws ≡ tasks_of ws
due_all n [] le = refl
due_all zero (w ∷ ws) le = absurd (omega (arith, le))
due_all (suc n) (w ∷ ws) le = ap (λ ts. w.task ∷ ts) (due_if w.has_left n ws (λ m less. due_all m ws less) (omega (arith, le)))

owed_all : (c : Bool) (room : ℕ) (l : Line) → l.granted + length l.waiters.items ≤ room → owed_of c room l ≡ tasks_of l.waiters.items
owed_all true room l le = refl
owed_all false room l le = due_all (room - l.granted) l.waiters.items (omega (arith, le))

pub no_task : NoTaskIsOvertaken
no_task a b me (inl s) = let h : b.line.granted + length b.line.waiters.items ≡ a.line.granted + length a.line.waiters.items = ap (λ l. l.granted + length l.waiters.items) s.3 in owed_all b.is_closed b.available b.line (omega (arith, h, s.1, s.2))
no_task a b me (inr s) = owed_all b.is_closed b.available b.line (omega (arith, s.1.0, s.2))

module _ {T : Type 0} (a b : Channel T) (x : T) where
  longer : b.queue.items ≡ a.queue.items ++ x ∷ [] → length b.queue.items ≡ length a.queue.items + 1
  longer same = ap length same ∙ length-append a.queue.items (x ∷ [])

  tried : (c : Bool) → a.is_closed ≡ c → b.is_closed ≡ a.is_closed → length a.queue.items ≡ length (x ∷ b.queue.items) → b.receivers ≡ a.receivers
      → (a.is_closed ≡ false → a.receivers.granted + length a.receivers.waiters.items < length a.queue.items) → owed_receivers b ≡ tasks_of b.receivers.waiters.items
  tried true is still queue same less = ap (λ z. owed_of z (length b.queue.items) b.receivers) (still ∙ is)
  tried false is still queue same less =
      let h : b.receivers.granted + length b.receivers.waiters.items ≡ a.receivers.granted + length a.receivers.waiters.items = ap (λ l. l.granted + length l.waiters.items) same in
      owed_all b.is_closed (length b.queue.items) b.receivers (omega (arith, h, queue, less is))

  asked : (me : ℕ) (c : Bool) → a.is_closed ≡ c → b.is_closed ≡ a.is_closed → length a.queue.items ≡ length (x ∷ b.queue.items)
      → MatchBool c (Leaves a.receivers None me b.receivers) (Comes a.receivers None me (length a.queue.items) Free b.receivers) → owed_receivers b ≡ tasks_of b.receivers.waiters.items
  asked me true is still queue m = ap (λ z. owed_of z (length b.queue.items) b.receivers) (still ∙ is)
  asked me false is still queue m = owed_all b.is_closed (length b.queue.items) b.receivers (omega (arith, queue, m.0))

pub no_sender : (T : Type 0) → NoSenderIsOvertaken T
no_sender T a b x me = (sends, receives)
  where
    sends : channel.TriesToSend a x (Ok tt) b ⊎ channel.Sends a None x me sending.Sent b → channel.owed_senders b ≡ tasks_of b.senders.waiters.items
    sends (inl s) =
        let h : b.senders.granted + length b.senders.waiters.items ≡ a.senders.granted + length a.senders.waiters.items = ap (λ l. l.granted + length l.waiters.items) s.3 in
        owed_all b.is_closed (places b) b.senders (omega (arith, h, s.1, longer a b x s.2.0, s.2.2.0))
    sends (inr s) = owed_all b.is_closed (places b) b.senders (omega (arith, s.1.0, longer a b x s.2.0, s.2.2.0))

    receives : channel.TriesToReceive a (Ok x) b ⊎ channel.Receives a None me (receiving.Received x) b → channel.owed_receivers b ≡ tasks_of b.receivers.waiters.items
    receives (inl s) = tried a b x a.is_closed refl s.0.2.1 (ap length s.0.0) s.1 s.2
    receives (inr s) = asked a b x me a.is_closed refl s.0.2.1 (ap length s.0.0) s.1
