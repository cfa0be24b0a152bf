-- Several messages that are taken in one call are as many receives.
use Rattle.std.proofs.Common.{◌≡◌, ◌<◌, ◌≤◌, ◌+◌, ◌-◌, true, false, Bool, cond, ℕ, suc, List, [], ◌∷◌, ◌++◌, length, Ok, Err, sym, ap, subst, ◌∙◌, arith, length-append}
use Rattle.std.proofs.lemmas.List.{append_assoc}
use Rattle.mono_sync.specs.declared.mpsc.Channel.{Channel}
use Rattle.mono_sync.specs.declared.mpsc.TryRecvError.{TryRecvError}
use Rattle.mono_sync.specs.declared.mpsc.TryRecvError.TheVariants as unreceived
use Rattle.mono_sync.specs.Mpsc.{TriesToReceive}
use Rattle.mono_sync.specs.ManyMessages.{free_messages, Moves}

one_fewer : (left k n t : ℕ) (c : Bool) → n ≡ k + 1 → suc left ≤ cond c n (n - t) → left ≤ cond c k (k - t)
one_fewer left k n t true same less = omega (arith, same, less)
one_fewer left k n t false same less = omega (arith, same, less)

none_left : (left n t : ℕ) → suc left ≤ n - t → n ≤ t → ⊥
none_left left n t less full = omega (arith, less, full)

no_length : (left n : ℕ) → suc left ≤ n → n ≡ 0 → ⊥
no_length left n less none = omega (arith, less, none)

module _ {T : Type 0} where
  pub moves_on : (a m b : Channel T) (held kept : List T) (n : ℕ) (x : T) → Moves a held n m kept → TriesToReceive m (Ok x) b → Moves a held (n + 1) b (kept ++ x ∷ [])
  moves_on a m b held kept n x moved s = record {
    messages = moved.messages ++ x ∷ [];
    count = length-append moved.messages (x ∷ []) ∙ ap (λ k. k + 1) moved.count;
    queue = moved.queue ∙ ap (λ q. moved.messages ++ q) s.0.0 ∙ sym (append_assoc moved.messages (x ∷ []) b.queue.items);
    buffer = ap (λ q. q ++ x ∷ []) moved.buffer ∙ append_assoc held moved.messages (x ∷ []);
    senders = s.0.1 ∙ moved.senders;
    receivers = s.1 ∙ moved.receivers;
    same = (s.0.2.0 ∙ moved.same.0, s.0.2.1 ∙ moved.same.1);
  }

  pub free_left : (m b : Channel T) (x : T) (left : ℕ) → suc left ≤ free_messages m → TriesToReceive m (Ok x) b → left ≤ free_messages b
  free_left m b x left less s =
      let n = length b.queue.items in
      let same : length m.queue.items ≡ length (x ∷ b.queue.items) = ap length s.0.0 in
      let longer : length m.queue.items ≡ n + 1 = omega (arith, same) in
      let taken = m.receivers.granted + length m.receivers.waiters.items in
      subst (λ l. left ≤ cond b.is_closed n (n - (l.granted + length l.waiters.items))) (sym s.1)
      (subst (λ c. left ≤ cond c n (n - taken)) (sym s.0.2.1) (one_fewer left n (length m.queue.items) taken m.is_closed longer less))

  pub never_refused : (m b : Channel T) (left : ℕ) (e : TryRecvError) → suc left ≤ free_messages m → TriesToReceive m (Err e) b → ⊥
  never_refused m b left unreceived.Empty less s =
      let n = length m.queue.items in
      let taken = m.receivers.granted + length m.receivers.waiters.items in
      none_left left n taken (subst (λ c. suc left ≤ cond c n (n - taken)) s.0 less) s.1
  never_refused m b left unreceived.Disconnected less s =
      let n = length m.queue.items in
      let taken = m.receivers.granted + length m.receivers.waiters.items in
      no_length left n (subst (λ c. suc left ≤ cond c n (n - taken)) s.0 less) (ap length s.1)

  -- One turn of the loop, with the messages that are left.
  pub moves_more : (a m b : Channel T) (held kept after : List T) (count left : ℕ) (x : T) → 0 < left → left ≤ count → Moves a held (count - left) m kept → TriesToReceive m (Ok x) b
      → after ≡ kept ++ x ∷ [] → Moves a held (count - (left - 1)) b after
  moves_more a m b held kept after count left x some most moved s same =
      let next : count - left + 1 ≡ count - (left - 1) = omega (arith, some, most) in
      subst (λ n. Moves a held n b after) next (subst (λ l. Moves a held (count - left + 1) b l) (sym same) (moves_on a m b held kept (count - left) x moved s))

  pub free_more : (m b : Channel T) (x : T) (left : ℕ) → 0 < left → left ≤ free_messages m → TriesToReceive m (Ok x) b → left - 1 ≤ free_messages b
  free_more m b x left some less s =
      let all : suc (left - 1) ≤ free_messages m = omega (arith, some, less) in
      free_left m b x (left - 1) all s
