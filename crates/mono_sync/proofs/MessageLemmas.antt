-- Messages come out in the order in which they went in.
use Rattle.std.proofs.Common.{◌≡◌, Bool, true, false, List, [], ◌∷◌, ◌++◌, Ok, Err, refl, sym, ◌∙◌, ap, append_assoc, append-nil}
use Rattle.mono_sync.specs.declared.mpsc.Channel.{Channel}
use Rattle.mono_sync.specs.declared.mpsc.TrySendError.TheVariants as unsent
use Rattle.mono_sync.specs.declared.mpsc.TryRecvError.TheVariants as unreceived
use Rattle.mono_sync.specs.declared.mpsc.Sending.TheVariants as sending
use Rattle.mono_sync.specs.declared.mpsc.Receiving.TheVariants as receiving
use Rattle.mono_sync.specs.MpscRuns.{Event, tried_to_send, tried_to_receive, asked_to_send, asked_to_receive, gave_up_send, gave_up_receive, closed, served_sender, served_receiver, Step, Run, sent_by, sent, received_by, received}
use Rattle.mono_sync.specs.Laws.{InOrder, NothingAfterClose}

both : (b : Bool) → b ≡ true → b ≡ false → ⊥
both b p q = cc

module _ {T : Type 0} where
  stays : (xs ys : List T) → ys ≡ xs → [] ++ ys ≡ xs ++ []
  stays xs ys same = same ∙ sym (append-nil xs)

  first_out : (x : T) (xs ys : List T) → xs ≡ x ∷ ys → (x ∷ []) ++ ys ≡ xs ++ []
  first_out x xs ys is = sym is ∙ sym (append-nil xs)

  of : (a b : Channel T) → b ≡ a → b.queue.items ≡ a.queue.items
  of a b same = ap (λ c. c.queue.items) same

  step_in_order : (e : Event T) (a b : Channel T) → Step a e b → received_by e ++ b.queue.items ≡ a.queue.items ++ sent_by e
  step_in_order (tried_to_send x (Ok done)) a b s = s.2.0
  step_in_order (tried_to_send x (Err (unsent.Closed y))) a b s = stays _ _ (of a b s.2)
  step_in_order (tried_to_send x (Err (unsent.Full y))) a b s = stays _ _ (of a b s.3)
  step_in_order (tried_to_send x (Err (unsent.Memory y))) a b s = stays _ _ s.3.0
  step_in_order (tried_to_receive (Ok x)) a b s = first_out x _ _ s.0.0
  step_in_order (tried_to_receive (Err unreceived.Empty)) a b s = stays _ _ (of a b s.2)
  step_in_order (tried_to_receive (Err unreceived.Disconnected)) a b s = stays _ _ (of a b s.2)
  step_in_order (asked_to_send ticket x task sending.Sent) a b s = s.2.0
  step_in_order (asked_to_send ticket x task (sending.Closed y)) a b s = stays _ _ s.3.0
  step_in_order (asked_to_send ticket x task (sending.Memory y)) a b s = stays _ _ s.3.0
  step_in_order (asked_to_send ticket x task (sending.Joined t y)) a b s = stays _ _ s.3.0
  step_in_order (asked_to_send ticket x task (sending.Waits y)) a b s = stays _ _ s.3.0
  step_in_order (asked_to_receive ticket task (receiving.Received x)) a b s = first_out x _ _ s.0.0
  step_in_order (asked_to_receive ticket task receiving.Closed) a b s = stays _ _ s.3.0
  step_in_order (asked_to_receive ticket task receiving.Memory) a b s = stays _ _ s.2.0
  step_in_order (asked_to_receive ticket task (receiving.Joined t)) a b s = stays _ _ s.2.0
  step_in_order (asked_to_receive ticket task receiving.Waits) a b s = stays _ _ s.2.0
  step_in_order (gave_up_send ticket task) a b s = stays _ _ s.1.0
  step_in_order (gave_up_receive ticket task) a b s = stays _ _ s.1.0
  step_in_order closed a b s = stays _ _ (ap (λ q. q.items) s.0)
  step_in_order (served_sender first) a b s = stays _ _ (ap (λ q. q.items) s.1)
  step_in_order (served_receiver first) a b s = stays _ _ (ap (λ q. q.items) s.1)

  joined : (r rs b m a s ss : List T) → r ++ m ≡ a ++ s → rs ++ b ≡ m ++ ss → (r ++ rs) ++ b ≡ a ++ (s ++ ss)
  joined r rs b m a s ss one rest =
      append_assoc r rs b ∙ ap (λ xs. r ++ xs) rest ∙ sym (append_assoc r m ss) ∙ ap (λ xs. xs ++ ss) one ∙ append_assoc a s ss

  pub in_order : InOrder T
  in_order [] a b run = stays _ _ (of a b run)
  in_order (e ∷ es) a b (m, step, rest) = joined (received_by e) (received es) _ _ _ (sent_by e) (sent es) (step_in_order e a m step) (in_order es m b rest)

  shut_stays : (a b : Channel T) → a.is_closed ≡ true → b ≡ a → b.is_closed ≡ true
  shut_stays a b shut same = ap (λ c. c.is_closed) same ∙ shut

  step_shut : (e : Event T) (a b : Channel T) → a.is_closed ≡ true → Step a e b → (b.is_closed ≡ true) × (sent_by e ≡ [])
  step_shut (tried_to_send x (Ok done)) a b c s = absurd (both _ c s.0)
  step_shut (tried_to_send x (Err (unsent.Closed y))) a b c s = (shut_stays a b c s.2, refl)
  step_shut (tried_to_send x (Err (unsent.Full y))) a b c s = (shut_stays a b c s.3, refl)
  step_shut (tried_to_send x (Err (unsent.Memory y))) a b c s = absurd (both _ c s.1)
  step_shut (tried_to_receive (Ok x)) a b c s = (s.0.2.1 ∙ c, refl)
  step_shut (tried_to_receive (Err unreceived.Empty)) a b c s = (shut_stays a b c s.2, refl)
  step_shut (tried_to_receive (Err unreceived.Disconnected)) a b c s = (shut_stays a b c s.2, refl)
  step_shut (asked_to_send ticket x task sending.Sent) a b c s = absurd (both _ c s.0)
  step_shut (asked_to_send ticket x task (sending.Closed y)) a b c s = (s.3.2.1 ∙ c, refl)
  step_shut (asked_to_send ticket x task (sending.Memory y)) a b c s = absurd (both _ c s.1)
  step_shut (asked_to_send ticket x task (sending.Joined t y)) a b c s = absurd (both _ c s.1)
  step_shut (asked_to_send ticket x task (sending.Waits y)) a b c s = absurd (both _ c s.1)
  step_shut (asked_to_receive ticket task (receiving.Received x)) a b c s = (s.0.2.1 ∙ c, refl)
  step_shut (asked_to_receive ticket task receiving.Closed) a b c s = (s.3.2.1 ∙ c, refl)
  step_shut (asked_to_receive ticket task receiving.Memory) a b c s = absurd (both _ c s.0)
  step_shut (asked_to_receive ticket task (receiving.Joined t)) a b c s = absurd (both _ c s.0)
  step_shut (asked_to_receive ticket task receiving.Waits) a b c s = absurd (both _ c s.0)
  step_shut (gave_up_send ticket task) a b c s = (s.1.2.1 ∙ c, refl)
  step_shut (gave_up_receive ticket task) a b c s = (s.1.2.1 ∙ c, refl)
  step_shut closed a b c s = (s.4, refl)
  step_shut (served_sender first) a b c s = (s.3.1 ∙ c, refl)
  step_shut (served_receiver first) a b c s = (s.3.1 ∙ c, refl)

  run_shut : (es : List (Event T)) (a b : Channel T) → a.is_closed ≡ true → Run a es b → (b.is_closed ≡ true) × (sent es ≡ [])
  run_shut [] a b c run = (shut_stays a b c run, refl)
  run_shut (e ∷ es) a b c (m, step, rest) =
      let one : (m.is_closed ≡ true) × (sent_by e ≡ []) = step_shut e a m c step in
      let more : (b.is_closed ≡ true) × (sent es ≡ []) = run_shut es m b one.0 rest in
      (more.0, ap (λ xs. xs ++ sent es) one.1 ∙ more.1)

  pub nothing_after : NothingAfterClose T
  nothing_after es a b c run =
      let shut : (b.is_closed ≡ true) × (sent es ≡ []) = run_shut es a b c run in
      (shut.0, shut.1, in_order es a b run ∙ ap (λ xs. a.queue.items ++ xs) shut.1 ∙ append-nil _)
