-- A pending future that waits for a message stands in the line of the mailboxes with the running task.
use Rattle.std.specs.Prelude.{◌≡◌, ◌==◌, ◌&&◌, ◌||◌, ℕ, Bool, true, false, MatchBool, List, [], ◌∷◌, Option, Some, None, Result, Ok, Err}
use Rattle.std.proofs.Common.{ap, ◌∙◌, refl}
use Rattle.mono_model.specs.declared.poll.Poll.TheVariants.{Ready, Pending}
use Rattle.mono_actor.specs.declared.answers.ActorError.{ActorError}
use Rattle.mono_serve.specs.MailCalls.{is_there, has_actor, has_task, lists_task, GivesUp, Joins, AfterTake, Asks, Collects, Fresh, Returns, Receives}
use Rattle.mono_serve.specs.Mail.{AfterReceive, ReceivePolls}
use Rattle.mono_serve.specs.declared.mailboxes.Receiver.{Receiver}
use Rattle.mono_serve.specs.declared.mailboxes.Received.{Received}
use Rattle.mono_serve.specs.declared.mailboxes.Received.TheVariants as receive
use Rattle.mono_serve.specs.declared.mailboxes.Mailboxes.{Mailboxes}
use Rattle.mono_wait.specs.Sources.{of_peers, own_watcher}
use Rattle.mono_wait.specs.Peers.{PeersNeeds, peers_cover}
use Rattle.mono_wait.specs.Places.{last_has}
use Rattle.mono_wait.specs.Standings.{false-true, or_right, or_left}
use Rattle.mono_wait.specs.Frames.{Frame, CoversIn}

no_answer : {Z : Type 0} (z : Z) → Pending ≡ Ready z → ⊥
no_answer z e = cc

there_named : (ws : List Receiver) (ticket actor task : ℕ) → is_there ws ticket actor task ≡ true → has_task ws task ≡ true
there_named [] ticket actor task is = absurd (false-true is)
there_named (w ∷ ws) ticket actor task is = by_first ((w.ticket == ticket) && (w.actor == actor)) (w.task == task) is (there_named ws ticket actor task)
  where
    by_first : (b c : Bool) → ((b && c) || is_there ws ticket actor task) ≡ true → (is_there ws ticket actor task ≡ true → has_task ws task ≡ true) → (c || has_task ws task) ≡ true
    by_first true true all later = refl
    by_first true false all later = later all
    by_first false c all later = or_right c _ (later all)

module _ {M : Type 0} (actor task t : ℕ) where
  joined : (a b : Mailboxes M) → Joins a actor task (receive.Waits t) b → has_task b.waiters.items task ≡ true
  joined a b p = ap (λ ws. has_task ws task) p.1 ∙ last_has (λ (w : Receiver). w.task) task a.waiters.items (record { ticket = a.next; actor = actor; task = task }) refl

  after_take : (r : Result (Option (ℕ × M)) ActorError) (a b : Mailboxes M) → AfterTake r a actor task (receive.Waits t) b → has_task b.waiters.items task ≡ true
  after_take (Ok (Some (from, message))) a b p = absurd (cc)
  after_take (Ok None) a b p = joined a b p
  after_take (Err error) a b p = absurd (cc)

  fresh : (c : Bool) (a b : Mailboxes M) → MatchBool c (Joins a actor task (receive.Waits t) b) (Asks a actor task (receive.Waits t) b) → has_task b.waiters.items task ≡ true
  fresh true a b p = joined a b p
  fresh false a b (taken, m, takes, after) = after_take taken m b after

  returned : (c : Bool) (ticket : ℕ) (a b : Mailboxes M) → MatchBool c (Collects a ticket actor task (receive.Waits t) b) ((m : Mailboxes M) × GivesUp a ticket task m × Fresh m actor task (receive.Waits t) b) → has_task b.waiters.items task ≡ true
  returned true ticket a b (taken, m, n, takes, leaves, after) = after_take taken n b after
  returned false ticket a b (m, leaves, asks) = fresh (has_actor m.waiters.items actor || has_actor m.called.items actor) m b asks

  stays : (told : Type 0) (c : Bool) (ticket : ℕ) (a b : Mailboxes M) → is_there a.waiters.items ticket actor task ≡ c → MatchBool c (told × (b ≡ a)) (Returns a ticket actor task (receive.Waits t) b) → has_task b.waiters.items task ≡ true
  stays told true ticket a b is (drawn, same) = ap (λ x. has_task x.waiters.items task) same ∙ there_named a.waiters.items ticket actor task is
  stays told false ticket a b is p = returned (is_there a.called.items ticket actor task) ticket a b p

  waits_in_line : (ticket : Option ℕ) (a b : Mailboxes M) → Receives a ticket actor task (receive.Waits t) b → has_task b.waiters.items task ≡ true
  waits_in_line None a b p = fresh (has_actor a.waiters.items actor || has_actor a.called.items actor) a b p
  waits_in_line (Some ticket) a b p = stays _ (is_there a.waiters.items ticket actor task) ticket a b refl p

module _ {M C : Type 0} (w : Frame C) (part : C → Mailboxes M) (names : C → ℕ → Bool) (same_number : (a b : C) → w.reaches a b → w.number b ≡ w.number a)
    (watches_peers : (c : C) → w.watcher c of_peers ≡ own_watcher (names c (w.number c)) (w.number c))
    (names_part : (c : C) (t : ℕ) → lists_task (part c) t ≡ true → names c t ≡ true) where
  receive_listed : (c d : C) (ticket : Option ℕ) (actor : ℕ) (answer : Received M) (left : Option ℕ) → Receives (part c) ticket actor (w.number c) answer (part d) → AfterReceive part w.number w.work answer Pending left
      → lists_task (part d) (w.number c) ≡ true
  receive_listed c d ticket actor (receive.Got from message) left q after = absurd (no_answer _ after.0)
  receive_listed c d ticket actor (receive.Refused error) left q after = absurd (no_answer _ after.0)
  receive_listed c d ticket actor (receive.Waits t) left q after = or_left (has_task (part d).waiters.items (w.number c)) _ (waits_in_line actor (w.number c) t ticket (part c) (part d) q)

  -- once pending, the task is in the mailboxes' line
  pub receives_cover : (ticket : Option ℕ) (actor : ℕ) (c : C) (left : Option ℕ) (d : C) → w.reaches c d → ReceivePolls part w.number w.work ticket actor c Pending left d → CoversIn w c d PeersNeeds
  receives_cover ticket actor c left d reached p =
      peers_cover w.number w.work w.reaches w.watcher w.itself same_number names watches_peers c d reached (names_part d (w.number c) (receive_listed c d ticket actor p.answer left p.receives p.rest))
