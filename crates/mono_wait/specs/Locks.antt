-- A pending future that waits for a key stands in the leases with the running task.
use Rattle.std.specs.Prelude.{◌≡◌, ◌==◌, ◌&&◌, ◌||◌, ℕ, Bool, true, false, MatchBool, List, [], ◌∷◌, ◌++◌, Option, Some, None, Ok}
use Rattle.std.specs.List.{list_any, remove}
use Rattle.std.proofs.Common.{inl, inr, ap, ◌∙◌, refl}
use Rattle.mono_model.specs.declared.poll.Poll.TheVariants.{Ready, Pending}
use Rattle.mono_serve.specs.LeaseCalls.{is_keeper, is_there, lists_task, standing, SameLine, Joins, LineJoins, Claims, Looks, ServesAt, ServesAll, Settles, Then}
use Rattle.mono_serve.specs.Locks.{AfterClaim, AfterLook, AcquirePolls}
use Rattle.mono_serve.specs.declared.leases.LockWaiter.{LockWaiter}
use Rattle.mono_serve.specs.declared.leases.Leases.{Leases}
use Rattle.mono_serve.specs.declared.leases.Claimed.{Claimed}
use Rattle.mono_serve.specs.declared.leases.Claimed.TheVariants as claim
use Rattle.mono_serve.specs.declared.leases.Looked.{Looked}
use Rattle.mono_serve.specs.declared.leases.Looked.TheVariants as look
use Rattle.mono_wait.specs.Sources.{of_peers, own_watcher}
use Rattle.mono_wait.specs.Peers.{PeersNeeds, peers_cover}
use Rattle.mono_wait.specs.Places.{last_has}
use Rattle.mono_wait.specs.Standings.{false-true, or_right, or_left, any_first, any_second, any_split, any_removed}
use Rattle.mono_wait.specs.Frames.{Frame, CoversIn}

no_answer : {Z : Type 0} (z : Z) → Pending ≡ Ready z → ⊥
no_answer z e = cc

-- a task in the line, also if it is due from then on
module _ (f : LockWaiter → Bool) where
  same_standing : (a b : Leases) → SameLine a b → list_any f (standing a) ≡ true → list_any f (standing b) ≡ true
  same_standing a b (line, next, due) any = ap (λ ws. list_any f (ws ++ b.due.items)) line ∙ ap (λ us. list_any f (a.waiters.items ++ us)) due ∙ any

  served_at : (place : Option ℕ) (a b : Leases) (task : Option ℕ) → ServesAt place a task b → list_any f (standing a) ≡ true → list_any f (standing b) ≡ true
  served_at None a b task (none, line, due) any = ap (λ ws. list_any f (ws ++ b.due.items)) line ∙ ap (λ us. list_any f (a.waiters.items ++ us)) due ∙ any
  served_at (Some i) a b task (w, is, told, line, due) any = ap (λ ws. list_any f (ws ++ b.due.items)) line ∙ ap (λ us. list_any f (remove a.waiters.items i ++ us)) due ∙ moved
    where
      moved : list_any f (remove a.waiters.items i ++ (a.due.items ++ w ∷ [])) ≡ true
      moved = elim (any_split f a.waiters.items a.due.items any) [
        | inl waits ↦ elim (any_removed f a.waiters.items i w is waits) [
          | inl stays ↦ any_first f (remove a.waiters.items i) (a.due.items ++ w ∷ []) stays
          | inr one ↦ any_second f (remove a.waiters.items i) (a.due.items ++ w ∷ []) (any_second f a.due.items (w ∷ []) (or_left (f w) false one))
        ]
        | inr owed ↦ any_second f (remove a.waiters.items i) (a.due.items ++ w ∷ []) (any_first f a.due.items (w ∷ []) owed)
      ]

  served_all : (tasks : List ℕ) (a b : Leases) → ServesAll a tasks b → list_any f (standing a) ≡ true → list_any f (standing b) ≡ true
  served_all [] a b s any = served_at s.0 a b None s.2 any
  served_all (task ∷ tasks) a b (m, one, rest) any = served_all tasks m b rest (served_at one.0 a m (Some task) one.2 any)

  settled : (a b : Leases) → Settles a b → list_any f (standing a) ≡ true → list_any f (standing b) ≡ true
  settled a b (m, (tasks, served), (next, keeper, alarm, sessions, same)) any = same_standing m b same (served_all tasks a m served any)

there_named : (ws : List LockWaiter) (ticket task : ℕ) → is_there ws ticket task ≡ true → list_any (λ w. w.task == task) ws ≡ true
there_named [] ticket task is = absurd (false-true is)
there_named (w ∷ ws) ticket task is = by_first (w.ticket == ticket) (w.task == task) is (there_named ws ticket task)
  where
    by_first : (b c : Bool) → ((b && c) || is_there ws ticket task) ≡ true → (is_there ws ticket task ≡ true → list_any (λ v. v.task == task) ws ≡ true) → (c || list_any (λ v. v.task == task) ws) ≡ true
    by_first true true all later = refl
    by_first true false all later = later all
    by_first false c all later = or_right c _ (later all)

module _ (a m b : Leases) (s key task : ℕ) (settles : Settles m b) where
  in_leases : list_any (λ w. w.task == task) (standing m) ≡ true → lists_task b task ≡ true
  in_leases is = or_right (is_keeper b.keeper task) (list_any (λ w. w.task == task) (standing b)) (settled (λ w. w.task == task) m b settles is)

  at_end : (ticket : ℕ) → m.waiters.items ≡ a.waiters.items ++ record { ticket = ticket; session = s; key = key; task = task } ∷ [] → lists_task b task ≡ true
  at_end ticket line =
      in_leases (ap (λ ws. list_any (λ w. w.task == task) (ws ++ m.due.items)) line
      ∙ any_first (λ w. w.task == task) (a.waiters.items ++ record { ticket = ticket; session = s; key = key; task = task } ∷ []) m.due.items
      (last_has (λ (w : LockWaiter). w.task) task a.waiters.items (record { ticket = ticket; session = s; key = key; task = task }) refl))

  joined : (ticket : ℕ) → Joins a s key task (claim.Waits ticket) m → lists_task b task ≡ true
  joined ticket (drawn, line, next, due) = at_end a.next line

  stayed : (ticket t : ℕ) (c : Bool) → is_there a.waiters.items ticket task ≡ c → MatchBool c ((t ≡ ticket) × SameLine a m) (LineJoins a s key task (Ok t) m) → lists_task b task ≡ true
  stayed ticket t true is (drawn, same) = in_leases (same_standing (λ w. w.task == task) a m same (any_first (λ w. w.task == task) a.waiters.items a.due.items (there_named a.waiters.items ticket task is)))
  stayed ticket t false is (drawn, line, next, due) = at_end a.next line

module _ {C : Type 0} (w : Frame C) (part : C → Leases) (nanos : C → ℕ) (names : C → ℕ → Bool) (same_number : (a b : C) → w.reaches a b → w.number b ≡ w.number a)
    (watches_peers : (c : C) → w.watcher c of_peers ≡ own_watcher (names c (w.number c)) (w.number c))
    (names_part : (c : C) (t : ℕ) → lists_task (part c) t ≡ true → names c t ≡ true) where
  claim_listed : (c d : C) (s key : ℕ) (answer : Claimed) (left : Option ℕ) → Then (Claims (part c) (nanos c) s key (w.number c) answer) (part d) → AfterClaim part w.number nanos w.work answer Pending left
      → lists_task (part d) (w.number c) ≡ true
  claim_listed c d s key claim.Held left q after = absurd (no_answer _ after.0)
  claim_listed c d s key (claim.Refused refusal) left q after = absurd (no_answer _ after.0)
  claim_listed c d s key (claim.Waits ticket) left (m, (moves, joins, rest), settles) after = joined (part c) m (part d) s key (w.number c) settles ticket joins

  look_listed : (c d : C) (ticket s key : ℕ) (answer : Looked) (left : Option ℕ) → Then (Looks (part c) (nanos c) ticket s key (w.number c) answer) (part d) → AfterLook part w.number nanos w.work answer Pending left
      → lists_task (part d) (w.number c) ≡ true
  look_listed c d ticket s key look.Held left q after = absurd (no_answer _ after.0)
  look_listed c d ticket s key look.Lost left q after = absurd (no_answer _ after.0)
  look_listed c d ticket s key look.Memory left q after = absurd (no_answer _ after.0)
  look_listed c d ticket s key (look.Waits t) left (m, (moves, stays, rest), settles) after =
      stayed (part c) m (part d) s key (w.number c) settles ticket t (is_there (part c).waiters.items ticket (w.number c)) refl stays

  -- once pending, the task is in the leases' line, or is owed a wake
  pub locks_cover : (ticket : Option ℕ) (s key : ℕ) (c : C) (left : Option ℕ) (d : C) → w.reaches c d → AcquirePolls part w.number nanos w.work ticket s key c Pending left d → CoversIn w c d PeersNeeds
  locks_cover None s key c left d reached p =
      peers_cover w.number w.work w.reaches w.watcher w.itself same_number names watches_peers c d reached (names_part d (w.number c) (claim_listed c d s key p.answer left p.claims p.rest))
  locks_cover (Some ticket) s key c left d reached p =
      peers_cover w.number w.work w.reaches w.watcher w.itself same_number names watches_peers c d reached (names_part d (w.number c) (look_listed c d ticket s key p.answer left p.looks p.rest))
