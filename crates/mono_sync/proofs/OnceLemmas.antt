-- The message of a oneshot channel comes out once.
use Rattle.std.proofs.Common.{◌≡◌, ◌≤◌, Bool, true, false, List, [], ◌∷◌, ◌++◌, length, Option, Some, None, Ok, Err, refl, sym, ◌∙◌, ap, append_assoc, append-nil, subst, arith}
use Rattle.mono_sync.specs.declared.oneshot.Oneshot.{Oneshot}
use Rattle.mono_sync.specs.declared.oneshot.TryRecvError.TheVariants as unreceived
use Rattle.mono_sync.specs.declared.oneshot.Receiving.TheVariants as receiving
use Rattle.mono_sync.specs.Runs.{Run}
use Rattle.mono_sync.specs.OneshotRuns.{Event, sent, tried, asked, closed, gave_up, served, Step, held, sent_by, all_sent, received_by, all_received}
use Rattle.mono_sync.specs.Laws.{ReceivedOnce}

both : (b : Bool) → b ≡ true → b ≡ false → ⊥
both b p q = cc

module _ {T : Type 0} where
  abbrev Fits : Oneshot T → Type 0
  Fits a = a.is_closed ≡ false → a.message ≡ None

  -- What the call received and what is held then are what was held before and what it sent.
  record Moves (e : Event T) (a b : Oneshot T) : Type 0 where
    moves : received_by e ++ held b.message ≡ held a.message ++ sent_by e
    fits : Fits b

  stays : (m n : Option T) → n ≡ m → [] ++ held n ≡ held m ++ []
  stays m n same = ap held same ∙ sym (append-nil (held m))

  comes_out : (x : T) (m n : Option T) → m ≡ Some x → n ≡ None → (x ∷ []) ++ held n ≡ held m ++ []
  comes_out x m n p q = ap (λ k. (x ∷ []) ++ held k) q ∙ sym (ap held p) ∙ sym (append-nil (held m))

  goes_in : (x : T) (m n : Option T) → m ≡ None → n ≡ Some x → [] ++ held n ≡ held m ++ x ∷ []
  goes_in x m n p q = ap held q ∙ sym (ap (λ k. held k ++ x ∷ []) p)

  still : (a b : Oneshot T) → Fits a → b.message ≡ a.message → b.is_closed ≡ a.is_closed → Fits b
  still a b f m c is_open = m ∙ f (sym c ∙ is_open)

  step_moves : (e : Event T) (a b : Oneshot T) → Fits a → Step a e b → Moves e a b
  step_moves (sent x (Ok done)) a b f s = record { moves = goes_in x _ _ (f s.0) s.1; fits = λ is_open. absurd (both _ s.3 is_open) }
  step_moves (sent x (Err y)) a b f s = record { moves = stays _ _ (ap (λ o. o.message) s.2); fits = λ is_open. absurd (both _ (ap (λ o. o.is_closed) s.2 ∙ s.0) is_open) }
  step_moves (tried (Ok x)) a b f s = record { moves = comes_out x _ _ s.0 s.2; fits = λ is_open. s.2 }
  step_moves (tried (Err unreceived.Empty)) a b f s = record { moves = stays _ _ (ap (λ o. o.message) s.2); fits = still a b f (ap (λ o. o.message) s.2) (ap (λ o. o.is_closed) s.2) }
  step_moves (tried (Err unreceived.Closed)) a b f s = record { moves = stays _ _ (ap (λ o. o.message) s.1); fits = still a b f (ap (λ o. o.message) s.1) (ap (λ o. o.is_closed) s.1) }
  step_moves (asked ticket task (receiving.Received x)) a b f s = record { moves = comes_out x _ _ s.0 s.1; fits = λ is_open. s.1 }
  step_moves (asked ticket task receiving.Closed) a b f s = record { moves = stays _ _ s.2.0; fits = still a b f s.2.0 s.2.1 }
  step_moves (asked ticket task receiving.Waits) a b f s = record { moves = stays _ _ s.2.0; fits = still a b f s.2.0 s.2.1 }
  step_moves (asked ticket task receiving.Taken) a b f s = record { moves = stays _ _ s.3.0; fits = still a b f s.3.0 s.3.1 }
  step_moves (asked ticket task (receiving.Joined t)) a b f s = record { moves = stays _ _ s.2.0; fits = still a b f s.2.0 s.2.1 }
  step_moves (asked ticket task receiving.Memory) a b f s = record { moves = stays _ _ s.2.0; fits = still a b f s.2.0 s.2.1 }
  step_moves closed a b f s = record { moves = stays _ _ s.1; fits = λ is_open. absurd (both _ s.0 is_open) }
  step_moves (gave_up ticket task) a b f s = record { moves = stays _ _ s.1.0; fits = still a b f s.1.0 s.1.1 }
  step_moves (served first) a b f s = record { moves = stays _ _ s.1.0; fits = still a b f s.1.0 s.1.1 }

  joined : (r rs b m a s ss : List T) → r ++ m ≡ a ++ s → rs ++ b ≡ m ++ ss → (r ++ rs) ++ b ≡ a ++ (s ++ ss)
  joined r rs b m a s ss one rest =
      append_assoc r rs b ∙ ap (λ xs. r ++ xs) rest ∙ sym (append_assoc r m ss) ∙ ap (λ xs. xs ++ ss) one ∙ append_assoc a s ss

  run_moves : (es : List (Event T)) (a b : Oneshot T) → Fits a → Run Step a es b → all_received es ++ held b.message ≡ held a.message ++ all_sent es
  run_moves [] a b f run = stays _ _ (ap (λ o. o.message) run)
  run_moves (e ∷ es) a b f (m, step, rest) =
      let one : Moves e a m = step_moves e a m f step in
      joined (received_by e) (all_received es) _ _ _ (sent_by e) (all_sent es) one.moves (run_moves es m b one.fits rest)

  step_shut : (e : Event T) (a b : Oneshot T) → a.is_closed ≡ true → Step a e b → (b.is_closed ≡ true) × (sent_by e ≡ [])
  step_shut (sent x (Ok done)) a b c s = absurd (both _ c s.0)
  step_shut (sent x (Err y)) a b c s = (ap (λ o. o.is_closed) s.2 ∙ c, refl)
  step_shut (tried (Ok x)) a b c s = (s.4 ∙ c, refl)
  step_shut (tried (Err unreceived.Empty)) a b c s = (ap (λ o. o.is_closed) s.2 ∙ c, refl)
  step_shut (tried (Err unreceived.Closed)) a b c s = (ap (λ o. o.is_closed) s.1 ∙ c, refl)
  step_shut (asked ticket task (receiving.Received x)) a b c s = (s.3 ∙ c, refl)
  step_shut (asked ticket task receiving.Closed) a b c s = (s.2.1 ∙ c, refl)
  step_shut (asked ticket task receiving.Waits) a b c s = (s.2.1 ∙ c, refl)
  step_shut (asked ticket task receiving.Taken) a b c s = (s.3.1 ∙ c, refl)
  step_shut (asked ticket task (receiving.Joined t)) a b c s = (s.2.1 ∙ c, refl)
  step_shut (asked ticket task receiving.Memory) a b c s = (s.2.1 ∙ c, refl)
  step_shut closed a b c s = (s.0, refl)
  step_shut (gave_up ticket task) a b c s = (s.1.1 ∙ c, refl)
  step_shut (served first) a b c s = (s.1.1 ∙ c, refl)

  run_shut : (es : List (Event T)) (a b : Oneshot T) → a.is_closed ≡ true → Run Step a es b → all_sent es ≡ []
  run_shut [] a b c run = refl
  run_shut (e ∷ es) a b c (m, step, rest) =
      let one : (m.is_closed ≡ true) × (sent_by e ≡ []) = step_shut e a m c step in
      ap (λ xs. xs ++ all_sent es) one.1 ∙ run_shut es m b one.0 rest

  run_single : (es : List (Event T)) (a b : Oneshot T) → Run Step a es b → length (all_sent es) ≤ 1
  run_single [] a b run = omega arith
  run_single (sent x (Ok done) ∷ es) a b (m, step, rest) = subst (λ xs. length (x ∷ xs) ≤ 1) (sym (run_shut es m b step.3 rest)) (omega arith)
  run_single (sent x (Err y) ∷ es) a b (m, step, rest) = run_single es m b rest
  run_single (tried r ∷ es) a b (m, step, rest) = run_single es m b rest
  run_single (asked ticket task r ∷ es) a b (m, step, rest) = run_single es m b rest
  run_single (closed ∷ es) a b (m, step, rest) = run_single es m b rest
  run_single (gave_up ticket task ∷ es) a b (m, step, rest) = run_single es m b rest
  run_single (served first ∷ es) a b (m, step, rest) = run_single es m b rest

  pub once : ReceivedOnce T
  once es a b f run = (run_moves es a b f run, run_single es a b run, λ c. run_shut es a b c run)
