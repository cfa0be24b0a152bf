-- The sources of the task that closes sessions in time.
use Rattle.std.specs.Prelude.{◌≡◌, ◌⊎◌, ◌||◌, ℕ, ⊤, Bool, true, Option, Some, None, Result, Ok, Err}
use Rattle.std.specs.List.{list_any}
use Rattle.std.proofs.Common.{◌==◌, inl, inr, sym, ap, ◌∙◌, subst, refl, eq-eqb}
use Rattle.std.specs.declared.alloc.AllocError.{AllocError}
use Rattle.mono_model.specs.Table.{value_at}
use Rattle.mono_model.specs.declared.poll.Poll.{Poll}
use Rattle.mono_model.specs.declared.poll.Poll.TheVariants.{Ready, Pending}
use Rattle.mono_model.specs.declared.error.Error.{Error}
use Rattle.mono_model.specs.declared.error.SleepError.{SleepError}
use Rattle.mono_time.specs.Sleeps.{SleepTable}
use Rattle.mono_time.specs.Futures.{SleepPolls}
use Rattle.mono_time.specs.declared.sleeps.Sleep.{Sleep}
use Rattle.mono_serve.specs.LeaseCalls.{lists_task, is_keeper, standing}
use Rattle.mono_serve.specs.Takes.{deadline_of}
use Rattle.mono_serve.specs.Keepers.{AfterNap, AfterMade, RestsUntil, AfterRest, RestsIn, AfterShown, Keeps, KeeperPolls}
use Rattle.mono_serve.specs.declared.leases.Leases.{Leases}
use Rattle.mono_serve.specs.declared.keepers.Phase.{Phase}
use Rattle.mono_serve.specs.declared.keepers.Phase.TheVariants.{Waits, Sleeps, Over}
use Rattle.mono_wait.specs.Sources.{Source, of_sleep, of_peers, waker_in, own_watcher, woke_heard}
use Rattle.mono_wait.specs.Leaves.{SleepNeeds, sleeps_cover}
use Rattle.mono_wait.specs.Peers.{PeersNeeds}
use Rattle.mono_wait.specs.Moments.{woke_itself, named_heard}
use Rattle.mono_wait.specs.Frames.{Frame, HeardIn, WokeIn, CoversIn, heard_after}

-- The tasks that open sessions, and its sleep if it has one.
abbrev pub KeeperNeeds : Phase → Source → Type 0
KeeperNeeds Waits x = PeersNeeds x
KeeperNeeds (Sleeps sleep) x = PeersNeeds x ⊎ SleepNeeds sleep x
KeeperNeeds Over x = ⊥

no_answer : {Z : Type 0} (z : Z) → Pending ≡ Ready z → ⊥
no_answer z e = cc

keeper_listed : (a : Leases) (task : ℕ) → a.keeper ≡ Some task → lists_task a task ≡ true
keeper_listed a task is = ap (λ k. is_keeper k task || others a task) is ∙ ap (λ b. b || others a task) (eq-eqb task task refl)
  where
    others : Leases → ℕ → Bool
    others a task = list_any (λ w. w.task == task) (standing a)

module _ {C : Type 0} (w : Frame C) (part : C → Leases) (sleeps : C → SleepTable) (nanos : C → ℕ) (names : C → ℕ → Bool)
    (same_number : (a b : C) → w.reaches a b → w.number b ≡ w.number a)
    (watches : (c : C) (s : ℕ) → w.watcher c (of_sleep s) ≡ waker_in (value_at (sleeps c).table s))
    (watches_peers : (c : C) → w.watcher c of_peers ≡ own_watcher (names c (w.number c)) (w.number c))
    (names_part : (c : C) (t : ℕ) → lists_task (part c) t ≡ true → names c t ≡ true)
    -- the contexts at the beginning of the poll and at its end
    (c : C) (d : C) (whole : w.reaches c d) where
  -- the task was the keeper at some moment
  kept_heard : (m : C) → w.reaches c m → w.reaches m d → (part m).keeper ≡ Some (w.number c) → HeardIn w c d of_peers
  kept_heard m before since kept = named_heard w same_number names watches_peers c m d before since (names_part m (w.number c) (keeper_listed (part m) (w.number c) kept))

  after_nap : (answer : Poll (Result ⊤ Error)) (sleep : Sleep) (r m e : C) (g : Phase) → w.reaches c r → (part r).keeper ≡ Some (w.number c) → w.reaches r m → SleepPolls w.number sleeps w.work w.reaches sleep m answer sleep e
      → AfterNap part w.number sleeps w.work w.reaches answer sleep e Pending g d → CoversIn w c d (KeeperNeeds g)
  after_nap (Ready (Ok done)) sleep r m e g before kept more polled rest = record {
    one = inr woke;
    each = λ x needed. woke_heard w.number w.work w.reaches w.watcher c d x woke;
  }
    where
      woke : WokeIn w c d
      woke = woke_itself w same_number c rest.2.middle d (w.on c e rest.2.middle (w.on c m e (w.on c r m before more) polled.reached) rest.2.removed.reached) whole rest.2.woken
  after_nap (Ready (Err error)) sleep r m e g before kept more polled rest = absurd (no_answer _ rest.0)
  after_nap Pending sleep r m e g before kept more polled rest = record {
    one = inl (of_peers, subst (λ h. KeeperNeeds h of_peers) (sym rest.1) (inl refl));
    each = λ x needed. by_need x (subst (λ h. KeeperNeeds h x) rest.1 needed);
  }
    where
      to_end : w.reaches m d
      to_end = subst (w.reaches m) (sym rest.2) polled.reached

      by_peers : HeardIn w c d of_peers
      by_peers = kept_heard r before (w.on r m d more to_end) kept

      by_sleep : (x : Source) → SleepNeeds sleep x → HeardIn w c d x
      by_sleep x needed = heard_after w c m d x (w.on c r m before more)
          (subst (λ y. HeardIn w m y x) (sym rest.2) ((sleeps_cover w.number sleeps w.work w.reaches w.watcher w.itself same_number watches sleep m sleep e polled).each x needed))

      by_need : (x : Source) → KeeperNeeds (Sleeps sleep) x → HeardIn w c d x
      by_need x (inl peers) = subst (HeardIn w c d) (sym peers) by_peers
      by_need x (inr nap) = by_sleep x nap

  after_made : (made : Result Sleep SleepError) (r m : C) (g : Phase) → w.reaches c r → (part r).keeper ≡ Some (w.number c) → w.reaches r m → AfterMade part w.number sleeps w.work w.reaches made m Pending g d → CoversIn w c d (KeeperNeeds g)
  after_made (Ok sleep) r m g before kept more q = after_nap q.answer sleep r m q.middle g before kept more q.polled q.rest
  after_made (Err error) r m g before kept more q = absurd (no_answer _ q.0)

  rests_until : (deadline : Option ℕ) (r : C) (g : Phase) → w.reaches c r → (part r).keeper ≡ Some (w.number c) → RestsUntil part w.number sleeps w.work w.reaches deadline r Pending g d → CoversIn w c d (KeeperNeeds g)
  rests_until None r g before kept q = absurd (no_answer _ q.0)
  rests_until (Some deadline) r g before kept q = after_made q.made r q.middle g before kept q.reached q.rest

  after_rest : (tick : Option ℕ) (r : C) (g : Phase) → w.reaches c r → (part r).keeper ≡ Some (w.number c) → AfterRest part w.number sleeps w.work w.reaches tick r Pending g d → CoversIn w c d (KeeperNeeds g)
  after_rest None r g before kept q = record {
    one = inl (of_peers, subst (λ h. KeeperNeeds h of_peers) (sym q.1) refl);
    each = λ x needed. subst (HeardIn w c d) (sym (subst (λ h. KeeperNeeds h x) q.1 needed)) by_peers;
  }
    where
      by_peers : HeardIn w c d of_peers
      by_peers = kept_heard r before (subst (w.reaches r) (sym q.2) (w.itself r)) kept
  after_rest (Some tick) r g before kept q = rests_until (deadline_of tick) r g before kept q

  rests_in : (a : C) (g : Phase) → w.reaches c a → RestsIn part w.number sleeps w.work w.reaches a Pending g d → CoversIn w c d (KeeperNeeds g)
  rests_in a g before q = after_rest q.tick q.middle g (w.on c a q.middle before q.reached) (q.rests.1 ∙ ap Some (same_number c a before)) q.rest

  after_shown : (answer : Result ⊤ AllocError) (a : C) (g : Phase) → w.reaches c a → AfterShown part w.number nanos sleeps w.work w.reaches answer a Pending g d → CoversIn w c d (KeeperNeeds g)
  after_shown (Err lack) a g before q = absurd (no_answer _ q.0)
  after_shown (Ok done) a g before q = rests_in a g before q

  keeps : (a : C) (g : Phase) → w.reaches c a → Keeps part w.number nanos sleeps w.work w.reaches a Pending g d → CoversIn w c d (KeeperNeeds g)
  keeps a g before q = after_shown q.answer q.middle g (w.on c a q.middle before q.reached) q.rest

  -- once pending, the task is the keeper, or was woken
  pub keepers_cover : (f g : Phase) → KeeperPolls part w.number nanos sleeps w.work w.reaches f c Pending g d → CoversIn w c d (KeeperNeeds g)
  keepers_cover Waits g q = keeps c g (w.itself c) q
  keepers_cover (Sleeps sleep) g q = keeps q.0 g q.1.reached q.2
  keepers_cover Over g q = absurd q
