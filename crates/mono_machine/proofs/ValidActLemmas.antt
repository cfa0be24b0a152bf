-- Each act and each poll leaves a valid machine.
use Rattle.std.proofs.Common.{◌≡◌, ◌<◌, ◌≤◌, ◌⊎◌, inl, inr, ℕ, true, false, Bool, cond, length, Some, None, Option, refl, ap, sym, ◌∙◌, arith}
use Rattle.std.specs.Prelude.{nat_lt, nat_le}
use Rattle.std.proofs.lemmas.Bool.Decides.{leb_tells}
use Rattle.std.proofs.lemmas.List.{length-append, get_or_past}
use Rattle.std.proofs.lemmas.Bool.{cases_lt}
use Rattle.mono_model.specs.Ticks.{max_nanos, up}
use Rattle.mono_model.specs.Table.{value_at, next_number, is_full}
use Rattle.mono_model.specs.Tasks.{spawned, woken, woken_if_any}
use Rattle.mono_model.specs.Sleeps.{Sleep, Arming, fresh, armed, elapsed, with_sleep, without_sleep, armed_anew, after_arming}
use Rattle.mono_model.specs.Valid.{AreValidSleeps, is_running, of_task}
use Rattle.mono_model.proofs.ValidTaskLemmas.{valid_woken, valid_woken_if_any, next_number-woken, next_number-woken_if_any, valid_spawned}
use Rattle.mono_model.proofs.ValidSleepLemmas.{valid_elapsed, valid_same_arm, valid_anew, valid_armed, valid_gone, valid_next_sleep, at_armed}
use Rattle.mono_model.specs.SleepAnswers.{waker_in}
use Rattle.mono_model.specs.SleepActs as sleep
use Rattle.mono_machine.specs.Machine.{Machine, with_sleeps, IsValidDuring}
use Rattle.mono_machine.specs.Acts.{Outcome, for_sleep, reset, act_outcome, query_outcome, step_outcome}
use Rattle.mono_machine.specs.declared.events.Act.{Act}
use Rattle.mono_machine.specs.declared.events.Act.TheVariants as act
use Rattle.mono_machine.specs.declared.events.Query.{Query}
use Rattle.mono_machine.specs.declared.events.Query.TheVariants as query
use Rattle.mono_machine.specs.declared.events.TurnStep.{TurnStep}
use Rattle.mono_machine.specs.declared.events.TurnStep.TheVariants as step
use Rattle.mono_model.specs.Joins.{join_dropped, joined}
use Rattle.mono_machine.proofs.ValidPartLemmas.{room, other_tasks, other_sleeps, other_jobs}
use Rattle.mono_machine.proofs.ValidJobLemmas.{valid_dropped, valid_ended, valid_polled, block_valid}
use Rattle.mono_machine.proofs.ValidJoinLemmas.{valid_join_dropped, valid_joined, next_number-join_dropped, next_number-joined}

-- a test with its outcome
by_test : (turn : Option ℕ) (b : Bool) (x y : Outcome) → (b ≡ true → IsValidDuring turn x.machine) → (b ≡ false → IsValidDuring turn y.machine) → IsValidDuring turn (cond b x y).machine
by_test turn true x y at_true at_false = at_true refl
by_test turn false x y at_true at_false = at_false refl

module _ (turn : Option ℕ) (m : Machine) (valid : IsValidDuring turn m) where
  abbrev next : ℕ
  next = next_number m.tasks.table

  reset_value : (s n : ℕ) (v : Option Sleep) → value_at m.sleeps.table s ≡ v → AreValidSleeps next (sleep.if_live v m.sleeps (λ value. after_arming value m.sleeps s (up n)))
  reset_value s n None at = valid.sleeps
  reset_value s n (Some value) at = valid_armed next m.sleeps valid.sleeps s value (up n) at

  removed_value : (s : ℕ) (v : Option Sleep) → value_at m.sleeps.table s ≡ v → AreValidSleeps next (sleep.if_live v m.sleeps (λ value. without_sleep m.sleeps s))
  removed_value s None at = valid.sleeps
  removed_value s (Some value) at = valid_gone next m.sleeps valid.sleeps s value at

  reset_valid : (s n : ℕ) → IsValidDuring turn (reset s n m).machine
  reset_valid s n =
      let w : Option ℕ = waker_in (sleep.reset_answer m.sleeps s n) in
      other_tasks turn turn (with_sleeps m (sleep.reset m.sleeps s n)) (woken_if_any m.tasks w)
      (other_sleeps turn m (sleep.reset m.sleeps s n) valid (reset_value s n (value_at m.sleeps.table s) refl))
      (valid_woken_if_any turn m.tasks w valid.tasks) (omega (arith, next_number-woken_if_any m.tasks w))

  of_sleep : (v : Option Sleep) (outcome : Outcome) → IsValidDuring turn outcome.machine → IsValidDuring turn (for_sleep v m outcome).machine
  of_sleep None outcome is = valid
  of_sleep (Some value) outcome is = is

  pub act_valid : (a : Act) → IsValidDuring turn (act_outcome a m).machine
  act_valid act.Spawn = by_test turn (is_full m.tasks.table m.tasks.limit) _ _ (λ full. valid)
      (λ free. other_tasks turn turn m (spawned m.tasks) valid (valid_spawned turn m.tasks (room m.tasks.table m.tasks.limit free) valid.tasks) (rw length-append (omega arith)))
  act_valid (act.Wake t) = other_tasks turn turn m (woken m.tasks t) valid (valid_woken turn m.tasks t valid.tasks) (omega (arith, next_number-woken m.tasks t))
  act_valid (act.NewSleep n) = by_test turn (is_full m.sleeps.table m.sleeps.limit) _ _ (λ full. valid)
      (λ free. by_test turn (nat_lt max_nanos n) _ _ (λ late. valid)
      (λ early. other_sleeps turn m _ valid (valid_next_sleep (next_number m.tasks.table) m.sleeps n (room m.sleeps.table m.sleeps.limit free) valid.sleeps)))
  act_valid (act.Reset s n) = of_sleep (value_at m.sleeps.table s) _ (by_test turn (nat_lt max_nanos n) _ _ (λ late. valid) (λ early. reset_valid s n))
  act_valid (act.DropSleep s) = other_sleeps turn m (sleep.removed m.sleeps s) valid (removed_value s (value_at m.sleeps.table s) refl)
  act_valid (act.DropJoin t) = other_tasks turn turn m (join_dropped m.tasks t) valid (valid_join_dropped turn m.tasks t valid.tasks) (omega (arith, next_number-join_dropped m.tasks t))
  act_valid (act.Block output) = by_test turn (is_full m.jobs.table m.jobs.limit) _ _ (λ full. valid) (λ free. block_valid turn m valid m.strategy output (room m.jobs.table m.jobs.limit free))
  act_valid (act.DropJob j) = other_jobs turn m _ valid (valid_dropped (next_number m.tasks.table) m.jobs j valid.jobs)
  act_valid (act.Finished t) = valid
  act_valid (act.JobFinished j) = valid
  act_valid (act.SleepElapsed s) = valid
  act_valid (act.JobEnd j h) = other_jobs turn m _ valid (valid_ended (next_number m.tasks.table) m.jobs j valid.jobs h)

false-true : false ≡ true → ⊥
false-true e = cc

-- the running task was given out
given : (turn : Option ℕ) (m : Machine) (me : ℕ) → IsValidDuring turn m → turn ≡ Some me → me < next_number m.tasks.table
given turn m me valid is = elim (cases_lt me (length m.tasks.table)) [
  | inl inside ↦ inside
  | inr past ↦ absurd (false-true (sym (ap (of_task is_running) (get_or_past m.tasks.table me None past)) ∙ valid.tasks.has_turn me is))
]

module _ (me : ℕ) (m : Machine) (valid : IsValidDuring (Some me) m) where
  me_given : me < next_number m.tasks.table
  me_given = given (Some me) m me valid refl

  poll_by : (s n : ℕ) (b : Bool) → nat_le (up n) m.sleeps.greatest ≡ b → value_at m.sleeps.table s ≡ Some (fresh n) → AreValidSleeps (next_number m.tasks.table) (cond b (with_sleep m.sleeps s elapsed) (armed_anew m.sleeps s (up n) (Some me)))
  poll_by s n true is at = valid_elapsed _ m.sleeps valid.sleeps s (fresh n) at
  poll_by s n false is at = valid_anew _ m.sleeps valid.sleeps s (fresh n) (up n) (Some me) at (below (leb_tells (up n) m.sleeps.greatest)) me_given
    where
      below : ((nat_le (up n) m.sleeps.greatest ≡ true) × (up n ≤ m.sleeps.greatest)) ⊎ ((nat_le (up n) m.sleeps.greatest ≡ false) × (m.sleeps.greatest < up n)) → m.sleeps.greatest < up n
      below (inl t) = absurd (false-true (sym is ∙ t.0))
      below (inr t) = t.1

  poll_value : (s : ℕ) (v : Option Sleep) → value_at m.sleeps.table s ≡ v → AreValidSleeps (next_number m.tasks.table) (sleep.if_live v m.sleeps (λ value. sleep.after_poll value m.sleeps s me))
  poll_value s None at = valid.sleeps
  poll_value s (Some (fresh n)) at = poll_by s n (nat_le (up n) m.sleeps.greatest) refl at
  poll_value s (Some (armed a)) at =
      let new : Arming = record { tick = a.tick; arm = a.arm; is_moved = a.is_moved; waker = Some me } in
      valid_same_arm _ m.sleeps valid.sleeps s a new at refl (at_armed _ m.sleeps valid.sleeps s a at).0 me_given
  poll_value s (Some elapsed) at = valid.sleeps

  pub query_valid : (q : Query) → IsValidDuring (Some me) (query_outcome me q m).machine
  query_valid (query.Sleep s) = other_sleeps (Some me) m (sleep.polled m.sleeps s me) valid (poll_value s (value_at m.sleeps.table s) refl)
  query_valid (query.Join t) = other_tasks (Some me) (Some me) m (joined m.tasks t me) valid (valid_joined (Some me) m.tasks t valid.tasks me me_given) (omega (arith, next_number-joined m.tasks t me))
  query_valid (query.Job j) = other_jobs (Some me) m _ valid (valid_polled (next_number m.tasks.table) m.jobs j valid.jobs me me_given)

  pub step_valid : (s : TurnStep) → IsValidDuring (Some me) (step_outcome me s m).machine
  step_valid (step.Act a) = act_valid (Some me) m valid a
  step_valid (step.Query q) = query_valid q
