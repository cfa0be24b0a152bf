-- The waiting tasks, by the parts of a runtime and by the machine that they refine.
use Rattle.std.specs.Prelude.{◌≡◌, ℕ, Bool, true, zero, suc, map, List, [], ◌∷◌, Option, Some, None}
use Rattle.std.specs.Option.{option_map}
use Rattle.std.proofs.Common.{refl, sym, ap, ◌∙◌}
use Rattle.mono_model.specs.Table.{Table, value_at}
use Rattle.mono_model.specs.Tasks.{Tasks, Task, Phase, idle, queued, running, done, taken, woken}
use Rattle.mono_model.specs.Sleeps as model
use Rattle.mono_model.specs.SleepActs as sleep
use Rattle.mono_task.specs.Work.{without_outputs, task_without, phase_without}
use Rattle.mono_time.specs.Refinement.{seen}
use Rattle.mono_time.specs.Timers.{sleeps_of}
use Rattle.mono_machine.specs.Machine.{Machine}
use Rattle.mono_machine.specs.History.{waiter_at}
use Rattle.mono_rt.specs.Numbering.{task_numbered, phase_numbered}
use Rattle.mono_rt.specs.Refinement.{Hosting, Matches, hosting_of}
use Rattle.mono_rt.specs.declared.contexts.Cx.{Cx}
use Rattle.mono_rt.specs.declared.parts.state.Parts.{Parts}
use Rattle.mono_machine.specs.Watches as machine
use Rattle.mono_machine.specs.Watches.{watcher, job_waiter, is_stirred, is_stirred_in}
use Rattle.mono_wait.specs.Sources.{Source, in_machine, of_place, of_threads, of_peers, waiter_in, waker_in, own_watcher}
use Rattle.mono_wait.specs.WakeEffects.{stirs}

-- The sources of the machine are of the parts of a runtime, the others of its context.
module _ {O B : Type 0} (hosting : B → Hosting) (has_handed_out : Bool) (lists : List ℕ → ℕ → Bool) (names : ℕ → Bool) where
  abbrev pub machine_watcher : Parts O B → machine.Source → Option ℕ
  machine_watcher parts (machine.of_sleep s) = waker_in (value_at (sleeps_of parts.timers).table s)
  machine_watcher parts (machine.of_task u) = waiter_in (value_at (without_outputs parts.tasks.tasks).table u)
  machine_watcher parts (machine.of_job j) = job_waiter (value_at (hosting parts.blocking).jobs.table j)

  abbrev pub parts_watcher : Parts O B → Source → Option ℕ
  parts_watcher parts (in_machine x) = machine_watcher parts x
  parts_watcher parts (of_place p) = own_watcher (lists p parts.me) parts.me
  parts_watcher parts of_threads = own_watcher has_handed_out parts.me
  parts_watcher parts of_peers = own_watcher (names parts.me) parts.me

abbrev pub cx_watcher : {F O P U W J A V : Type 0} → (W → List ℕ → ℕ → Bool) → (W → ℕ → Bool) → Cx F O P U W J A V → Source → Option ℕ
cx_watcher lists names c = parts_watcher hosting_of c.has_handed_out (lists c.shared) (names c.shared) c.parts

-- the wakers do not depend on the arm numbers
seen_waker : (table : Table model.Sleep) (s : ℕ) → waker_in (value_at (map (option_map seen) table) s) ≡ sleep.waker_in (value_at table s)
seen_waker [] s = refl
seen_waker (None ∷ table) zero = refl
seen_waker (Some (model.fresh n) ∷ table) zero = refl
seen_waker (Some (model.armed a) ∷ table) zero = refl
seen_waker (Some model.elapsed ∷ table) zero = refl
seen_waker (v ∷ table) (suc s) = seen_waker table s

-- the waiters and the wakes of tasks do not depend on the outputs
module _ {O : Type 0} (number : O → ℕ) where
  both_waiters : (table : Table (Task O)) (u : ℕ) → waiter_in (value_at (map (option_map task_without) table) u) ≡ waiter_at (value_at (map (option_map (task_numbered number)) table) u)
  both_waiters [] u = refl
  both_waiters (None ∷ table) zero = refl
  both_waiters (Some task ∷ table) zero = refl
  both_waiters (v ∷ table) (suc u) = both_waiters table u

  stirred_phase : (phase : Phase O) → is_stirred (phase_without phase) ≡ is_stirred (phase_numbered number phase)
  stirred_phase idle = refl
  stirred_phase queued = refl
  stirred_phase (running noted) = refl
  stirred_phase (done output) = refl
  stirred_phase taken = refl

  both_stirred : (table : Table (Task O)) (u : ℕ) → is_stirred_in (value_at (map (option_map task_without) table) u) ≡ is_stirred_in (value_at (map (option_map (task_numbered number)) table) u)
  both_stirred [] u = refl
  both_stirred (None ∷ table) zero = refl
  both_stirred (Some task ∷ table) zero = stirred_phase task.phase
  both_stirred (v ∷ table) (suc u) = both_stirred table u

module _ {O B : Type 0} (number : O → ℕ) (hosting : B → Hosting) (parts : Parts O B) (m : Machine) where
  -- the task that waits in the context waits in the machine
  pub parts_same_watcher : (has_handed_out : Bool) (lists : List ℕ → ℕ → Bool) (names : ℕ → Bool) (x : machine.Source) (t : ℕ) → Matches number hosting parts m → parts_watcher hosting has_handed_out lists names parts (in_machine x) ≡ Some t → watcher m x ≡ Some t
  parts_same_watcher has_handed_out lists names (machine.of_sleep s) t st is = sym (seen_waker m.sleeps.table s) ∙ ap (λ t. waker_in (value_at t s)) st.sleeps.table ∙ is
  parts_same_watcher has_handed_out lists names (machine.of_task u) t st is = sym (both_waiters number parts.tasks.tasks.table u ∙ ap (λ t. waiter_at (value_at t.table u)) st.tasks) ∙ is
  parts_same_watcher has_handed_out lists names (machine.of_job j) t st is = sym (ap (λ jobs. job_waiter (value_at jobs.table j)) st.jobs) ∙ is

  pub parts_same_stirred : (u : ℕ) → Matches number hosting parts m → is_stirred_in (value_at (without_outputs parts.tasks.tasks).table u) ≡ is_stirred_in (value_at m.tasks.table u)
  parts_same_stirred u st = both_stirred number parts.tasks.tasks.table u ∙ ap (λ t. is_stirred_in (value_at t.table u)) st.tasks

-- a wake stirs the task, whose outputs do not say so
module _ {O : Type 0} where
  same_phase : (phase : Phase O) → is_stirred (phase_without phase) ≡ is_stirred phase
  same_phase idle = refl
  same_phase queued = refl
  same_phase (running noted) = refl
  same_phase (done output) = refl
  same_phase taken = refl

  same_stirred : (table : Table (Task O)) (u : ℕ) → is_stirred_in (value_at (map (option_map task_without) table) u) ≡ is_stirred_in (value_at table u)
  same_stirred [] u = refl
  same_stirred (None ∷ table) zero = refl
  same_stirred (Some task ∷ table) zero = same_phase task.phase
  same_stirred (v ∷ table) (suc u) = same_stirred table u

  pub wake_stirs : (before after : Tasks O) (t : ℕ) → after ≡ woken before t → is_stirred_in (value_at (without_outputs after).table t) ≡ true
  wake_stirs before after t is = same_stirred after.table t ∙ ap (λ tasks. is_stirred_in (value_at tasks.table t)) is ∙ stirs before t
