-- The list of live tasks, as it grows, and as that of the machine.
use Rattle.std.proofs.Common.{◌≡◌, zero, suc, ℕ, ◌+◌, ◌<◌, ◌==◌, Bool, true, false, List, [], ◌∷◌, ◌++◌, length, drop, map, get_or, Option, Some, None, refl, ap, sym, ◌∙◌, append_assoc, append-nil, arith}
use Rattle.std.specs.Option.{option_map}
use Rattle.std.proofs.lemmas.List.{length-append, length-map, map-append}
use Rattle.std.proofs.Math.ListN.{get_or-map}
use Rattle.mono_model.specs.Table.{Table, value_at, next_number}
use Rattle.mono_model.specs.Sleeps as model
use Rattle.mono_model.specs.Tasks.{Tasks, Task, Phase, idle, queued, running, done, taken}
use Rattle.mono_model.specs.Jobs.{Jobs}
use Rattle.mono_time.specs.Refinement.{seen, StandsForSleeps}
use Rattle.mono_time.specs.Timers.{sleeps_of, wait_of}
use Rattle.mono_time.specs.declared.timers.Timers.{Timers}
use Rattle.mono_task.specs.declared.phases.TaskPhase.{TaskPhase}
use Rattle.mono_task.specs.TaskPhases.{phase_of, phase_in, waiter_in}
use Rattle.mono_machine.specs.Machine.{Machine}
use Rattle.mono_machine.specs.History.{waiter_at}
use Rattle.mono_machine.specs.Watches.{job_waiter}
use Rattle.mono_machine.proofs.RunLemmas.{first_and_rest}
use Rattle.mono_rt.specs.Numbering.{task_numbered, phase_numbered, numbered}
use Rattle.mono_rt.proofs.NumberLemmas.{value_numbered, next_numbered}
use Rattle.mono_rt.specs.declared.task_waits.TaskWait.{TaskWait}
use Rattle.mono_rt.specs.declared.task_waits.WaitsFor.{WaitsFor}
use Rattle.mono_rt.specs.declared.task_waits.WaitsFor.TheVariants as source
use Rattle.mono_rt.specs.declared.task_waits.Watch.{Watch}
use Rattle.mono_rt.specs.TaskWaits.{each_below, sleep_watch, tick_watch, watch, watches, Row, row, row_of, row_by, own_rows, or_nothing, rows_of, task_waits}

pub each-same : {A : Type 0} (f g : ℕ → List A) → ((i : ℕ) → f i ≡ g i) → (n : ℕ) → each_below f n ≡ each_below g n
each-same f g same zero = refl
each-same f g same (suc n) = ap (λ xs. xs ++ f n) (each-same f g same n) ∙ ap (λ ys. each_below g n ++ ys) (same n)

-- a sleep of the machine, and as the timers keep it
by-waker : (s tick : ℕ) (w : Option ℕ) → tick_watch s (wait_of (Some (seen (model.armed (record { tick = tick; arm = 0; is_moved = false; waker = w }))))) ≡ watch (source.Sleep s tick) w
by-waker s tick None = refl
by-waker s tick (Some task) = refl

sleep-tick : (s : ℕ) (v : Option model.Sleep) → tick_watch s (wait_of (option_map seen v)) ≡ sleep_watch s v
sleep-tick s None = refl
sleep-tick s (Some (model.fresh nanos)) = refl
sleep-tick s (Some (model.armed a)) = by-waker s a.tick a.waker
sleep-tick s (Some model.elapsed) = refl

-- the sleeps of the timers are those of the machine
sleeps-watched : (timers : Timers) (m : model.Sleeps) → StandsForSleeps timers m
    → each_below (λ s. tick_watch s (wait_of (value_at (sleeps_of timers).table s))) (next_number (sleeps_of timers).table) ≡ each_below (λ s. sleep_watch s (value_at m.table s)) (next_number m.table)
sleeps-watched timers m st =
    ap (λ table. each_below (λ s. tick_watch s (wait_of (value_at table s))) (next_number table)) (sym st.table)
    ∙ each-same (λ s. tick_watch s (wait_of (value_at (map (option_map seen) m.table) s))) (λ s. sleep_watch s (value_at m.table s))
    (λ s. ap (λ v. tick_watch s (wait_of v)) (get_or-map (option_map seen) m.table s None) ∙ sleep-tick s (value_at m.table s)) (next_number (map (option_map seen) m.table))
    ∙ ap (each_below (λ s. sleep_watch s (value_at m.table s))) (length-map m.table (option_map seen))

module _ {O : Type 0} (number : O → ℕ) where
  phase-numbered : (p : Phase O) → phase_of (phase_numbered number p) ≡ phase_of p
  phase-numbered idle = refl
  phase-numbered queued = refl
  phase-numbered (running noted) = refl
  phase-numbered (done output) = refl
  phase-numbered taken = refl

  in-numbered : (v : Option (Task O)) → phase_in (option_map (task_numbered number) v) ≡ phase_in v
  in-numbered None = refl
  in-numbered (Some task) = ap (λ p. Some p) (phase-numbered task.phase)

  waiter-numbered : (v : Option (Task O)) → waiter_at (option_map (task_numbered number) v) ≡ waiter_in v
  waiter-numbered None = refl
  waiter-numbered (Some task) = refl

  -- the tasks of the parts are those of the machine
  tasks-watched : (tasks : Tasks O) (m : Tasks ℕ) → numbered number tasks ≡ m
      → each_below (λ u. watch (source.Task u) (waiter_in (value_at tasks.table u))) (next_number tasks.table) ≡ each_below (λ u. watch (source.Task u) (waiter_at (value_at m.table u))) (next_number m.table)
  tasks-watched tasks m is =
      each-same (λ u. watch (source.Task u) (waiter_in (value_at tasks.table u))) (λ u. watch (source.Task u) (waiter_at (value_at (numbered number tasks).table u)))
      (λ u. ap (watch (source.Task u)) (sym (ap waiter_at (value_numbered number tasks u) ∙ waiter-numbered (value_at tasks.table u)))) (next_number tasks.table)
      ∙ ap (each_below (λ u. watch (source.Task u) (waiter_at (value_at (numbered number tasks).table u)))) (sym (next_numbered number tasks))
      ∙ ap (λ (ts : Tasks ℕ). each_below (λ u. watch (source.Task u) (waiter_at (value_at ts.table u))) (next_number ts.table)) is

  -- the lists of sleeps, tasks and jobs, one after the other, are all sources of the machine
  pub watches-machine : (timers : Timers) (tasks : Tasks O) (jobs : Jobs) (m : Machine) → StandsForSleeps timers m.sleeps → numbered number tasks ≡ m.tasks → jobs ≡ m.jobs → (empty one two three : List Watch) → empty ≡ []
      → one ≡ empty ++ each_below (λ s. tick_watch s (wait_of (value_at (sleeps_of timers).table s))) (next_number (sleeps_of timers).table)
      → two ≡ one ++ each_below (λ u. watch (source.Task u) (waiter_in (value_at tasks.table u))) (next_number tasks.table)
      → three ≡ two ++ each_below (λ j. watch (source.Job j) (job_waiter (value_at jobs.table j))) (next_number jobs.table)
      → three ≡ watches m
  watches-machine timers tasks jobs m sleeps same kept empty one two three none first second third =
      let a = first ∙ ap (λ xs. xs ++ each_below (λ s. tick_watch s (wait_of (value_at (sleeps_of timers).table s))) (next_number (sleeps_of timers).table)) none ∙ sleeps-watched timers m.sleeps sleeps in
      let b = second ∙ ap (λ ys. one ++ ys) (tasks-watched tasks m.tasks same) ∙ ap (λ xs. xs ++ each_below (λ u. watch (source.Task u) (waiter_at (value_at m.tasks.table u))) (next_number m.tasks.table)) a in
      third ∙ ap (λ (js : Jobs). two ++ each_below (λ j. watch (source.Job j) (job_waiter (value_at js.table j))) (next_number js.table)) kept
      ∙ ap (λ xs. xs ++ each_below (λ j. watch (source.Job j) (job_waiter (value_at m.jobs.table j))) (next_number m.jobs.table)) b

  -- the rows of the tasks are those of the machine
  pub rows-machine : (tasks : Tasks O) (m : Machine) (ws : List Watch) (empty list : List TaskWait) → numbered number tasks ≡ m.tasks → ws ≡ watches m → empty ≡ []
      → map row_of list ≡ map row_of empty ++ each_below (λ t. rows_of ws t (phase_in (value_at tasks.table t))) (next_number tasks.table) → map row_of list ≡ task_waits m
  rows-machine tasks m ws empty list same is none all =
      all ∙ ap (λ rows. map row_of rows ++ each_below (λ t. rows_of ws t (phase_in (value_at tasks.table t))) (next_number tasks.table)) none
      ∙ each-same (λ t. rows_of ws t (phase_in (value_at tasks.table t))) (λ t. rows_of ws t (phase_in (value_at (numbered number tasks).table t)))
      (λ t. ap (rows_of ws t) (sym (ap phase_in (value_numbered number tasks t) ∙ in-numbered (value_at tasks.table t)))) (next_number tasks.table)
      ∙ ap (each_below (λ t. rows_of ws t (phase_in (value_at (numbered number tasks).table t)))) (sym (next_numbered number tasks))
      ∙ ap (λ (ts : Tasks ℕ). each_below (λ t. rows_of ws t (phase_in (value_at ts.table t))) (next_number ts.table)) same
      ∙ ap (λ xs. each_below (λ t. rows_of xs t (phase_in (value_at m.tasks.table t))) (next_number m.tasks.table)) is

-- one more of the sources was seen
pub own-more : (ws : List Watch) (i : ℕ) (d : Watch) (task : ℕ) (phase : TaskPhase) (now next all : List Row) → i < length ws
    → next ≡ now ++ row_by ((get_or ws i d).by == task) task phase (get_or ws i d).source → now ++ own_rows (drop i ws) task phase ≡ all → next ++ own_rows (drop (i + 1) ws) task phase ≡ all
own-more ws i d task phase now next all inside is told =
    ap (λ xs. xs ++ own_rows (drop (i + 1) ws) task phase) is ∙ append_assoc now (row_by ((get_or ws i d).by == task) task phase (get_or ws i d).source) (own_rows (drop (i + 1) ws) task phase)
    ∙ ap (λ xs. now ++ own_rows xs task phase) (sym (first_and_rest ws i d inside)) ∙ told

none-long : (xs : List Row) → length xs ≡ 0 → xs ≡ []
none-long [] e = refl
none-long (x ∷ xs) e = absurd (omega (arith, e))

none-added : (old mid : List TaskWait) (own : List Row) → map row_of mid ≡ map row_of old ++ own → length mid ≡ length old → own ≡ []
none-added old mid own is same = none-long own (omega (arith, length-map mid row_of, length-map old row_of, ap length is, length-append (map row_of old) own, same))

-- if no row was added, that of a task that waits for nothing is
pub nothing-added : (old mid new : List TaskWait) (own : List Row) (r : TaskWait) → map row_of mid ≡ map row_of old ++ own → length mid ≡ length old → new ≡ mid ++ r ∷ []
    → r.waits_for ≡ source.Nothing → map row_of new ≡ map row_of old ++ or_nothing r.task r.phase own
nothing-added old mid new own r is same new_is nothing =
    let none = none-added old mid own is same in
    ap (map row_of) new_is ∙ map-append row_of mid (r ∷ []) ∙ ap (λ xs. xs ++ row_of r ∷ []) (is ∙ ap (λ ys. map row_of old ++ ys) none ∙ append-nil (map row_of old))
    ∙ ap (λ s. map row_of old ++ row r.task r.phase s ∷ []) nothing ∙ ap (λ ys. map row_of old ++ or_nothing r.task r.phase ys) (sym none)

pub some-added : (old mid : List TaskWait) (own : List Row) (task : ℕ) (phase : TaskPhase) → map row_of mid ≡ map row_of old ++ own → (length mid ≡ length old → ⊥)
    → map row_of mid ≡ map row_of old ++ or_nothing task phase own
some-added old mid [] task phase is more = absurd (more (omega (arith, length-map mid row_of, length-map old row_of, ap length (is ∙ append-nil (map row_of old)))))
some-added old mid (x ∷ xs) task phase is more = is
