-- The sources of a blocking job's handle, and of a job that is made at the first poll.
use Rattle.std.specs.Prelude.{◌≡◌, ℕ, Bool, true, false, length, set, cond, Option, Some, None, Result, Ok, Err}
use Rattle.std.proofs.Common.{inl, inr, sym, ap, ◌∙◌, subst, refl}
use Rattle.std.proofs.lemmas.Bool.{cases_lt}
use Rattle.std.proofs.lemmas.List.{get_or-set_same, get_or_past}
use Rattle.mono_model.specs.Table.{value_at, is_issued}
use Rattle.mono_model.specs.Jobs.{Jobs, Job}
use Rattle.mono_model.specs.Jobs as job
use Rattle.mono_model.specs.Poll.{call_of}
use Rattle.mono_model.specs.declared.poll.Poll.{Poll}
use Rattle.mono_model.specs.declared.poll.Poll.TheVariants.{Ready, Pending}
use Rattle.mono_machine.specs.JobCalls.{kept_value, poll_in, poll_value, poll_answer, polled_value, job_polled}
use Rattle.mono_machine.specs.Watches.{job_waiter}
use Rattle.mono_machine.specs.declared.events.Blocking.{Blocking}
use Rattle.mono_machine.specs.declared.events.Refusal.{Refusal}
use Rattle.mono_machine.specs.declared.events.Refusal.TheVariants as refusal
use Rattle.mono_machine.specs.declared.events.Reply.{Reply}
use Rattle.mono_machine.specs.declared.events.Reply.TheVariants as reply
use Rattle.mono_joinword.specs.declared.outcome.JoinError.{JoinError}
use Rattle.mono_blocking.specs.JobAnswers.{after_end}
use Rattle.mono_blocking.specs.Calls.{PollsOutput}
use Rattle.mono_blocking.specs.Runs.{RunCancels, told, AfterPoll, Awaits, AfterSpawn, RunPolls}
use Rattle.mono_blocking.specs.declared.jobs.handles.JobHandle.{JobHandle}
use Rattle.mono_blocking.specs.declared.jobs.refusals.SpawnError.{SpawnError}
use Rattle.mono_blocking.specs.declared.jobs.refusals.PollJob.{PollJob}
use Rattle.mono_blocking.specs.declared.runs.JobError.{JobError}
use Rattle.mono_blocking.specs.declared.runs.JobError.TheVariants.{Spawn}
use Rattle.mono_blocking.specs.declared.runs.RunJob.{RunJob}
use Rattle.mono_blocking.specs.declared.runs.RunJob.TheVariants.{Fresh, Waits, Over}
use Rattle.mono_wait.specs.Sources.{Source, of_job}
use Rattle.mono_wait.specs.Frames.{Frame, HeardIn, CoversIn, same_reached, covers_after}

abbrev pub JobNeeds : JobHandle → Source → Type 0
JobNeeds h x = x ≡ of_job h.job

-- its job, once it is made
abbrev pub RunNeeds : {J : Type 0} → RunJob J → Source → Type 0
RunNeeds (Fresh job) x = ⊥
RunNeeds (Waits handle) x = JobNeeds handle x
RunNeeds Over x = ⊥

no_answer : {Z : Type 0} (z : Z) → Pending ≡ Ready z → ⊥
no_answer z e = cc

-- A poll of a job's handle that is pending makes the task the job's waiter.
module _ (jobs : Jobs) (j by : ℕ) where
  abbrev error_answer : Refusal → Result Reply Refusal
  error_answer e = Err e

  abbrev value_answer : Reply → Result Reply Refusal
  value_answer r = Ok r

  refused : (e : Refusal) → Ok reply.Pending ≡ error_answer e → ⊥
  refused e is = cc

  none-some : {V : Type 0} (v : V) → None ≡ Some v → ⊥
  none-some v e = cc

  set_waits : (old new : Job) → value_at jobs.table j ≡ Some old → job_waiter (Some new) ≡ Some by → job_waiter (value_at (set jobs.table j (Some new)) j) ≡ Some by
  set_waits old new at is = elim (cases_lt j (length jobs.table)) [
    | inl inside ↦ ap job_waiter (get_or-set_same jobs.table j (Some new) None inside) ∙ is
    | inr past ↦ absurd (none-some old (sym (get_or_past jobs.table j None past) ∙ at))
  ]

  by_job : (value : Job) → value_at jobs.table j ≡ Some value → Ok reply.Pending ≡ poll_in value → job_waiter (value_at (polled_value (Ok value) jobs j by).table j) ≡ Some by
  by_job (job.running output waiter) at told = set_waits (job.running output waiter) (job.running output (Some by)) at refl
  by_job (job.ended_ok output) at told = absurd (impossible told)
    where
      impossible : Ok reply.Pending ≡ value_answer (reply.Output output) → ⊥
      impossible e = cc
  by_job job.ended_canceled at told = absurd (impossible told)
    where
      impossible : Ok reply.Pending ≡ value_answer reply.Canceled → ⊥
      impossible e = cc
  by_job job.taken at told = absurd (refused refusal.Taken told)

  by_issued : (b : Bool) (v : Option Job) → value_at jobs.table j ≡ v → Ok reply.Pending ≡ poll_value (cond b (kept_value v) (Err refusal.NoTask))
      → job_waiter (value_at (polled_value (cond b (kept_value v) (Err refusal.NoTask)) jobs j by).table j) ≡ Some by
  by_issued true None at told = absurd (refused refusal.NoHandle told)
  by_issued true (Some value) at told = by_job value at told
  by_issued false v at told = absurd (refused refusal.NoTask told)

  pub pending_waits : Ok reply.Pending ≡ poll_answer jobs j → job_waiter (value_at (job_polled jobs j by).table j) ≡ Some by
  pending_waits = by_issued (is_issued jobs.table j) (value_at jobs.table j) refl

module _ {A C : Type 0} (w : Frame C) (number : A → ℕ) (jobs : C → Jobs) (is_out_of_memory : C → Bool) where
  module _ (same_number : (a b : C) → w.reaches a b → w.number b ≡ w.number a) (watches : (c : C) (j : ℕ) → w.watcher c (of_job j) ≡ job_waiter (value_at (jobs c).table j)) where
    job_heard : (j : ℕ) (c d : C) → PollsOutput number (w.number c) j (Ok Pending) (jobs c) (jobs d) (is_out_of_memory d) → w.reaches c d → HeardIn w c d (of_job j)
    job_heard j c d asked reached = record {
      moment = d;
      before = reached;
      hears = inl (watches d j ∙ ap (λ t. job_waiter (value_at t.table j)) asked.jobs ∙ pending_waits (after_end asked.end (jobs c) j) j (w.number c) asked.is_answer ∙ ap Some (sym (same_number c d reached)));
      since = w.itself d;
    }

    -- once pending, the running task waits for the job
    pub jobs_cover : (h : JobHandle) (c d : C) → PollsOutput number (w.number c) h.job (Ok Pending) (jobs c) (jobs d) (is_out_of_memory d) → w.reaches c d → CoversIn w c d (JobNeeds h)
    jobs_cover h c d asked reached = record {
      one = inl (of_job h.job, refl);
      each = λ x is. subst (HeardIn w c d) (sym is) (job_heard h.job c d asked reached);
    }

module _ {A J C : Type 0} (w : Frame C) (number : A → ℕ) (jobs : C → Jobs) where
  pub run_left : (f : RunJob J) (c d : C) → RunCancels number jobs w.work w.reaches f c d → w.reaches c d
  run_left (Fresh job) c d q = same_reached w c d q
  run_left (Waits handle) c d q = q.3
  run_left Over c d q = same_reached w c d q

  module _ (is_out_of_memory : C → Bool) where
    after_poll : (answer : Poll (Result (Result A JoinError) PollJob)) (handle : JobHandle) (c : C) (r : Poll (Result A (JobError J))) (n : RunJob J) (d : C)
        → AfterPoll number w.number jobs is_out_of_memory w.work w.reaches answer handle c r n d → w.reaches c d
    after_poll (Ready x) handle c r n d (told, spent, up) = up.3
    after_poll Pending handle c r n d q = same_reached w c d q.2

    awaits_reached : (handle : JobHandle) (c : C) (r : Poll (Result A (JobError J))) (n : RunJob J) (d : C) → Awaits number w.number jobs is_out_of_memory w.work w.reaches handle c r n d → w.reaches c d
    awaits_reached handle c r n d q = w.on c q.middle d q.reached (after_poll q.answer handle q.middle r n d q.rest)

    module _ (job_number : J → ℕ) (strategy : C → Blocking) (refusals : C → ℕ) where
      after_spawn : (made : Result JobHandle (SpawnError J)) (c : C) (r : Poll (Result A (JobError J))) (n : RunJob J) (d : C)
          → AfterSpawn job_number number w.number jobs strategy refusals is_out_of_memory w.work w.reaches made c r n d → w.reaches c d
      after_spawn (Ok handle) c r n d q = awaits_reached handle c r n d q
      after_spawn (Err e) c r n d q = same_reached w c d q.2

      pub run_reached : (f : RunJob J) (c : C) (r : Poll (Result A (JobError J))) (n : RunJob J) (d : C) → RunPolls job_number number w.number jobs strategy refusals is_out_of_memory w.work w.reaches f c r n d → w.reaches c d
      run_reached (Fresh job) c r n d q = w.on c q.middle d q.reached (after_spawn q.made q.middle r n d q.rest)
      run_reached (Waits handle) c r n d q = awaits_reached handle c r n d q
      run_reached Over c r n d q = absurd q

    module _ (same_number : (a b : C) → w.reaches a b → w.number b ≡ w.number a) (watches : (c : C) (j : ℕ) → w.watcher c (of_job j) ≡ job_waiter (value_at (jobs c).table j)) where
      run_waits : (handle : JobHandle) (c : C) (answer : Poll (Result (Result A JoinError) PollJob)) (m : C) (n : RunJob J) (d : C) → w.reaches c m → PollsOutput number (w.number c) handle.job (call_of answer) (jobs c) (jobs m) (is_out_of_memory m)
          → AfterPoll number w.number jobs is_out_of_memory w.work w.reaches answer handle m Pending n d → CoversIn w c d (RunNeeds n)
      run_waits handle c (Ready x) m n d reached polled rest = absurd (no_answer (told x) rest.0)
      run_waits handle c Pending m n d reached polled rest =
          subst (λ v. CoversIn w c d (RunNeeds v)) (sym rest.1) (subst (λ e. CoversIn w c e (JobNeeds handle)) (sym rest.2) (jobs_cover w number jobs is_out_of_memory same_number watches handle c m polled reached))

      awaits_cover : (handle : JobHandle) (c : C) (n : RunJob J) (d : C) → Awaits number w.number jobs is_out_of_memory w.work w.reaches handle c Pending n d → CoversIn w c d (RunNeeds n)
      awaits_cover handle c n d q = run_waits handle c q.answer q.middle n d q.reached q.polled q.rest

      module _ (job_number : J → ℕ) (strategy : C → Blocking) (refusals : C → ℕ) where
        spawn_waits : (made : Result JobHandle (SpawnError J)) (c : C) (n : RunJob J) (d : C) → AfterSpawn job_number number w.number jobs strategy refusals is_out_of_memory w.work w.reaches made c Pending n d → CoversIn w c d (RunNeeds n)
        spawn_waits (Ok handle) c n d q = awaits_cover handle c n d q
        spawn_waits (Err e) c n d q = absurd (no_answer (Err (Spawn e)) q.0)

        pub runs_cover : (f : RunJob J) (c : C) (n : RunJob J) (d : C) → RunPolls job_number number w.number jobs strategy refusals is_out_of_memory w.work w.reaches f c Pending n d → CoversIn w c d (RunNeeds n)
        runs_cover (Fresh job) c n d q = covers_after w c q.middle d (RunNeeds n) q.reached (spawn_waits q.made q.middle n d q.rest)
        runs_cover (Waits handle) c n d q = awaits_cover handle c n d q
        runs_cover Over c n d q = absurd q
