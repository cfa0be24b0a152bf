-- The effect of each call of a script's task on the rest of the turn.
use Rattle.std.proofs.Common.{◌≡◌, ℕ, Bool, true, false, [], ◌∷◌, ◌++◌, Option, Some, None, inl, inr, refl, ap, sym, ◌∙◌, arith}
use Rattle.std.specs.Prelude.{⊤, ◌==◌, Result, Ok, Err}
use Rattle.std.proofs.lemmas.Bool.Decides.{nat_tests}
use Rattle.mono_model.specs.declared.Woke.{Woke}
use Rattle.mono_model.specs.declared.task_error.TaskError.{TaskError}
use Rattle.mono_model.specs.declared.poll.Poll.{Poll}
use Rattle.mono_model.specs.declared.poll.Poll.TheVariants.{Ready, Pending}
use Rattle.mono_model.specs.declared.error.Error.{Error}
use Rattle.mono_model.specs.declared.error.Error.TheVariants as timer
use Rattle.mono_model.specs.declared.error.SleepError.{SleepError}
use Rattle.mono_model.specs.declared.error.SleepError.TheVariants.{Memory, Timer}
use Rattle.mono_time.specs.Sleeps.{Added}
use Rattle.mono_time.specs.Timers.{sleeps_of}
use Rattle.mono_joinword.specs.declared.outcome.JoinError.{JoinError}
use Rattle.mono_machine.specs.Acts.{reply_of}
use Rattle.mono_machine.specs.JoinCalls.{wake_reply, join_reply, drop_reply}
use Rattle.mono_machine.specs.SleepCalls.{poll_reply, gone_reply}
use Rattle.mono_machine.specs.declared.events.Act.TheVariants as act
use Rattle.mono_machine.specs.declared.events.Query.TheVariants as query
use Rattle.mono_machine.specs.declared.events.TurnStep.TheVariants as step
use Rattle.mono_machine.specs.declared.events.Reply.TheVariants as reply
use Rattle.mono_machine.specs.declared.events.Refusal.{Refusal}
use Rattle.mono_machine.specs.declared.events.Refusal.TheVariants as refusal
use Rattle.mono_blocking.specs.Counts.{HasRisen}
use Rattle.mono_blocking.specs.declared.strategy.BlockingHandle.{BlockingHandle}
use Rattle.mono_blocking.specs.declared.strategy.BlockingHandle.TheVariants.{Attached, Empty}
use Rattle.mono_blocking.specs.JobAnswers.{dropped_reply}
use Rattle.mono_blocking.specs.JobSpawns.{refusals_of}
use Rattle.mono_blocking.specs.declared.jobs.handles.JobHandle.{JobHandle}
use Rattle.mono_blocking.specs.declared.jobs.refusals.PollJob.{PollJob}
use Rattle.mono_blocking.specs.declared.jobs.refusals.PollJob.TheVariants as polling
use Rattle.mono_blocking.specs.declared.jobs.refusals.SpawnError.{SpawnError}
use Rattle.mono_blocking.specs.declared.jobs.refusals.SpawnError.TheVariants as error
use Rattle.mono_rt.specs.CallActs.{noted_wake, noted_join, noted_drop, noted_sleep, lacks_sleep, noted_poll, noted_gone}
use Rattle.mono_rt.specs.Spawns.{noted_spawn, lacks_spawn}
use Rattle.mono_rt.specs.JobActs.{SpawnsJob, PollsJob, DropsJob}
use Rattle.mono_rt.specs.Numbering.{join_numbered, drop_numbered}
use Rattle.mono_rt.specs.Remains.{NotesMemory}
use Rattle.mono_rt.specs.declared.contexts.Cx.{Cx}
use Rattle.mono_task.specs.declared.error.SpawnRefused.{SpawnRefused}
use Rattle.mono_task.specs.declared.error.SpawnRefused.TheVariants as back
use Rattle.mono_run.specs.ScriptTurns.{Place, stops_at, acted, asked, is_pending, sleep_steps, join_steps, job_steps, yielded, task_in, sleep_in, job_in, if_made, none_made}
use Rattle.mono_run.specs.TaskPolls.{HasKept, Stands, new_task}
use Rattle.mono_run.specs.Segments.{Rest, Goes, waits}
use Rattle.mono_run.specs.declared.tasks.ScriptTask.{ScriptTask}
use Rattle.mono_run.proofs.SegmentLemmas.{grew_one, grew_job, goes_by_one, goes_making, goes_pending, goes_ready, goes_acted}

-- ---- answers of polls

sleep_waits : (answer : Result (Poll ⊤) Error) → is_pending (poll_reply answer) ≡ waits answer
sleep_waits (Ok (Ready x)) = refl
sleep_waits (Ok Pending) = refl
sleep_waits (Err e) = refl

join_waits : (answer : Result (Poll ℕ) TaskError) → is_pending (join_reply (join_numbered (λ n. n) answer)) ≡ waits answer
join_waits (Ok (Ready x)) = refl
join_waits (Ok Pending) = refl
join_waits (Err e) = refl

-- ---- a call on job j sees the end of job j

same_job : (j : ℕ) → (j == j) ≡ true
same_job j = grind (arith, nat_tests)

-- ---- refusals that cannot be

no_count : {P : Type 0} (pool : BlockingHandle P) → refusals_of (λ _. 0) pool ≡ 0
no_count (Attached p) = refl
no_count (Empty s) = refl

none_rises : (a b : ℕ) → a ≡ 0 → b ≡ 0 → HasRisen a b → ⊥
none_rises a b x y (inl less) = omega (arith, x, y, less)
none_rises a b x y (inr full) = omega (arith, x, full)

not_both : (b : Bool) → b ≡ true → b ≡ false → ⊥
not_both true e f = cc f
not_both false e f = cc e

module _ {P U J A V : Type 0} (task : ScriptTask) (c d : Cx ScriptTask ℕ P U ⊤ J A V) (had : HasKept d.parts) where
  -- ---- sleeps

  pub sleep_pending : (f : Rest) (here : Place) (s : ℕ) (answer : Result (Poll ⊤) Error) → d.parts.acts ≡ noted_poll c.parts.acts s answer → d.futures.items ≡ c.futures.items → waits answer ≡ true → Goes task (sleep_steps s here f) (stops_at here) c d
  sleep_pending f here s answer is same w = goes_pending task f here c d (step.Query (query.Sleep s)) (step.Act (act.DropSleep s)) (poll_reply answer) (grew_one c.parts.acts d.parts.acts _ _ refl is) same (sleep_waits answer ∙ w)

  pub sleep_ready : (f : Rest) (here : Place) (s : ℕ) (answer : Result (Poll ⊤) Error) → d.parts.acts ≡ noted_poll c.parts.acts s answer → d.futures.items ≡ c.futures.items → waits answer ≡ false → Goes task (sleep_steps s here f) (acted (step.Act (act.DropSleep s)) f) c d
  sleep_ready f here s answer is same w = goes_ready task f here c d (step.Query (query.Sleep s)) (step.Act (act.DropSleep s)) (poll_reply answer) (grew_one c.parts.acts d.parts.acts _ _ refl is) same (sleep_waits answer ∙ w)

  pub sleep_dropped : (f : Rest) (s : ℕ) (answer : Result ⊤ Error) → d.parts.acts ≡ noted_gone c.parts.acts s answer → d.futures.items ≡ c.futures.items → Goes task (acted (step.Act (act.DropSleep s)) f) f c d
  sleep_dropped f s answer is same = goes_acted task f c d (step.Act (act.DropSleep s)) (gone_reply answer) (grew_one c.parts.acts d.parts.acts _ _ refl is) same

  pub sleep_made : (k : Option ℕ → Rest) (nanos s : ℕ) → d.parts.acts ≡ noted_sleep c.parts.acts nanos (Ok s) → d.futures.items ≡ c.futures.items → Goes task (asked (step.Act (act.NewSleep nanos)) sleep_in none_made k) (k (Some s)) c d
  sleep_made k nanos s is same = goes_by_one task _ (k (Some s)) c d (step.Act (act.NewSleep nanos)) (reply.Sleep s) (grew_one c.parts.acts d.parts.acts _ _ refl is) same (λ rest. refl)

  pub sleep_refused : (k : Option ℕ → Rest) (nanos : ℕ) (e : SleepError) → Stands c.parts → Added (sleeps_of c.parts.timers) nanos (Err e) (sleeps_of d.parts.timers) → d.parts.has_timers ≡ c.parts.has_timers → d.parts.acts ≡ noted_sleep c.parts.acts nanos (Err e) → d.parts.is_out_of_memory ≡ lacks_sleep c.parts.is_out_of_memory (Err e)
      → d.futures.items ≡ c.futures.items → Goes task (asked (step.Act (act.NewSleep nanos)) sleep_in none_made k) (k None) c d
  sleep_refused k nanos Memory st added timers is lacks same = absurd (not_both d.parts.is_out_of_memory lacks had.memory)
  sleep_refused k nanos (Timer timer.AtCapacity) st added timers is lacks same = goes_by_one task _ (k None) c d (step.Act (act.NewSleep nanos)) (reply.Refused refusal.AtCapacity) (grew_one c.parts.acts d.parts.acts _ _ refl is) same (λ rest. refl)
  sleep_refused k nanos (Timer timer.Shutdown) st added timers is lacks same = absurd (not_both c.parts.has_timers (sym timers ∙ had.timers) (sym st.1.enabled ∙ added.0))
  sleep_refused k nanos (Timer timer.Invalid) st added timers is lacks same = absurd added

  -- ---- tasks

  pub woke : (here : Place) (me : ℕ) (answer : Result Woke TaskError) → d.parts.acts ≡ noted_wake c.parts.acts me answer → d.futures.items ≡ c.futures.items → Goes task (yielded me here) (stops_at here) c d
  woke here me answer is same = goes_acted task (stops_at here) c d (step.Act (act.Wake me)) (wake_reply answer) (grew_one c.parts.acts d.parts.acts _ _ refl is) same

  pub join_pending : (f : Rest) (here : Place) (t : ℕ) (answer : Result (Poll ℕ) TaskError) → d.parts.acts ≡ noted_join (λ n. n) c.parts.acts t answer → d.futures.items ≡ c.futures.items → waits answer ≡ true → Goes task (join_steps t here f) (stops_at here) c d
  join_pending f here t answer is same w = goes_pending task f here c d (step.Query (query.Join t)) (step.Act (act.DropJoin t)) (join_reply (join_numbered (λ n. n) answer)) (grew_one c.parts.acts d.parts.acts _ _ refl is) same (join_waits answer ∙ w)

  pub join_ready : (f : Rest) (here : Place) (t : ℕ) (answer : Result (Poll ℕ) TaskError) → d.parts.acts ≡ noted_join (λ n. n) c.parts.acts t answer → d.futures.items ≡ c.futures.items → waits answer ≡ false → Goes task (join_steps t here f) (acted (step.Act (act.DropJoin t)) f) c d
  join_ready f here t answer is same w = goes_ready task f here c d (step.Query (query.Join t)) (step.Act (act.DropJoin t)) (join_reply (join_numbered (λ n. n) answer)) (grew_one c.parts.acts d.parts.acts _ _ refl is) same (join_waits answer ∙ w)

  pub join_dropped : (f : Rest) (t : ℕ) (answer : Result (Option ℕ) TaskError) → d.parts.acts ≡ noted_drop (λ n. n) c.parts.acts t answer → d.futures.items ≡ c.futures.items → Goes task (acted (step.Act (act.DropJoin t)) f) f c d
  join_dropped f t answer is same = goes_acted task f c d (step.Act (act.DropJoin t)) (drop_reply (drop_numbered (λ n. n) answer)) (grew_one c.parts.acts d.parts.acts _ _ refl is) same

  pub task_made : (k : Option ℕ → Rest) (kind t : ℕ) → d.parts.acts ≡ noted_spawn {F = ScriptTask} c.parts.acts (Ok t) → d.futures.items ≡ c.futures.items ++ Some (new_task task kind) ∷ []
      → Goes task (asked (step.Act act.Spawn) task_in (λ h. if_made h kind) k) (k (Some t)) c d
  task_made k kind t is futures = goes_making task _ (k (Some t)) (kind ∷ []) c d (step.Act act.Spawn) (reply.Task t) (grew_one c.parts.acts d.parts.acts _ _ refl is) futures (λ rest. refl)

  pub task_refused : (k : Option ℕ → Rest) (kind : ℕ) (e : SpawnRefused ScriptTask) → d.parts.acts ≡ noted_spawn c.parts.acts (Err e) → d.parts.is_out_of_memory ≡ lacks_spawn c.parts.is_out_of_memory (Err e) → d.futures.items ≡ c.futures.items
      → Goes task (asked (step.Act act.Spawn) task_in (λ h. if_made h kind) k) (k None) c d
  task_refused k kind (back.Memory f) is lacks same = absurd (not_both d.parts.is_out_of_memory lacks had.memory)
  task_refused k kind (back.AtCapacity f) is lacks same = goes_by_one task _ (k None) c d (step.Act act.Spawn) (reply.Refused refusal.AtCapacity) (grew_one c.parts.acts d.parts.acts _ _ refl is) same (λ rest. refl)

  -- there was no memory for the task's handles
  pub task_unmade : (k : Option ℕ → Rest) (kind : ℕ) → NotesMemory c d → Goes task (asked (step.Act act.Spawn) task_in (λ h. if_made h kind) k) (k None) c d
  task_unmade k kind lacks = absurd (not_both d.parts.is_out_of_memory (ap (λ x. x.parts.is_out_of_memory) lacks) had.memory)

  -- ---- jobs

  module _ {B : Type 0} (number : B → ℕ) (f : Rest) (j : ℕ) (same : d.futures.items ≡ c.futures.items) where
    pub job_pending : (here : Place) (answer : Result (Poll (Result B JoinError)) PollJob) → PollsJob number j answer c.parts d.parts → waits answer ≡ true → Goes task (job_steps j here f) (stops_at here) c d
    job_pending here (Ok Pending) p w = goes_pending task f here c d (step.Query (query.Job j)) (step.Act (act.DropJob j)) reply.Pending (grew_job c.parts.acts d.parts.acts j p.asks.end _ _ refl (same_job j) (ap (λ x. x.acts) p.asks.parts)) same refl
    job_pending here (Ok (Ready r)) p w = cc w
    job_pending here (Err e) p w = cc w

    pub job_ready : (here : Place) (answer : Result (Poll (Result B JoinError)) PollJob) → PollsJob number j answer c.parts d.parts → waits answer ≡ false → Goes task (job_steps j here f) (acted (step.Act (act.DropJob j)) f) c d
    job_ready here (Ok Pending) p w = cc w
    job_ready here (Ok (Ready (Ok o))) p w = goes_ready task f here c d (step.Query (query.Job j)) (step.Act (act.DropJob j)) (reply.Output (number o)) (grew_job c.parts.acts d.parts.acts j p.asks.end _ _ refl (same_job j) (ap (λ x. x.acts) p.asks.parts)) same refl
    job_ready here (Ok (Ready (Err e))) p w = goes_ready task f here c d (step.Query (query.Job j)) (step.Act (act.DropJob j)) reply.Canceled (grew_job c.parts.acts d.parts.acts j p.asks.end _ _ refl (same_job j) (ap (λ x. x.acts) p.asks.parts)) same refl
    job_ready here (Err (polling.Refused r)) p w = goes_ready task f here c d (step.Query (query.Job j)) (step.Act (act.DropJob j)) (reply.Refused r) (grew_job c.parts.acts d.parts.acts j p.asks.end _ _ refl (same_job j) (ap (λ x. x.acts) p.asks.parts)) same refl
    job_ready here (Err polling.Memory) p w = absurd (not_both d.parts.is_out_of_memory (ap (λ x. x.is_out_of_memory) p) had.memory)

    pub job_dropped : (answer : Result (Option (Result B JoinError)) Refusal) → DropsJob number j answer c.parts d.parts → Goes task (acted (step.Act (act.DropJob j)) f) f c d
    job_dropped answer p = goes_acted task f c d (step.Act (act.DropJob j)) (reply_of (dropped_reply number answer)) (grew_job c.parts.acts d.parts.acts j p.asks.end _ _ refl (same_job j) (ap (λ x. x.acts) p.asks.parts)) same

  module _ {W : Type 0} (number : W → ℕ) (work : W) (k : Option ℕ → Rest) (same : d.futures.items ≡ c.futures.items) where
    pub job_made : (handle : JobHandle) → SpawnsJob number (λ _. 0) work (Ok handle) c.parts d.parts → Goes task (asked (step.Act (act.Block (number work))) job_in none_made k) (k (Some handle.job)) c d
    job_made handle p = goes_by_one task _ (k (Some handle.job)) c d (step.Act (act.Block (number work))) (reply.Job handle.job) (grew_one c.parts.acts d.parts.acts _ _ refl (ap (λ x. x.acts) p.parts)) same (λ rest. refl)

    pub job_refused : (e : SpawnError W) → SpawnsJob number (λ _. 0) work (Err e) c.parts d.parts → Goes task (asked (step.Act (act.Block (number work))) job_in none_made k) (k None) c d
    job_refused (error.Memory back) p = absurd (not_both d.parts.is_out_of_memory (ap (λ x. x.is_out_of_memory) p.parts) had.memory)
    job_refused (error.AtCapacity back) p = goes_by_one task _ (k None) c d (step.Act (act.Block (number work))) (reply.Refused refusal.AtCapacity) (grew_one c.parts.acts d.parts.acts _ _ refl (ap (λ x. x.acts) p.parts)) same (λ rest. refl)
    job_refused (error.NoPool back) p = goes_by_one task _ (k None) c d (step.Act (act.Block (number work))) (reply.Refused refusal.NoPool) (grew_one c.parts.acts d.parts.acts _ _ refl (ap (λ x. x.acts) p.parts)) same (λ rest. refl)
    job_refused error.PoolFault p = absurd (none_rises _ _ (no_count c.parts.blocking.pool) (no_count d.parts.blocking.pool) p.spawned.2)
