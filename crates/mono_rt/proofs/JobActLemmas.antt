-- A call on a job leads the parts on.
use Rattle.std.proofs.Common.{◌≡◌, ℕ, true, false, Bool, cond, Some, None, Option, refl, ap, sym, subst, ◌∙◌}
use Rattle.std.specs.Prelude.{Result, Ok, Err}
use Rattle.mono_model.specs.Table.{next_number, is_full}
use Rattle.mono_model.specs.Jobs.{Jobs}
use Rattle.mono_model.specs.Jobs as job
use Rattle.mono_machine.specs.Machine.{Machine, with_jobs}
use Rattle.mono_machine.specs.Acts.{step_outcome, act_outcome, answered, refused, block, reply_of}
use Rattle.mono_machine.specs.JobCalls.{with_next_job, end_answer, job_ended, poll_answer}
use Rattle.mono_machine.specs.declared.events.TurnStep.{TurnStep}
use Rattle.mono_machine.specs.declared.events.TurnStep.TheVariants as step
use Rattle.mono_machine.specs.declared.events.Act.TheVariants as act
use Rattle.mono_machine.specs.declared.events.Query.TheVariants as query
use Rattle.mono_machine.specs.declared.events.Reply.{Reply}
use Rattle.mono_machine.specs.declared.events.Reply.TheVariants as reply
use Rattle.mono_machine.specs.declared.events.Refusal.{Refusal}
use Rattle.mono_machine.specs.declared.events.Refusal.TheVariants as refusal
use Rattle.mono_machine.specs.declared.events.Blocking.{Blocking}
use Rattle.mono_machine.specs.declared.events.Blocking.TheVariants as blocking
use Rattle.mono_blocking.specs.JobAnswers.{IsEnd, after_end}
use Rattle.mono_blocking.specs.JobSpawns.{Seen, Made, Spawned, strategy_of}
use Rattle.mono_blocking.specs.Calls.{polled_by}
use Rattle.mono_blocking.proofs.JobPlaceLemmas.{refused_stays}
use Rattle.mono_blocking.specs.declared.jobs.ends.End.{End}
use Rattle.mono_blocking.specs.declared.jobs.handles.JobHandle.{JobHandle}
use Rattle.mono_blocking.specs.declared.jobs.refusals.SpawnError.{SpawnError}
use Rattle.mono_blocking.specs.declared.jobs.refusals.SpawnError.TheVariants as error
use Rattle.mono_time.proofs.RegistrationLemmas.{sleeps-stay}
use Rattle.mono_rt.specs.Record.{Record, noted}
use Rattle.mono_rt.specs.Refinement.{hosting_of, Matches}
use Rattle.mono_rt.specs.Leads.{Leads, leads_on, by_act, by_nothing}
use Rattle.mono_rt.specs.JobActs.{noted_end, with_blocking, SpawnsJob, AsksJob, AsksOutput}
use Rattle.mono_rt.specs.declared.parts.state.Parts.{Parts}

-- the machine with the jobs that it has
same_jobs : (m : Machine) (jobs : Jobs) → jobs ≡ m.jobs → m ≡ with_jobs m jobs
same_jobs m jobs is = ap (with_jobs m) (sym is)

made_outcome : (s : Blocking) (n : ℕ) (old new : Jobs) (m : Machine) → Made s n old new → old ≡ m.jobs → block s n m ≡ answered (reply.Job (next_number old.table)) (with_jobs m new)
made_outcome blocking.Attached n old new m made is =
    ap (λ x. answered (reply.Job (next_number x.table)) (with_jobs m (with_next_job x (job.running n None)))) (sym is) ∙ ap (λ x. answered (reply.Job (next_number old.table)) (with_jobs m x)) (sym made)
made_outcome blocking.ExecuteLocal n old new m made is =
    ap (λ x. answered (reply.Job (next_number x.table)) (with_jobs m (with_next_job x (job.ended_ok n)))) (sym is) ∙ ap (λ x. answered (reply.Job (next_number old.table)) (with_jobs m x)) (sym made)
made_outcome blocking.Panic n old new m made is = absurd made

-- a refused job is not made
module _ {J : Type 0} (job_number : J → ℕ) (work : J) (s : Blocking) (before now : ℕ) (old new : Jobs) where
  none_by : (e : SpawnError J) → Spawned job_number work (Err e) s before now old new → new ≡ old
  none_by (error.Memory back) spawned = spawned.3
  none_by (error.AtCapacity back) spawned = spawned.2
  none_by (error.NoPool back) spawned = spawned.3
  none_by error.PoolFault spawned = spawned.3

  pub made_none : (r : Result JobHandle (SpawnError J)) (e : SpawnError J) → r ≡ Err e → Spawned job_number work r s before now old new → new ≡ old
  made_none r e is spawned = none_by e (subst (λ x. Spawned job_number work x s before now old new) is spawned)

module _ {O P : Type 0} (number : O → ℕ) where
  -- other jobs, of the same strategy
  other_jobs : (c : Parts O (Seen P)) (b : Seen P) (acts : Record) (lacks : Bool) (m : Machine) (jobs : Jobs) → Matches number hosting_of c m → b.table.jobs ≡ jobs → strategy_of b.pool ≡ strategy_of c.blocking.pool
      → Matches number hosting_of (with_blocking c b acts lacks) (with_jobs m jobs)
  other_jobs c b acts lacks m jobs st is pool = record {
    tasks = st.tasks;
    sleeps = st.sleeps;
    has_gone = st.has_gone;
    no_due = st.no_due;
    enabled = st.enabled;
    inbox = st.inbox;
    jobs = is;
    strategy = pool ∙ st.strategy;
  }

  still : (c : Parts O (Seen P)) (b : Seen P) (acts : Record) (lacks : Bool) (m : Machine) → Matches number hosting_of c m → b.table.jobs ≡ c.blocking.table.jobs → strategy_of b.pool ≡ strategy_of c.blocking.pool
      → Matches number hosting_of (with_blocking c b acts lacks) m
  still c b acts lacks m st is pool = subst (Matches number hosting_of (with_blocking c b acts lacks)) (sym (same_jobs m m.jobs refl)) (other_jobs c b acts lacks m m.jobs st (is ∙ st.jobs) pool)

  -- one act on the jobs alone
  by_jobs : (c : Parts O (Seen P)) (b : Seen P) (acts : Record) (asked : TurnStep) (told : Reply) → acts ≡ noted c.acts asked told
      → ((m : Machine) → Matches number hosting_of c m → step_outcome c.me asked m ≡ answered told (with_jobs m b.table.jobs))
      → strategy_of b.pool ≡ strategy_of c.blocking.pool → Leads number hosting_of c (with_blocking c b acts c.is_out_of_memory)
  by_jobs c b acts asked told is outcome pool =
      by_act number hosting_of c (with_blocking c b acts c.is_out_of_memory) asked told is
      (λ m st. sym (ap (λ o. o.reply) (outcome m st)))
      (λ m st. subst (Matches number hosting_of (with_blocking c b acts c.is_out_of_memory)) (sym (ap (λ o. o.machine) (outcome m st))) (other_jobs c b acts c.is_out_of_memory m b.table.jobs st refl pool))
      (λ m st. sleeps-stay c.timers c.timers m.sleeps _ (ap (λ o. o.machine.sleeps) (outcome m st)) (λ q. refl))
      refl refl refl refl refl refl (λ t x is. is)

  -- a call that is no act
  pub by_no_job : (c : Parts O (Seen P)) (b : Seen P) (lacks : Bool) → b.table.jobs ≡ c.blocking.table.jobs → strategy_of b.pool ≡ strategy_of c.blocking.pool → (c.is_out_of_memory ≡ true → lacks ≡ true)
      → Leads number hosting_of c (with_blocking c b c.acts lacks)
  by_no_job c b lacks is pool memory = by_nothing number hosting_of c (with_blocking c b c.acts lacks) refl (λ m st. still c b c.acts lacks m st is pool) (λ q. refl) refl refl refl refl refl memory (λ t x is. is)

  -- the jobs after an end that was seen
  abbrev after_seen : Parts O (Seen P) → ℕ → Option End → Parts O (Seen P)
  after_seen c j end = with_blocking c (record { table = record { jobs = after_end end c.blocking.table.jobs j; joiners = c.blocking.table.joiners; room = c.blocking.table.room }; pool = c.blocking.pool }) (noted_end c.acts j end) c.is_out_of_memory

  end_leads : (c : Parts O (Seen P)) (j : ℕ) (end : Option End) → IsEnd end c.blocking.table.jobs j → Leads number hosting_of c (after_seen c j end)
  end_leads c j None is = by_no_job c (after_seen c j None).blocking c.is_out_of_memory refl refl (λ h. h)
  end_leads c j (Some e) is =
      let jobs = c.blocking.table.jobs in
      by_jobs c (after_seen c j (Some e)).blocking (noted_end c.acts j (Some e)) (step.Act (act.JobEnd j e.how)) (reply.Ended e.waiter) refl
      (λ m st. ap (λ x. answered (reply_of (end_answer x j)) (with_jobs m (job_ended x j e.how))) (sym st.jobs) ∙ ap (λ a. answered (reply_of a) (with_jobs m (job_ended jobs j e.how))) is)
      refl

  -- a call that asks for a job, perhaps after its end
  pub asks_leads : (answer_of : Jobs → ℕ → Result Reply Refusal) (after : Jobs → ℕ → Jobs) (asked : TurnStep) (j : ℕ) (answer : Result Reply Refusal) (c d : Parts O (Seen P))
      → ((m : Machine) → step_outcome c.me asked m ≡ answered (reply_of (answer_of m.jobs j)) (with_jobs m (after m.jobs j)))
      → AsksJob answer_of after asked j answer c d → Leads number hosting_of c d
  asks_leads answer_of after asked j answer c d outcome is =
      let mid = after_seen c j is.end in
      let jobs = after_end is.end c.blocking.table.jobs j in
      let acts = noted (noted_end c.acts j is.end) asked (reply_of answer) in
      let told : (m : Machine) → Matches number hosting_of mid m → step_outcome c.me asked m ≡ answered (reply_of answer) (with_jobs m d.blocking.table.jobs) =
      λ m st. outcome m ∙ ap (λ x. answered (reply_of (answer_of x j)) (with_jobs m (after x j))) (sym st.jobs)
      ∙ ap (λ a. answered (reply_of a) (with_jobs m (after jobs j))) (sym is.is_answer) ∙ ap (λ x. answered (reply_of answer) (with_jobs m x)) (sym is.jobs) in
      let last = by_jobs mid d.blocking acts asked (reply_of answer) refl told (ap strategy_of is.pool) in
      subst (Leads number hosting_of c) (sym is.parts) (leads_on number hosting_of c mid (with_blocking mid d.blocking acts mid.is_out_of_memory) (end_leads c j is.end is.is_end) last)

  -- a poll that is refused without a waker
  module _ {A : Type 0} (out : A → ℕ) (j : ℕ) (r : Refusal) (c : Parts O (Seen P)) (acts : Record) (told : poll_answer c.blocking.table.jobs j ≡ Err r) (is : acts ≡ noted c.acts (step.Query (query.Job j)) (reply.Refused r)) where
    pub refused_asks : AsksOutput out j (Err r) c (with_blocking c c.blocking acts c.is_out_of_memory)
    refused_asks = record {
      asks = record {
        end = None;
        is_end = tt;
        is_answer = sym told;
        jobs = sym (refused_stays c.blocking.table.jobs j c.me r told);
        pool = refl;
        parts = ap (λ a. with_blocking c c.blocking a c.is_out_of_memory) is;
      };
      last = None;
      shown = tt;
    }

    pub refused_leads : Leads number hosting_of c (with_blocking c c.blocking acts c.is_out_of_memory)
    refused_leads = asks_leads poll_answer (polled_by c.me) (step.Query (query.Job j)) j (Err r) c _ (λ m. refl) refused_asks.asks

  -- the machine's answer to the spawn of a job
  block_at : (c : Parts O (Seen P)) (m : Machine) (n : ℕ) (b : Bool) → Matches number hosting_of c m → is_full c.blocking.table.jobs.table c.blocking.table.jobs.limit ≡ b
      → act_outcome (act.Block n) m ≡ cond b (refused refusal.AtCapacity m) (block (strategy_of c.blocking.pool) n m)
  block_at c m n b st full =
      ap (λ s. cond (is_full m.jobs.table m.jobs.limit) (refused refusal.AtCapacity m) (block s n m)) (sym st.strategy)
      ∙ ap (λ x. cond x (refused refusal.AtCapacity m) (block (strategy_of c.blocking.pool) n m)) (ap (λ x. is_full x.table x.limit) (sym st.jobs) ∙ full)

  module _ {J : Type 0} (job_number : J → ℕ) (refusals : P → ℕ) (work : J) where
    pub spawn_leads : (answer : Result JobHandle (SpawnError J)) (c d : Parts O (Seen P)) → SpawnsJob job_number refusals work answer c d → Leads number hosting_of c d
    spawn_leads (Ok handle) c d is =
        let n = job_number work in
        subst (Leads number hosting_of c) (sym is.parts) (by_jobs c d.blocking (noted c.acts (step.Act (act.Block n)) (reply.Job handle.job)) (step.Act (act.Block n)) (reply.Job handle.job) refl
        (λ m st. block_at c m n false st is.spawned.1 ∙ made_outcome (strategy_of c.blocking.pool) n c.blocking.table.jobs d.blocking.table.jobs m is.spawned.2 st.jobs
        ∙ ap (λ k. answered (reply.Job k) (with_jobs m d.blocking.table.jobs)) (sym is.spawned.0))
        is.same_strategy)
    spawn_leads (Err (error.AtCapacity back)) c d is =
        let n = job_number work in
        subst (Leads number hosting_of c) (sym is.parts) (by_jobs c d.blocking (noted c.acts (step.Act (act.Block n)) (reply.Refused refusal.AtCapacity)) (step.Act (act.Block n)) (reply.Refused refusal.AtCapacity) refl
        (λ m st. block_at c m n true st is.spawned.1 ∙ ap (answered (reply.Refused refusal.AtCapacity)) (same_jobs m d.blocking.table.jobs (is.spawned.2 ∙ st.jobs)))
        is.same_strategy)
    spawn_leads (Err (error.NoPool back)) c d is =
        let n = job_number work in
        subst (Leads number hosting_of c) (sym is.parts) (by_jobs c d.blocking (noted c.acts (step.Act (act.Block n)) (reply.Refused refusal.NoPool)) (step.Act (act.Block n)) (reply.Refused refusal.NoPool) refl
        (λ m st. block_at c m n false st is.spawned.1 ∙ ap (λ s. block s n m) is.spawned.2 ∙ ap (answered (reply.Refused refusal.NoPool)) (same_jobs m d.blocking.table.jobs (is.spawned.3 ∙ st.jobs)))
        is.same_strategy)
    spawn_leads (Err (error.Memory back)) c d is = subst (Leads number hosting_of c) (sym is.parts) (by_no_job c d.blocking true is.spawned.3 is.same_strategy (λ h. refl))
    spawn_leads (Err error.PoolFault) c d is = subst (Leads number hosting_of c) (sym is.parts) (by_no_job c d.blocking c.is_out_of_memory is.spawned.3 is.same_strategy (λ h. h))
