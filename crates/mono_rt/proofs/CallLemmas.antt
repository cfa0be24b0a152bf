-- One call of the running task leads the parts on.
use Rattle.std.proofs.Common.{◌≡◌, ◌≤◌, ℕ, true, false, Bool, cond, Option, refl, ap, sym, subst, ◌∙◌}
use Rattle.std.specs.Prelude.{Result, Ok, Err, nat_lt}
use Rattle.std.proofs.lemmas.Bool.{le-ltb}
use Rattle.mono_model.specs.Ticks.{up, max_nanos}
use Rattle.mono_model.specs.Table.{value_at, next_number, is_full}
use Rattle.mono_model.specs.Tasks.{Tasks, woken_if_any, spawned}
use Rattle.mono_model.specs.Sleeps.{Sleeps, woken_by_arming}
use Rattle.mono_rt.specs.Outputs.{KeepsOutputs}
use Rattle.mono_rt.proofs.OutputLemmas.{keeps_spawned}
use Rattle.mono_task.specs.Schedule.{Schedule}
use Rattle.mono_task.specs.Schedule as schedule
use Rattle.mono_task.specs.declared.error.SpawnTask.{SpawnTask}
use Rattle.mono_task.specs.declared.error.SpawnTask.TheVariants.{AtCapacity}
use Rattle.mono_model.specs.SleepActs as machine
use Rattle.mono_time.specs.Sleeps.{SleepTable, IsNoneArmedUpTo}
use Rattle.mono_model.specs.SleepAnswers.{waker_in}
use Rattle.mono_time.specs.Timers.{sleeps_of, elapsed_tick, registered_of}
use Rattle.mono_time.specs.Registrations.{FollowsAct}
use Rattle.mono_time.proofs.RegistrationLemmas.{sleeps-stay}
use Rattle.mono_time.specs.Refinement.{StandsForSleeps}
use Rattle.mono_model.specs.declared.error.Error.{Error}
use Rattle.mono_time.specs.declared.timers.Timers.{Timers}
use Rattle.mono_machine.specs.Machine.{Machine, with_tasks, with_sleeps}
use Rattle.mono_machine.specs.Acts.{Outcome, step_outcome, act_outcome, answered, refused}
use Rattle.mono_machine.specs.Acts.{reset as resetting}
use Rattle.mono_machine.specs.declared.events.TurnStep.{TurnStep}
use Rattle.mono_machine.specs.declared.events.TurnStep.TheVariants as step
use Rattle.mono_machine.specs.declared.events.Reply.{Reply}
use Rattle.mono_machine.specs.declared.events.Reply.TheVariants as reply
use Rattle.mono_machine.specs.declared.events.Act.TheVariants as act
use Rattle.mono_machine.specs.declared.events.Refusal.TheVariants as refusal
use Rattle.mono_time.proofs.SleepTableLemmas.{Alike, live, gone}
use Rattle.mono_rt.specs.Record.{Record, noted}
use Rattle.mono_rt.specs.Numbering.{numbered}
use Rattle.mono_rt.specs.Refinement.{Hosting, Matches}
use Rattle.mono_rt.specs.Leads.{Leads, by_act, by_nothing}
use Rattle.mono_rt.specs.declared.parts.state.Parts.{Parts}
use Rattle.mono_rt.proofs.NumberLemmas.{numbered-woken_if_any, numbered-spawned, next_numbered, full_numbered}

-- if a task was made, there was room for it
not_both : (r : Result ℕ SpawnTask) (t : ℕ) → r ≡ Ok t → r ≡ Err AtCapacity → ⊥
not_both r t p q = cc

pub had_room : (r : Result ℕ SpawnTask) (t : ℕ) (full : Bool) → r ≡ Ok t → (full ≡ true → r ≡ Err AtCapacity) → full ≡ false
had_room r t true is full = absurd (not_both r t is (full refl))
had_room r t false is full = refl

-- a sleep is made
pub added_at : (m : Machine) (k n : ℕ) → k ≡ n → n ≤ max_nanos → is_full m.sleeps.table m.sleeps.limit ≡ false → act_outcome (act.NewSleep k) m ≡ answered (reply.Sleep (next_number m.sleeps.table)) (with_sleeps m (machine.added m.sleeps n))
added_at m k n is below free =
    let made = answered (reply.Sleep (next_number m.sleeps.table)) (with_sleeps m (machine.added m.sleeps n)) in
    ap (λ x. act_outcome (act.NewSleep x) m) is
    ∙ ap (λ b. cond b (refused refusal.AtCapacity m) (cond (nat_lt max_nanos n) (refused refusal.Invalid m) made)) free
    ∙ ap (λ b. cond b (refused refusal.Invalid m) made) (le-ltb max_nanos n below)

-- no sleep is made, as there is no place for one
pub refused_at : (m : Machine) (k : ℕ) → is_full m.sleeps.table m.sleeps.limit ≡ true → act_outcome (act.NewSleep k) m ≡ refused refusal.AtCapacity m
refused_at m k full =
    ap (λ b. cond b (refused refusal.AtCapacity m) (cond (nat_lt max_nanos k) (refused refusal.Invalid m) (answered (reply.Sleep (next_number m.sleeps.table)) (with_sleeps m (machine.added m.sleeps k))))) full

module _ {O B : Type 0} (number : O → ℕ) (hosting : B → Hosting) where
  -- with these tasks, timers and record, and else as before
  abbrev pub with_all : Parts O B → Schedule O → Timers → Record → Parts O B
  with_all c tasks timers acts = record { tasks = tasks; timers = timers; has_timers = c.has_timers; blocking = c.blocking; acts = acts; me = c.me; now = c.now; is_out_of_memory = c.is_out_of_memory }

  pub other_tasks : (c d : Parts O B) (m : Machine) (tasks : Tasks ℕ) → Matches number hosting c m → numbered number d.tasks.tasks ≡ tasks → d.timers ≡ c.timers → d.has_timers ≡ c.has_timers → d.blocking ≡ c.blocking → Matches number hosting d (with_tasks m tasks)
  other_tasks c d m tasks st is timers has blocking = record {
    tasks = is;
    sleeps = subst (λ t. StandsForSleeps t m.sleeps) (sym timers) st.sleeps;
    has_gone = subst (λ t. elapsed_tick t ≡ (sleeps_of t).greatest) (sym timers) st.has_gone;
    no_due = subst (λ t. IsNoneArmedUpTo (sleeps_of t)) (sym timers) st.no_due;
    enabled = ap (λ t. (sleeps_of t).is_enabled) timers ∙ st.enabled ∙ sym has;
    inbox = st.inbox;
    jobs = ap (λ x. (hosting x).jobs) blocking ∙ st.jobs;
    strategy = ap (λ x. (hosting x).strategy) blocking ∙ st.strategy;
  }

  pub gone_on : (old new : Timers) (table : SleepTable) → elapsed_tick old ≡ (sleeps_of old).greatest → sleeps_of new ≡ table → Alike (sleeps_of old) table → elapsed_tick new ≡ elapsed_tick old → elapsed_tick new ≡ (sleeps_of new).greatest
  gone_on old new table was is alike gone = gone ∙ was ∙ sym alike.greatest ∙ sym (ap (λ x. x.greatest) is)

  pub other_timers : (c d : Parts O B) (m : Machine) (sleeps : Sleeps) → Matches number hosting c m → d.tasks.tasks ≡ c.tasks.tasks → StandsForSleeps d.timers sleeps → elapsed_tick d.timers ≡ (sleeps_of d.timers).greatest → IsNoneArmedUpTo (sleeps_of d.timers) → (sleeps_of d.timers).is_enabled ≡ (sleeps_of c.timers).is_enabled → d.has_timers ≡ c.has_timers → d.blocking ≡ c.blocking → Matches number hosting d (with_sleeps m sleeps)
  other_timers c d m sleeps st tasks stands gone none enabled has blocking = record {
    tasks = ap (numbered number) tasks ∙ st.tasks;
    sleeps = stands;
    has_gone = gone;
    no_due = none;
    enabled = enabled ∙ st.enabled ∙ sym has;
    inbox = st.inbox;
    jobs = ap (λ x. (hosting x).jobs) blocking ∙ st.jobs;
    strategy = ap (λ x. (hosting x).strategy) blocking ∙ st.strategy;
  }

  -- a call on the tasks alone
  pub by_tasks : (c : Parts O B) (step : TurnStep) (reply : Reply) (acts : Record) (s : Schedule O) (tasks : Tasks O) (f : Tasks ℕ → Tasks ℕ)
      → acts ≡ noted c.acts step reply
      → ((m : Machine) → (step_outcome c.me step m).machine ≡ with_tasks m (f m.tasks))
      → ((m : Machine) → Matches number hosting c m → reply ≡ (step_outcome c.me step m).reply)
      → s ≡ schedule.with_tasks c.tasks tasks → numbered number tasks ≡ f (numbered number c.tasks.tasks) → KeepsOutputs c.tasks.tasks tasks
      → Leads number hosting c (with_all c s c.timers acts)
  by_tasks c step reply acts s tasks f is left answer after same outputs =
      by_act number hosting c (with_all c s c.timers acts) step reply is answer
      (λ m st. subst (Matches number hosting (with_all c s c.timers acts)) (sym (left m)) (other_tasks c (with_all c s c.timers acts) m (f m.tasks) st (ap (λ x. numbered number x.tasks) after ∙ same ∙ ap f st.tasks) refl refl refl))
      (λ m st. sleeps-stay c.timers c.timers m.sleeps _ (ap (λ x. x.sleeps) (left m)) (λ q. refl))
      refl refl (ap (λ x. x.turn) after) (ap (λ x. x.turns) after) refl refl (subst (λ x. KeepsOutputs c.tasks.tasks x.tasks) (sym after) outputs)

  -- a call on the sleeps alone
  pub by_sleeps : (c : Parts O B) (step : TurnStep) (reply : Reply) (acts : Record) (timers : Timers) (table : SleepTable) (f : Sleeps → Sleeps)
      → acts ≡ noted c.acts step reply
      → ((m : Machine) → Matches number hosting c m → (step_outcome c.me step m).machine ≡ with_sleeps m (f m.sleeps))
      → ((m : Machine) → Matches number hosting c m → reply ≡ (step_outcome c.me step m).reply)
      → sleeps_of timers ≡ table → Alike (sleeps_of c.timers) table → elapsed_tick timers ≡ elapsed_tick c.timers
      → ((m : Sleeps) → StandsForSleeps c.timers m → StandsForSleeps timers (f m))
      → (IsNoneArmedUpTo (sleeps_of c.timers) → IsNoneArmedUpTo table)
      → ((m : Machine) → Matches number hosting c m → FollowsAct c.timers timers m.sleeps (f m.sleeps))
      → Leads number hosting c (with_all c c.tasks timers acts)
  by_sleeps c step reply acts timers table f is left answer after alike gone stands rests follows =
      by_act number hosting c (with_all c c.tasks timers acts) step reply is answer
      (λ m st. subst (Matches number hosting (with_all c c.tasks timers acts)) (sym (left m st)) (other_timers c (with_all c c.tasks timers acts) m (f m.sleeps) st refl (stands m.sleeps st.sleeps) (gone_on c.timers timers table st.has_gone after alike gone) (subst IsNoneArmedUpTo (sym after) (rests st.no_due)) (ap (λ x. x.is_enabled) after ∙ alike.is_enabled) refl refl))
      (λ m st. subst (λ x. FollowsAct c.timers timers m.sleeps x.sleeps) (sym (left m st)) (follows m st))
      refl refl refl refl refl refl (λ t x is. is)

  -- a call that was refused memory, or was not kept
  abbrev pub with_memory : Parts O B → Schedule O → Timers → Bool → Parts O B
  with_memory c tasks timers is_out = record { tasks = tasks; timers = timers; has_timers = c.has_timers; blocking = c.blocking; acts = c.acts; me = c.me; now = c.now; is_out_of_memory = is_out }

  pub same_machine : (c d : Parts O B) (m : Machine) → d.tasks ≡ c.tasks → d.timers ≡ c.timers → d.has_timers ≡ c.has_timers → d.blocking ≡ c.blocking → Matches number hosting c m → Matches number hosting d m
  same_machine c d m tasks timers has blocking st = record {
    tasks = ap (λ x. numbered number x.tasks) tasks ∙ st.tasks;
    sleeps = subst (λ t. StandsForSleeps t m.sleeps) (sym timers) st.sleeps;
    has_gone = subst (λ t. elapsed_tick t ≡ (sleeps_of t).greatest) (sym timers) st.has_gone;
    no_due = subst (λ t. IsNoneArmedUpTo (sleeps_of t)) (sym timers) st.no_due;
    enabled = ap (λ t. (sleeps_of t).is_enabled) timers ∙ st.enabled ∙ sym has;
    inbox = st.inbox;
    jobs = ap (λ x. (hosting x).jobs) blocking ∙ st.jobs;
    strategy = ap (λ x. (hosting x).strategy) blocking ∙ st.strategy;
  }

  -- a task is made, or there is no place for it
  pub full_for : (c : Parts O B) (m : Machine) → Matches number hosting c m → (b : Bool) → is_full c.tasks.tasks.table c.tasks.tasks.limit ≡ b → is_full m.tasks.table m.tasks.limit ≡ b
  full_for c m st b is = ap (λ x. is_full x.table x.limit) (sym st.tasks) ∙ full_numbered number c.tasks.tasks ∙ is

  abbrev spawning : Machine → Bool → Outcome
  spawning m b = cond b (refused refusal.AtCapacity m) (answered (reply.Task (next_number m.tasks.table)) (with_tasks m (spawned m.tasks)))

  pub by_spawn : (c : Parts O B) (t : ℕ) (acts : Record) (s : Schedule O) → acts ≡ noted c.acts (step.Act act.Spawn) (reply.Task t)
      → is_full c.tasks.tasks.table c.tasks.tasks.limit ≡ false → t ≡ next_number c.tasks.tasks.table → s ≡ schedule.with_tasks c.tasks (spawned c.tasks.tasks) → Leads number hosting c (with_all c s c.timers acts)
  by_spawn c t acts s is room at after =
      let d = with_all c s c.timers acts in
      let outcome : (m : Machine) → Matches number hosting c m → act_outcome act.Spawn m ≡ spawning m false = λ m st. ap (spawning m) (full_for c m st false room) in
      by_act number hosting c d (step.Act act.Spawn) (reply.Task t) is
      (λ m st. ap reply.Task (at ∙ sym (next_numbered number c.tasks.tasks) ∙ ap (λ x. next_number x.table) st.tasks) ∙ sym (ap (λ o. o.reply) (outcome m st)))
      (λ m st. subst (Matches number hosting d) (sym (ap (λ o. o.machine) (outcome m st))) (other_tasks c d m (spawned m.tasks) st (ap (λ x. numbered number x.tasks) after ∙ numbered-spawned number c.tasks.tasks ∙ ap spawned st.tasks) refl refl refl))
      (λ m st. sleeps-stay c.timers c.timers m.sleeps _ (ap (λ o. o.machine.sleeps) (outcome m st)) (λ q. refl))
      refl refl (ap (λ x. x.turn) after) (ap (λ x. x.turns) after) refl refl (subst (λ x. KeepsOutputs c.tasks.tasks x.tasks) (sym after) (keeps_spawned c.tasks.tasks))

  pub by_no_place : (c : Parts O B) (acts : Record) (s : Schedule O) → acts ≡ noted c.acts (step.Act act.Spawn) (reply.Refused refusal.AtCapacity)
      → is_full c.tasks.tasks.table c.tasks.tasks.limit ≡ true → s ≡ c.tasks → Leads number hosting c (with_all c s c.timers acts)
  by_no_place c acts s is no_room same =
      let d = with_all c s c.timers acts in
      let outcome : (m : Machine) → Matches number hosting c m → act_outcome act.Spawn m ≡ spawning m true = λ m st. ap (spawning m) (full_for c m st true no_room) in
      by_act number hosting c d (step.Act act.Spawn) (reply.Refused refusal.AtCapacity) is
      (λ m st. sym (ap (λ o. o.reply) (outcome m st)))
      (λ m st. subst (Matches number hosting d) (sym (ap (λ o. o.machine) (outcome m st))) (same_machine c d m same refl refl refl st))
      (λ m st. sleeps-stay c.timers c.timers m.sleeps _ (ap (λ o. o.machine.sleeps) (outcome m st)) (λ q. refl))
      refl refl (ap (λ x. x.turn) same) (ap (λ x. x.turns) same) refl refl (subst (λ x. KeepsOutputs c.tasks.tasks x.tasks) (sym same) (λ q x at. at))

  pub by_refusal : (c : Parts O B) (s : Schedule O) → s ≡ c.tasks → Leads number hosting c (with_memory c s c.timers true)
  by_refusal c s is = by_nothing number hosting c (with_memory c s c.timers true) refl (λ m st. same_machine c (with_memory c s c.timers true) m is refl refl refl st) (λ q. refl) refl refl (ap (λ x. x.turn) is) (ap (λ x. x.turns) is) refl (λ h. refl)
      (subst (λ x. KeepsOutputs c.tasks.tasks x.tasks) (sym is) (λ q x at. at))

  -- the table of sleeps refines the machine's sleeps as before
  pub by_no_sleep : (c : Parts O B) (timers : Timers) (is_out : Bool) → sleeps_of timers ≡ sleeps_of c.timers → elapsed_tick timers ≡ elapsed_tick c.timers → ((m : Sleeps) → StandsForSleeps c.timers m → StandsForSleeps timers m)
      → ((s : ℕ) → registered_of timers s ≡ registered_of c.timers s) → (c.is_out_of_memory ≡ true → is_out ≡ true) → Leads number hosting c (with_memory c c.tasks timers is_out)
  by_no_sleep c timers is_out same gone stands stays memory =
      by_nothing number hosting c (with_memory c c.tasks timers is_out) refl
      (λ m st. record { tasks = st.tasks; sleeps = stands m.sleeps st.sleeps; has_gone = gone ∙ st.has_gone ∙ sym (ap (λ x. x.greatest) same); no_due = subst IsNoneArmedUpTo (sym same) st.no_due; enabled = ap (λ x. x.is_enabled) same ∙ st.enabled; inbox = st.inbox; jobs = st.jobs; strategy = st.strategy })
      stays refl refl refl refl refl memory (λ t x is. is)

  -- a reset that found a live sleep
  module _ (m : Machine) (s now : ℕ) (waker : Option ℕ) where
    pub reset_is : now ≤ max_nanos → Ok waker ≡ machine.reset_answer m.sleeps s now → act_outcome (act.Reset s now) m ≡ resetting s now m
    reset_is below answer =
        live (λ value. woken_by_arming value m.sleeps (up now)) m (cond (nat_lt max_nanos now) (refused refusal.Invalid m) (resetting s now m)) (value_at m.sleeps.table s) waker (sym answer)
        ∙ ap (λ b. cond b (refused refusal.Invalid m) (resetting s now m)) (le-ltb max_nanos now below)

    pub reset_left : (c d : Parts O B) → Matches number hosting c m → d.tasks ≡ schedule.with_tasks c.tasks (woken_if_any c.tasks.tasks waker) → StandsForSleeps d.timers (machine.reset m.sleeps s now) → elapsed_tick d.timers ≡ (sleeps_of d.timers).greatest → IsNoneArmedUpTo (sleeps_of d.timers) → (sleeps_of d.timers).is_enabled ≡ (sleeps_of c.timers).is_enabled → d.has_timers ≡ c.has_timers → d.blocking ≡ c.blocking
        → Ok waker ≡ machine.reset_answer m.sleeps s now → Matches number hosting d (resetting s now m).machine
    reset_left c d st woken stands gone none enabled has blocking answer = record {
      tasks = ap (λ x. numbered number x.tasks) woken ∙ numbered-woken_if_any number c.tasks.tasks waker ∙ ap (λ t. woken_if_any t waker) st.tasks ∙ ap (λ a. woken_if_any m.tasks (machine_waker a)) answer;
      sleeps = stands;
      has_gone = gone;
      no_due = none;
      enabled = enabled ∙ st.enabled ∙ sym has;
      inbox = st.inbox;
      jobs = ap (λ x. (hosting x).jobs) blocking ∙ st.jobs;
      strategy = ap (λ x. (hosting x).strategy) blocking ∙ st.strategy;
    }
      where
        machine_waker : Result (Option ℕ) Error → Option ℕ
        machine_waker = waker_in
