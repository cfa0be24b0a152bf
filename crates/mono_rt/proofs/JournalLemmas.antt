-- The history of a runtime, piece by piece.
use Rattle.std.proofs.Common.{◌≡◌, ◌≤◌, ℕ, true, false, Bool, cond, List, [], ◌∷◌, ◌++◌, None, Option, refl, ap, sym, subst, ◌∙◌, append_assoc, append-nil}
use Rattle.mono_model.specs.Ticks.{max_nanos}
use Rattle.mono_model.specs.Tasks.{all_woken, spawned}
use Rattle.mono_model.specs.Sleeps.{Sleeps}
use Rattle.mono_model.specs.declared.Ended.{Ended}
use Rattle.mono_task.specs.Schedule as schedule
use Rattle.mono_model.specs.SleepActs as sleep
use Rattle.mono_model.specs.FireOrder.{FireInTurn}
use Rattle.mono_model.proofs.FireLemmas.{may_fire}
use Rattle.mono_time.specs.Sleeps.{IsNoneArmedUpTo}
use Rattle.mono_time.specs.Timers.{sleeps_of, elapsed_tick}
use Rattle.mono_machine.specs.Machine.{Machine, with_tasks, with_sleeps, IsValid}
use Rattle.mono_machine.specs.Steps.{Step, Run, at_clock, greatest_at, after_fires, all_fired, wakers_of, ClockStep}
use Rattle.mono_machine.specs.Turns.{turn_report, after_turn}
use Rattle.mono_time.specs.Refinement.{Keeps}
use Rattle.mono_machine.specs.declared.events.Event.{Event}
use Rattle.mono_machine.specs.declared.events.Event.TheVariants as event
use Rattle.mono_machine.specs.declared.events.Report.{Report}
use Rattle.mono_machine.specs.declared.events.Report.TheVariants as report
use Rattle.mono_machine.specs.declared.events.End.{End}
use Rattle.mono_machine.proofs.FireLemmas.{fires-apart}
use Rattle.mono_machine.proofs.ValidStepLemmas.{step_is_valid}
use Rattle.mono_rt.specs.Numbering.{numbered, drop_numbered}
use Rattle.mono_blocking.specs.JobSpawns.{Seen}
use Rattle.mono_rt.specs.Refinement.{hosting_of, Matches, MatchesValid}
use Rattle.mono_rt.specs.PartTurns.{IsTurnOf}
use Rattle.mono_rt.specs.Journals.{events_in, reports_in, Follows, Registers, Went, Goes, Does, Led, Stays, IsStep}
use Rattle.mono_rt.specs.declared.parts.state.Parts.{Parts}
use Rattle.mono_rt.specs.declared.parts.journals.Entry.{Entry}
use Rattle.mono_rt.specs.declared.parts.journals.Entry.TheVariants.{Ran, Now, Park}
use Rattle.mono_rt.specs.declared.parts.journals.Journal.{Journal}
use Rattle.mono_model.specs.Table.{next_number, is_full, value_at}
use Rattle.mono_model.specs.Joins.{drop_answer, join_dropped}
use Rattle.mono_machine.specs.Acts.{act_outcome, answered, refused}
use Rattle.mono_machine.specs.JoinCalls.{drop_reply}
use Rattle.mono_machine.specs.declared.events.Act.TheVariants as act
use Rattle.mono_machine.specs.declared.events.Reply.{Reply}
use Rattle.mono_machine.specs.declared.events.Reply.TheVariants as reply
use Rattle.mono_machine.specs.declared.events.Refusal.TheVariants as refusal
use Rattle.mono_rt.proofs.NumberLemmas.{numbered-all_woken, numbered-spawned, next_numbered, full_numbered, numbered-dropped, drop_answer-numbered}
use Rattle.mono_time.specs.Timers.{registered_of}
use Rattle.mono_time.specs.SlotRegistration.{stepped_registered}
use Rattle.mono_time.specs.Registrations.{registered_after}
use Rattle.mono_time.proofs.RegistrationLemmas.{clock-on, spawn-sleeps}
use Rattle.mono_rt.proofs.RegistrationLemmas.{registers_on, same_ticks, stays_registered, fired_greatest}
use Rattle.mono_rt.proofs.CallLemmas.{same_machine, other_tasks}

pub follows_on : (a b c : Machine) (xs ys : List Entry) → Follows a xs b → Follows b ys c → Follows a (xs ++ ys) c
follows_on a b c [] ys p q = subst (λ m. Follows m ys c) p q
follows_on a b c (Ran e r ∷ xs) ys (mid, step, rest) q = (mid, step, follows_on mid b c xs ys rest q)
follows_on a b c (Now n ∷ xs) ys p q = follows_on a b c xs ys p q
follows_on a b c (Park v ∷ xs) ys p q = follows_on a b c xs ys p q

-- the entries lead from a valid machine to a valid one
pub follows_valid : (a b : Machine) (xs : List Entry) → IsValid a → Follows a xs b → IsValid b
follows_valid a b [] valid p = subst IsValid (sym p) valid
follows_valid a b (Ran e r ∷ xs) valid (mid, step, rest) = follows_valid mid b xs (step_is_valid a e r mid valid step) rest
follows_valid a b (Now n ∷ xs) valid p = follows_valid a b xs valid p
follows_valid a b (Park v ∷ xs) valid p = follows_valid a b xs valid p

-- the events that were done are a run
pub follows_run : (a b : Machine) (xs : List Entry) → Follows a xs b → Run a (events_in xs) (reports_in xs) b
follows_run a b [] p = p
follows_run a b (Ran e r ∷ xs) (mid, step, rest) = (mid, step, follows_run mid b xs rest)
follows_run a b (Now n ∷ xs) p = follows_run a b xs p
follows_run a b (Park v ∷ xs) p = follows_run a b xs p

module _ {O P : Type 0} (number : O → ℕ) where
  -- the same machine, of other parts that are its own, too
  same_valid : (c d : Parts O (Seen P)) (m : Machine) → d.tasks ≡ c.tasks → d.timers ≡ c.timers → d.has_timers ≡ c.has_timers → d.blocking ≡ c.blocking → MatchesValid number hosting_of c m → MatchesValid number hosting_of d m
  same_valid c d m tasks timers has blocking st = record { matches = same_machine number hosting_of c d m tasks timers has blocking st.matches; valid = st.valid }

  -- the machine after a step
  stepped_valid : (d : Parts O (Seen P)) (m : Machine) (e : Event) (r : Report) (new : Machine) → IsValid m → Step m e r new → Matches number hosting_of d new → MatchesValid number hosting_of d new
  stepped_valid d m e r new valid step matches = record { matches = matches; valid = step_is_valid m e r new valid step }

  pub goes_nowhere : (c d : Parts O (Seen P)) (j k : Journal) → d.tasks ≡ c.tasks → d.timers ≡ c.timers → d.has_timers ≡ c.has_timers → d.blocking ≡ c.blocking → k.history.entries ≡ j.history.entries → Goes number c d j k
  goes_nowhere c d j k tasks timers has blocking entries = record {
    went = λ m st. record { part = []; new = m; grew = entries ∙ sym (append-nil j.history.entries); follows = refl; registers = (refl, λ s. ap (λ t. registered_of t s) timers); matches = same_valid c d m tasks timers has blocking st };
  }

  pub goes_on : (a b c : Parts O (Seen P)) (i j k : Journal) → Goes number a b i j → Goes number b c j k → Goes number a c i k
  goes_on a b c i j k p q = record {
    went = λ m st.
        let first : Went number a b i j m = p.went m st in
        let second : Went number b c j k first.new = q.went first.new first.matches in
        record {
          part = first.part ++ second.part;
          new = second.new;
          grew = second.grew ∙ ap (λ xs. xs ++ second.part) first.grew ∙ append_assoc i.history.entries first.part second.part;
          follows = follows_on m first.new second.new first.part second.part first.follows second.follows;
          registers = registers_on None m first.new second.new (registered_of a.timers) (registered_of b.timers) (registered_of c.timers) first.part second.part first.registers second.registers;
          matches = second.matches;
        };
  }

  pub goes_of : (R : Machine → List Entry → Machine → List Entry → Type 0) (c d : Parts O (Seen P)) (j k : Journal) → Does number R c d j k → Goes number c d j k
  goes_of R c d j k is = record { went = λ m st. (is.did m st).went }

  pub does_stay : (c d : Parts O (Seen P)) (j k : Journal) → d.tasks ≡ c.tasks → d.timers ≡ c.timers → d.has_timers ≡ c.has_timers → d.blocking ≡ c.blocking → k.history.entries ≡ j.history.entries → Does number Stays c d j k
  does_stay c d j k tasks timers has blocking entries = record {
    did = λ m st. record {
      went = record { part = []; new = m; grew = entries ∙ sym (append-nil j.history.entries); follows = refl; registers = (refl, λ s. ap (λ t. registered_of t s) timers); matches = same_valid c d m tasks timers has blocking st };
      is = λ rest. (refl, refl);
    };
  }

  -- the new entries are steps of the machine
  pub does_led : (c d : Parts O (Seen P)) (j k : Journal) → Goes number c d j k → Does number Led c d j k
  does_led c d j k p = record {
    did = λ m st. let went : Went number c d j k m = p.went m st in record { went = went; is = λ rest. (went.part, (refl, went.follows)) };
  }

  -- one event
  pub does_by : (c d : Parts O (Seen P)) (j k : Journal) (e : Event) (r : Report) → k.history.entries ≡ j.history.entries ++ (Ran e r) ∷ [] → ((m : Machine) → Matches number hosting_of c m → (new : Machine) × Step m e r new × Matches number hosting_of d new)
      → ((m : Machine) → Matches number hosting_of c m → (s : ℕ) → registered_of d.timers s ≡ registered_after e m s (registered_of c.timers s)) → Does number (IsStep e r) c d j k
  does_by c d j k e r grew steps registered = record {
    did = λ m st.
        let left = steps m st.matches in
        record {
          went = record { part = Ran e r ∷ []; new = left.0; grew = grew; follows = (left.0, left.1, refl); registers = (left.0, left.1, (refl, registered m st.matches)); matches = stepped_valid d m e r left.0 st.valid left.1 left.2 };
          is = λ rest. (refl, left.1);
        };
  }

  -- entries that are no events
  pub does_past : (R : Machine → List Entry → Machine → List Entry → Type 0) (c : Parts O (Seen P)) (j k : Journal) (entries : List Entry) → k.history.entries ≡ j.history.entries ++ entries → ((m : Machine) → Follows m entries m) → ((m : Machine) → Matches number hosting_of c m → Registers None m (registered_of c.timers) entries m (registered_of c.timers))
      → ((m : Machine) → Matches number hosting_of c m → (rest : List Entry) → R m (entries ++ rest) m rest) → Does number R c c j k
  does_past R c j k entries grew still ticks is = record {
    did = λ m st. record { went = record { part = entries; new = m; grew = grew; follows = still m; registers = ticks m st.matches; matches = st }; is = is m st.matches };
  }

  -- a turn
  pub does_turn : (c d x : Parts O (Seen P)) (j k : Journal) (t : ℕ) (e : End) (ended : Ended) → ((m : Machine) → Matches number hosting_of c m → IsTurnOf number t e ended c d m)
      → k.history.entries ≡ j.history.entries ++ Ran (event.Turn d.acts.steps e) (report.Turn t d.acts.replies ended) ∷ []
      → ((m : Machine) → Matches number hosting_of d m → Matches number hosting_of x m) → x.timers ≡ d.timers → Does number (IsStep (event.Turn d.acts.steps e) (report.Turn t d.acts.replies ended)) c x j k
  does_turn c d x j k t e ended is kept same timers = record {
    did = λ m st.
        let turn : IsTurnOf number t e ended c d m = is m st.matches in
        let told = turn.kept in
        let step : Step m (event.Turn d.acts.steps e) (report.Turn t d.acts.replies ended) (after_turn turn.steps e m) = (sym told.1 ∙ ap (λ s. turn_report s e m) (sym told.0), ap (λ s. after_turn s e m) (sym told.0)) in
        record {
          went = record {
            part = Ran (event.Turn d.acts.steps e) (report.Turn t d.acts.replies ended) ∷ [];
            new = after_turn turn.steps e m;
            grew = kept;
            follows = (after_turn turn.steps e m, step, refl);
            registers = (after_turn turn.steps e m, step, (refl, λ s. ap (λ ts. registered_of ts s) timers ∙ turn.registered s ∙ ap (λ xs. registered_after (event.Turn xs e) m s (registered_of c.timers s)) (sym told.0)));
            matches = stepped_valid x m (event.Turn d.acts.steps e) (report.Turn t d.acts.replies ended) (after_turn turn.steps e m) st.valid step (same _ turn.matches);
          };
          is = λ rest. (refl, step);
        };
  }

  -- a clock step
  pub does_clock : (c d : Parts O (Seen P)) (j k : Journal) (n now : ℕ) (fired wakers : List ℕ) → n ≡ now → now ≤ max_nanos → k.history.entries ≡ j.history.entries ++ (Ran (event.Clock n) (report.Fired fired)) ∷ []
      → c.has_timers ≡ true
      → ((m : Sleeps) → Keeps c.timers m → Keeps d.timers (all_fired (sleep.at_clock m now) fired) × FireInTurn (sleep.at_clock m now).table (sleep.at_clock m now).greatest fired)
      → ((m : Sleeps) → Keeps c.timers m → wakers ≡ wakers_of (sleep.at_clock m now) fired)
      → elapsed_tick d.timers ≡ (sleeps_of d.timers).greatest → IsNoneArmedUpTo (sleeps_of d.timers)
      → ((s : ℕ) → registered_of d.timers s ≡ stepped_registered (elapsed_tick c.timers) (elapsed_tick d.timers) (value_at (sleeps_of c.timers).table s) (registered_of c.timers s))
      → d.tasks ≡ schedule.with_tasks c.tasks (all_woken c.tasks.tasks wakers) → d.has_timers ≡ c.has_timers → d.blocking ≡ c.blocking → Does number (IsStep (event.Clock n) (report.Fired fired)) c d j k
  does_clock c d j k n now fired wakers is below grew are_there fires woken gone none stepped tasks has blocking =
      does_by c d j k (event.Clock n) (report.Fired fired) grew (λ m st.
      let keeps : Keeps c.timers m.sleeps = record { stands = st.sleeps; is_enabled = st.enabled ∙ are_there } in
      let fire = fires m.sleeps keeps in
      let left : Machine = after_fires (at_clock m now) fired in
      let mine : with_tasks (with_sleeps (at_clock m now) (all_fired (at_clock m now).sleeps fired)) (all_woken m.tasks (wakers_of (at_clock m now).sleeps fired)) ≡ left = sym (fires-apart (at_clock m now) fired) in (
        left,
        subst (λ x. ClockStep m x (report.Fired fired) left) (sym is) (below, may_fire m.sleeps.table (greatest_at m now) fired fire.1, refl),
        subst (Matches number hosting_of d) mine (record {
          tasks = ap (λ x. numbered number x.tasks) tasks ∙ numbered-all_woken number c.tasks.tasks wakers ∙ ap (λ x. all_woken x wakers) st.tasks ∙ ap (all_woken m.tasks) (woken m.sleeps keeps);
          sleeps = fire.0.stands;
          has_gone = gone;
          no_due = none;
          enabled = fire.0.is_enabled ∙ sym are_there ∙ sym has;
          inbox = st.inbox;
          jobs = ap (λ x. (hosting_of x).jobs) blocking ∙ st.jobs;
          strategy = ap (λ x. (hosting_of x).strategy) blocking ∙ st.strategy;
        }),
      ))
      (λ m st s.
      let keeps : Keeps c.timers m.sleeps = record { stands = st.sleeps; is_enabled = st.enabled ∙ are_there } in
      let fire = fires m.sleeps keeps in
      clock-on c.timers d.timers m n now (sym is) below st.sleeps st.has_gone (gone ∙ sym fire.0.stands.same_greatest ∙ fired_greatest (sleep.at_clock m.sleeps now) fired) s (stepped s))

  -- a task is made outside of a turn, or is refused
  pub spawn_full : (c : Parts O (Seen P)) (m : Machine) → Matches number hosting_of c m → (b : Bool) → is_full c.tasks.tasks.table c.tasks.tasks.limit ≡ b → is_full m.tasks.table m.tasks.limit ≡ b
  spawn_full c m st b is = ap (λ x. is_full x.table x.limit) (sym st.tasks) ∙ full_numbered number c.tasks.tasks ∙ is

  pub does_spawn : (c d : Parts O (Seen P)) (j k : Journal) (t : ℕ) → k.history.entries ≡ j.history.entries ++ (Ran (event.Act act.Spawn) (report.Reply (reply.Task t))) ∷ []
      → is_full c.tasks.tasks.table c.tasks.tasks.limit ≡ false → t ≡ next_number c.tasks.tasks.table → d.tasks ≡ schedule.with_tasks c.tasks (spawned c.tasks.tasks) → d.timers ≡ c.timers → d.has_timers ≡ c.has_timers → d.blocking ≡ c.blocking → Does number (IsStep (event.Act act.Spawn) (report.Reply (reply.Task t))) c d j k
  does_spawn c d j k t grew room at tasks timers has blocking =
      does_by c d j k (event.Act act.Spawn) (report.Reply (reply.Task t)) grew (λ m st.
      let free : is_full m.tasks.table m.tasks.limit ≡ false = spawn_full c m st false room in
      let outcome : act_outcome act.Spawn m ≡ answered (reply.Task (next_number m.tasks.table)) (with_tasks m (spawned m.tasks)) = ap (λ b. cond b (refused refusal.AtCapacity m) (answered (reply.Task (next_number m.tasks.table)) (with_tasks m (spawned m.tasks)))) free in (
        with_tasks m (spawned m.tasks),
        (ap (λ n. report.Reply (reply.Task n)) (at ∙ sym (next_numbered number c.tasks.tasks) ∙ ap (λ x. next_number x.table) st.tasks) ∙ sym (ap (λ o. report.Reply o.reply) outcome), sym (ap (λ o. o.machine) outcome)),
        other_tasks number hosting_of c d m (spawned m.tasks) st (ap (λ x. numbered number x.tasks) tasks ∙ numbered-spawned number c.tasks.tasks ∙ ap spawned st.tasks) timers has blocking,
      ))
      (λ m st. stays_registered c.timers d.timers m.sleeps _ timers (spawn-sleeps m))

  pub does_full : (c d : Parts O (Seen P)) (j k : Journal) → k.history.entries ≡ j.history.entries ++ (Ran (event.Act act.Spawn) (report.Reply (reply.Refused refusal.AtCapacity))) ∷ []
      → is_full c.tasks.tasks.table c.tasks.tasks.limit ≡ true → d.tasks ≡ c.tasks → d.timers ≡ c.timers → d.has_timers ≡ c.has_timers → d.blocking ≡ c.blocking → Does number (IsStep (event.Act act.Spawn) (report.Reply (reply.Refused refusal.AtCapacity))) c d j k
  does_full c d j k grew no_room tasks timers has blocking =
      does_by c d j k (event.Act act.Spawn) (report.Reply (reply.Refused refusal.AtCapacity)) grew (λ m st.
      let outcome : act_outcome act.Spawn m ≡ refused refusal.AtCapacity m = ap (λ b. cond b (refused refusal.AtCapacity m) (answered (reply.Task (next_number m.tasks.table)) (with_tasks m (spawned m.tasks)))) (spawn_full c m st true no_room) in
      (m, (sym (ap (λ o. report.Reply o.reply) outcome), sym (ap (λ o. o.machine) outcome)), same_machine number hosting_of c d m tasks timers has blocking st))
      (λ m st. stays_registered c.timers d.timers m.sleeps _ timers (spawn-sleeps m))

  -- the handle of a task is dropped outside of a turn
  pub does_drop : (c d : Parts O (Seen P)) (j k : Journal) (t : ℕ) (r : Reply) → k.history.entries ≡ j.history.entries ++ (Ran (event.Act (act.DropJoin t)) (report.Reply r)) ∷ []
      → r ≡ drop_reply (drop_numbered number (drop_answer c.tasks.tasks t)) → d.tasks ≡ schedule.with_tasks c.tasks (join_dropped c.tasks.tasks t) → d.timers ≡ c.timers → d.has_timers ≡ c.has_timers → d.blocking ≡ c.blocking → Does number (IsStep (event.Act (act.DropJoin t)) (report.Reply r)) c d j k
  does_drop c d j k t r grew is tasks timers has blocking =
      does_by c d j k (event.Act (act.DropJoin t)) (report.Reply r) grew (λ m st. (
        with_tasks m (join_dropped m.tasks t),
        (ap report.Reply (is ∙ ap drop_reply (sym (drop_answer-numbered number c.tasks.tasks t) ∙ ap (λ x. drop_answer x t) st.tasks)), refl),
        other_tasks number hosting_of c d m (join_dropped m.tasks t) st (ap (λ x. numbered number x.tasks) tasks ∙ numbered-dropped number c.tasks.tasks t ∙ ap (λ x. join_dropped x t) st.tasks) timers has blocking,
      ))
      (λ m st. stays_registered c.timers d.timers m.sleeps _ timers refl)

  -- the entries after an empty history are a run
  pub run_of : (c d : Parts O (Seen P)) (j k l : Journal) (m : Machine) → MatchesValid number hosting_of c m → j.history.entries ≡ [] → l ≡ k → Goes number c d j k → (new : Machine) × Run m (events_in l.history.entries) (reports_in l.history.entries) new
  run_of c d j k l m st empty same goes =
      let went = goes.went m st in
      let part : went.part ≡ l.history.entries = sym (ap (λ x. x.history.entries) same ∙ went.grew ∙ ap (λ xs. xs ++ went.part) empty) in
      (went.new, subst (λ xs. Run m (events_in xs) (reports_in xs) went.new) part (follows_run m went.new went.part went.follows))

  -- and the parks are those of the wheel, if no sleep was registered
  pub registers_of : (c d : Parts O (Seen P)) (j k l : Journal) (m : Machine) → MatchesValid number hosting_of c m → j.history.entries ≡ [] → l ≡ k → ((s : ℕ) → registered_of c.timers s ≡ None) → Goes number c d j k
      → (new : Machine) × ((left : ℕ → Option ℕ) × Registers None m (λ s. None) l.history.entries new left)
  registers_of c d j k l m st empty same none goes =
      let went = goes.went m st in
      let part : went.part ≡ l.history.entries = sym (ap (λ x. x.history.entries) same ∙ went.grew ∙ ap (λ xs. xs ++ went.part) empty) in
      let left = registered_of d.timers in
      (went.new, (left, subst (λ xs. Registers None m (λ s. None) xs went.new left) part (same_ticks None m (λ s. None) (registered_of c.timers) went.part went.new left (λ s. sym (none s)) went.registers)))
