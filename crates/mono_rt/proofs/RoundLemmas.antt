-- The history of a runtime is in a relation, piece by piece.
use Rattle.std.proofs.Common.{◌≡◌, ◌≤◌, ℕ, true, false, Bool, List, [], ◌∷◌, ◌++◌, refl, ap, sym, subst, ◌∙◌, append_assoc, append-nil}
use Rattle.std.specs.Prelude.{AllPairs, ◌≢◌, ◌<◌, ◌^◌, ◌+◌, ◌-◌, ◌*◌, ◌⊎◌, min, length}
use Rattle.std.proofs.Common.{inl, inr, suc, arith}
use Rattle.mono_machine.specs.declared.events.TurnStep.{TurnStep}
use Rattle.mono_machine.specs.declared.events.End.{End}
use Rattle.mono_machine.specs.declared.events.Reply.{Reply}
use Rattle.mono_machine.specs.declared.events.Act.TheVariants as act
use Rattle.mono_machine.specs.declared.events.Reply.TheVariants as reply
use Rattle.mono_machine.specs.declared.events.Event.TheVariants as event
use Rattle.mono_machine.specs.declared.events.Report.TheVariants as report
use Rattle.mono_model.specs.declared.Ended.{Ended}
use Rattle.mono_machine.specs.Steps.{Step}
use Rattle.mono_rt.specs.declared.parts.journals.Entry.TheVariants.{Now}
use Rattle.mono_model.specs.Tasks.{all_woken}
use Rattle.mono_task.specs.Schedule as schedule
use Rattle.mono_machine.specs.Machine.{Machine, with_tasks}
use Rattle.mono_rt.specs.Numbering.{numbered}
use Rattle.mono_rt.specs.Drains.{remotes, listed, drain_of, DrainsAll}
use Rattle.mono_rt.specs.Rounds.{Drained, OneTurn, Turns, UpToOneTurn, TurnEnds, Round, RoundBreaks, ParkedDrained, ParkBreaks, ParkFails, WaitEnds, broken_after, PausesBreak, PauseBreaks, PausesFail, PauseFails, PassBreaks, LaterBreaks, most_turns, most_turns_of, IsPark, IsClock, Parks, Pauses, Pause, Pass, PassEnds, Rounds, Breaks, Ends, PauseEnds, is_main_done, cost, IsSpawn, IsRefused, DropsFor, output_in, RunsMain, Blocked}
use Rattle.mono_rt.specs.Progress.{turn_answer}
use Rattle.std.specs.Prelude.{⊤, Result, Ok, Err, OnOk, OnErr}
use Rattle.std.specs.Option.{option_map}
use Rattle.std.proofs.Common.{Option, Some, None}
use Rattle.mono_model.specs.Table.{value_at}
use Rattle.mono_model.specs.Tasks.{Task, Phase, idle, queued, running, done, taken}
use Rattle.mono_task.specs.Work.{has_output, is_done}
use Rattle.mono_rt.specs.SpawnErrors.{OnCapacity, OnMemory}
use Rattle.mono_rt.specs.Numbering.{phase_numbered, task_numbered}
use Rattle.mono_rt.specs.declared.parts.errors.RunError.{RunError}
use Rattle.mono_rt.specs.declared.parts.errors.RunError.TheVariants as error
use Rattle.mono_rt.proofs.NumberLemmas.{value_numbered}
use Rattle.mono_rt.proofs.NumberLemmas.{numbered-all_woken}
use Rattle.mono_rt.proofs.CallLemmas.{other_tasks}
use Rattle.mono_rt.proofs.DrainLemmas.{remotes_numbered, listed_numbered, drained_is, drained_follow}
use Rattle.mono_blocking.specs.JobSpawns.{Seen}
use Rattle.mono_rt.specs.Refinement.{hosting_of, Matches, MatchesValid}
use Rattle.mono_rt.specs.Journals.{Follows, Did, Does, Stays, IsStep, IsReading}
use Rattle.mono_rt.specs.declared.parts.state.Parts.{Parts}
use Rattle.mono_rt.specs.declared.parts.journals.Entry.{Entry}
use Rattle.mono_rt.specs.declared.parts.journals.Journal.{Journal}
use Rattle.mono_time.specs.Timers.{registered_of}
use Rattle.mono_rt.proofs.RegistrationLemmas.{registers_on, drained_registers}
use Rattle.mono_rt.proofs.JournalLemmas.{follows_on, follows_valid, does_stay}

abbrev pub Relation : Type 1
Relation = Machine → List Entry → Machine → List Entry → Type 0

pub most_is : (queue mul add most q units : ℕ) → units < 2 ^ 64 → queue ≡ q → mul ≡ min (queue * 2) (2 ^ 64 - 1) → add ≡ min (mul + 1) (2 ^ 64 - 1) → most ≡ min add units → most ≡ min units (2 * q + 1)
most_is queue mul add most q units below a b c d = omega (arith, below, a, b, c, d)

pub no_queue : (queue : List ℕ) (n : ℕ) → n ≡ length queue → n ≡ 0 → queue ≡ []
no_queue [] n is none = refl
no_queue (x ∷ xs) n is none = absurd (omega (arith, is, none))

pub some_queue : (queue : List ℕ) (h : Bool) (m new : Machine) (part rest : List Entry) → 0 < length queue → Drained m part new rest → Pauses h queue m part new rest
some_queue [] h m new part rest some is = absurd (omega (arith, some))
some_queue (x ∷ xs) h m new part rest some is = is

pub some_fails : (queue : List ℕ) (h : Bool) (m new : Machine) (part rest : List Entry) → 0 < length queue → Drained m part new rest ⊎ Stays m part new rest → PausesFail h queue m part new rest
some_fails [] h m new part rest some is = absurd (omega (arith, some))
some_fails (x ∷ xs) h m new part rest some is = is

pub some_breaks : (queue : List ℕ) (h : Bool) (m new : Machine) (part rest : List Entry) → 0 < length queue → Stays m part new rest → PausesBreak h queue m part new rest
some_breaks [] h m new part rest some is = absurd (omega (arith, some))
some_breaks (x ∷ xs) h m new part rest some is = is

-- two entries that are no events
pub two_pushed : (i j k : Journal) (one two : Entry) → j.history.entries ≡ i.history.entries ++ one ∷ [] → k.history.entries ≡ j.history.entries ++ two ∷ [] → k.history.entries ≡ i.history.entries ++ one ∷ two ∷ []
two_pushed i j k one two a b = b ∙ ap (λ xs. xs ++ two ∷ []) a ∙ append_assoc i.history.entries (one ∷ []) (two ∷ [])

suc_one : (n : ℕ) → suc n ≡ n + 1
suc_one n = omega arith

-- a drain and a clock step
abbrev DrainedClock : Machine → List Entry → Machine → List Entry → Type 0
DrainedClock old part new rest = (mid : Machine) × ((left : List Entry) × (Drained old part mid left × IsClock mid left new rest))

abbrev pub Finishes : Bool → ℕ → ℕ → Result ℕ RunError → Relation
Finishes h main units r old part new rest = (ended : Machine) × ((last : List Entry) × (Ends {A = ℕ} h main units r old part ended last × DropsFor main (output_in r) ended last new rest))

-- whether a task has an output is the same with numbers in the place of outputs
module _ {O : Type 0} (number : O → ℕ) where
  output_phase : (phase : Phase O) → is_done (phase_numbered number phase) ≡ is_done phase
  output_phase idle = refl
  output_phase queued = refl
  output_phase (running noted) = refl
  output_phase (done output) = refl
  output_phase taken = refl

  output_by : (v : Option (Task O)) → has_output (option_map (task_numbered number) v) ≡ has_output v
  output_by None = refl
  output_by (Some task) = output_phase task.phase

module _ {O P : Type 0} (number : O → ℕ) where
  -- one after the other
  pub does_on : (R S T : Relation) (a b c : Parts O (Seen P)) (i j k : Journal)
      → ((m mid new : Machine) (xs ys zs : List Entry) → Matches number hosting_of a m → Matches number hosting_of b mid → Matches number hosting_of c new → R m xs mid ys → S mid ys new zs → T m xs new zs)
      → Does number R a b i j → Does number S b c j k → Does number T a c i k
  does_on R S T a b c i j k law p q = record {
    did = λ m st.
        let first : Did number R a b i j m = p.did m st in
        let second : Did number S b c j k first.went.new = q.did first.went.new first.went.matches in
        let xs : List Entry = first.went.part in
        let ys : List Entry = second.went.part in
        record {
          went = record {
            part = xs ++ ys;
            new = second.went.new;
            grew = second.went.grew ∙ ap (λ zs. zs ++ ys) first.went.grew ∙ append_assoc i.history.entries xs ys;
            follows = follows_on m first.went.new second.went.new xs ys first.went.follows second.went.follows;
            registers = registers_on None m first.went.new second.went.new (registered_of a.timers) (registered_of b.timers) (registered_of c.timers) xs ys first.went.registers second.went.registers;
            matches = second.went.matches;
          };
          is = λ rest. subst (λ zs. T m zs second.went.new rest) (sym (append_assoc xs ys rest))
              (law m first.went.new second.went.new (xs ++ (ys ++ rest)) (ys ++ rest) rest st.matches first.went.matches.matches second.went.matches.matches (first.is (ys ++ rest)) (second.is rest));
        };
  }

  -- consequences of a relation
  pub does_more : (R T : Relation) (c d : Parts O (Seen P)) (j k : Journal)
      → ((m new : Machine) (xs zs : List Entry) → Matches number hosting_of c m → Matches number hosting_of d new → R m xs new zs → T m xs new zs)
      → Does number R c d j k → Does number T c d j k
  does_more R T c d j k law p = record {
    did = λ m st.
        let first : Did number R c d j k m = p.did m st in
        record { went = first.went; is = λ rest. law m first.went.new (first.went.part ++ rest) rest st.matches first.went.matches.matches (first.is rest) };
  }

  -- if nothing was done before, or after
  pub stay_on : (T : Relation) (a b c : Parts O (Seen P)) (i j k : Journal) → Does number Stays a b i j → Does number T b c j k → Does number T a c i k
  stay_on T a b c i j k p q = does_on Stays T T a b c i j k (λ m mid new xs ys zs stm std stn is t. subst (λ x. T x xs new zs) is.1 (subst (λ w. T mid w new zs) (sym is.0) t)) p q

  pub on_stay : (T : Relation) (a b c : Parts O (Seen P)) (i j k : Journal) → Does number T a b i j → Does number Stays b c j k → Does number T a c i k
  on_stay T a b c i j k p q = does_on T Stays T a b c i j k (λ m mid new xs ys zs stm std stn t is. subst (λ x. T m xs x zs) (sym is.1) (subst (λ w. T m xs mid w) is.0 t)) p q

  -- the waiting tasks are drained
  pub does_drain : (c d : Parts O (Seen P)) (j k l : Journal) (ts woken : List ℕ) → AllPairs (λ s t. s ≢ t) ts
      → k.history.entries ≡ j.history.entries ++ remotes c.tasks.tasks ts → woken ≡ listed c.tasks.tasks ts
      → l.history.entries ≡ k.history.entries ++ (drain_of woken) ∷ []
      → d.tasks ≡ schedule.with_tasks c.tasks (all_woken c.tasks.tasks woken) → d.timers ≡ c.timers → d.has_timers ≡ c.has_timers → d.blocking ≡ c.blocking → Does number (DrainsAll ts) c d j l
  does_drain c d j k l ts woken once told are grew tasks timers has blocking = record {
    did = λ m st.
        let before : remotes c.tasks.tasks ts ≡ remotes m.tasks ts = sym (remotes_numbered number c.tasks.tasks ts) ∙ ap (λ x. remotes x ts) st.matches.tasks in
        let mine : woken ≡ listed m.tasks ts = are ∙ sym (listed_numbered number c.tasks.tasks ts) ∙ ap (λ x. listed x ts) st.matches.tasks in
        let new : Machine = with_tasks m (all_woken m.tasks (listed m.tasks ts)) in
        let part : List Entry = remotes m.tasks ts ++ drain_of (listed m.tasks ts) ∷ [] in
        let drained : (rest : List Entry) → DrainsAll ts m (remotes m.tasks ts ++ drain_of (listed m.tasks ts) ∷ rest) new rest = λ rest. drained_is ts m rest st.matches.inbox once in
        let follows : Follows m part new = drained_follow m new new part [] (drained []).0 refl in
        record {
          went = record {
            part = part;
            new = new;
            grew = grew ∙ ap (λ xs. xs ++ drain_of woken ∷ []) (told ∙ ap (λ xs. j.history.entries ++ xs) before)
                ∙ append_assoc j.history.entries (remotes m.tasks ts) (drain_of woken ∷ []) ∙ ap (λ x. j.history.entries ++ (remotes m.tasks ts ++ drain_of x ∷ [])) mine;
            follows = follows;
            registers = drained_registers m new new (registered_of c.timers) (registered_of d.timers) part [] (drained []).0 (refl, λ s. ap (λ x. registered_of x s) timers);
            matches = record {
              matches = other_tasks number hosting_of c d m (all_woken m.tasks (listed m.tasks ts)) st.matches
                  (ap (λ x. numbered number x.tasks) tasks ∙ numbered-all_woken number c.tasks.tasks woken ∙ ap (λ x. all_woken x woken) st.matches.tasks ∙ ap (all_woken m.tasks) mine) timers has blocking;
              valid = follows_valid m new part st.valid follows;
            };
          };
          is = λ rest. subst (λ xs. DrainsAll ts m xs new rest) (sym (append_assoc (remotes m.tasks ts) (drain_of (listed m.tasks ts) ∷ []) rest)) (drained rest);
        };
  }

  pub drains_some : (ts : List ℕ) (c d : Parts O (Seen P)) (j k : Journal) → Does number (DrainsAll ts) c d j k → Does number Drained c d j k
  drains_some ts c d j k = does_more (DrainsAll ts) Drained c d j k (λ m new xs ys st std is. is.0)

  -- the clock is read, and a task has its turn
  pub does_one : (a b c : Parts O (Seen P)) (i j k : Journal) (steps : List TurnStep) (e : End) (t : ℕ) (replies : List Reply) (ended : Ended) → Does number IsReading a b i j → Does number (IsStep (event.Turn steps e) (report.Turn t replies ended)) b c j k → Does number OneTurn a c i k
  does_one a b c i j k steps e t replies ended p q = does_on IsReading (IsStep (event.Turn steps e) (report.Turn t replies ended)) OneTurn a b c i j k
      (λ m mid new xs ys zs stm std stn read step. record {
        now = read.0;
        steps = steps;
        ending = e;
        task = t;
        replies = replies;
        ended = ended;
        entries = read.1.0 ∙ ap (λ ws. Now read.0 ∷ ws) step.0;
        step = subst (λ x. Step x (event.Turn steps e) (report.Turn t replies ended) new) read.1.1.0 step.1;
        in_range = read.1.1.1;
      })
      p q

  -- by whether memory ran out in it
  pub turn_ends : (lacks : Bool) (c d : Parts O (Seen P)) (j k : Journal) → Does number OneTurn c d j k → Does number (TurnEnds (turn_answer lacks)) c d j k
  turn_ends true c d j k p = does_more OneTurn UpToOneTurn c d j k (λ m new xs zs stm stn is. inr is) p
  turn_ends false c d j k p = p

  -- one more turn
  pub turns_more : (n : ℕ) (a b c : Parts O (Seen P)) (i j k : Journal) → Does number (Turns n) a b i j → Does number OneTurn b c j k → Does number (Turns (n + 1)) a c i k
  turns_more n a b c i j k p q = does_on (Turns n) OneTurn (Turns (n + 1)) a b c i j k (λ m mid new xs ys zs stm std stn turns one. subst (λ x. Turns x m xs new zs) (suc_one n) (mid, (ys, (turns, one)))) p q

  pub no_turns : (c : Parts O (Seen P)) (j : Journal) → Does number (Turns 0) c c j j
  no_turns c j = does_stay number c c j j refl refl refl refl refl

  -- the turns that were done are a round
  pub does_round : (n units left : ℕ) (c d : Parts O (Seen P)) (j k : Journal) → Does number (Turns n) c d j k → n ≤ min units (2 * length c.tasks.tasks.queue + 1) → (d.tasks.tasks.queue ≡ []) ⊎ (n ≡ min units (2 * length c.tasks.tasks.queue + 1)) → left ≡ units - n → Does number (Round units left) c d j k
  does_round n units left c d j k p within ends is = does_more (Turns n) (Round units left) c d j k
      (λ m new xs zs stm stn turns.
      let most : min units (2 * length c.tasks.tasks.queue + 1) ≡ most_turns units m = ap (λ x. most_turns_of units x.queue) stm.tasks in
      record {
        turns = n;
        are = turns;
        within = subst (λ x. n ≤ x) most within;
        ends = elim ends [ inl empty ↦ inl (sym (ap (λ x. x.queue) stn.tasks) ∙ empty) | inr all ↦ inr (all ∙ most) ];
        units_left = is;
      })
      p

  -- the turns of a round, and then memory ran out
  pub round_breaks : (n units : ℕ) (a b c : Parts O (Seen P)) (i j k : Journal) → n < min units (2 * length a.tasks.tasks.queue + 1) → Does number (Turns n) a b i j → Does number UpToOneTurn b c j k → Does number (RoundBreaks units) a c i k
  round_breaks n units a b c i j k below p q = does_on (Turns n) UpToOneTurn (RoundBreaks units) a b c i j k
      (λ m mid new xs ys zs stm std stn turns more.
      let within : n < most_turns units m = subst (λ x. n < x) (ap (λ x. most_turns_of units x.queue) stm.tasks) below in
      elim more [
        | inl stays ↦ (n, (subst (λ x. Turns n m xs x zs) (sym stays.1) (subst (λ w. Turns n m xs mid w) stays.0 turns), omega (arith, within)))
        | inr one ↦ (suc n, ((mid, (ys, (turns, one))), omega (arith, within)))
      ])
      p q

  -- memory ran out between two rounds
  pub park_refused : (h : Bool) (c d : Parts O (Seen P)) (j k : Journal) → Does number Stays c d j k → Does number (ParkBreaks h) c d j k
  park_refused h c d j k p = does_more Stays (ParkBreaks h) c d j k (λ m new xs zs stm stn is. inl is) p

  pub drain_refused : (failed h : Bool) (a b c : Parts O (Seen P)) (i j k : Journal) → Does number (IsPark h) a b i j → Does number Stays b c j k → Does number (WaitEnds h (broken_after failed)) a c i k
  drain_refused true h a b c i j k p q = does_more (IsPark h) (ParkFails h) a c i k (λ m new xs zs stm stn is. inr (inl is)) (on_stay (IsPark h) a b c i j k p q)
  drain_refused false h a b c i j k p q = does_more (IsPark h) (ParkBreaks h) a c i k (λ m new xs zs stm stn is. inr (inl is)) (on_stay (IsPark h) a b c i j k p q)

  parked_drained : (h : Bool) (a b c d : Parts O (Seen P)) (i j k l : Journal) → h ≡ true → Does number (IsPark h) a b i j → Does number Drained b c j k → Does number Stays c d k l → Does number (ParkedDrained h) a d i l
  parked_drained h a b c d i j k l timers p q s =
      does_on (IsPark h) Drained (ParkedDrained h) a b d i j l (λ m mid new xs ys zs stm std stn park drains. record { parked = mid; left = ys; parks = park; drains = drains; timers = timers }) p (on_stay Drained b c d j k l q s)

  pub clock_refused : (failed h : Bool) (a b c d : Parts O (Seen P)) (i j k l : Journal) → h ≡ true → Does number (IsPark h) a b i j → Does number Drained b c j k → Does number Stays c d k l → Does number (WaitEnds h (broken_after failed)) a d i l
  clock_refused true h a b c d i j k l timers p q s = does_more (ParkedDrained h) (ParkFails h) a d i l (λ m new xs zs stm stn is. inr (inr is)) (parked_drained h a b c d i j k l timers p q s)
  clock_refused false h a b c d i j k l timers p q s = does_more (ParkedDrained h) (ParkBreaks h) a d i l (λ m new xs zs stm stn is. inr (inr is)) (parked_drained h a b c d i j k l timers p q s)

  -- memory lasted
  pub wait_whole : (failed h : Bool) (c d : Parts O (Seen P)) (j k : Journal) → Does number (Parks h) c d j k → Does number (WaitEnds h (Ok failed)) c d j k
  wait_whole true h c d j k p = does_more (Parks h) (ParkFails h) c d j k (λ m new xs zs stm stn is. inl is) p
  wait_whole false h c d j k p = p

  -- the driver failed between two rounds
  pub pause_failed : {X : Type 0} (r : Result X RunError) (h : Bool) (c d : Parts O (Seen P)) (j k : Journal) → 0 < length c.tasks.tasks.queue → OnOk r (Does number Drained c d j k) → OnErr r (Does number Stays c d j k) → Does number (PauseFails h) c d j k
  pause_failed (Ok x) h c d j k some drained refused =
      does_more Drained (PauseFails h) c d j k (λ m new xs zs stm stn is. subst (λ q. PausesFail h q m xs new zs) (ap (λ x. x.queue) stm.tasks) (some_fails c.tasks.tasks.queue h m new xs zs some (inl is))) drained
  pause_failed (Err e) h c d j k some drained refused =
      does_more Stays (PauseFails h) c d j k (λ m new xs zs stm stn is. subst (λ q. PausesFail h q m xs new zs) (ap (λ x. x.queue) stm.tasks) (some_fails c.tasks.tasks.queue h m new xs zs some (inr is))) refused

  pub pause_unparked : (h : Bool) (c d : Parts O (Seen P)) (j k : Journal) → c.tasks.tasks.queue ≡ [] → Does number (ParkFails h) c d j k → Does number (PauseFails h) c d j k
  pause_unparked h c d j k none p = does_more (ParkFails h) (PauseFails h) c d j k (λ m new xs zs stm stn is. subst (λ q. PausesFail h q m xs new zs) (sym none ∙ ap (λ x. x.queue) stm.tasks) is) p

  pub pause_refused : (h : Bool) (c d : Parts O (Seen P)) (j k : Journal) → 0 < length c.tasks.tasks.queue → Does number Stays c d j k → Does number (PauseBreaks h) c d j k
  pause_refused h c d j k some p = does_more Stays (PauseBreaks h) c d j k (λ m new xs zs stm stn is. subst (λ q. PausesBreak h q m xs new zs) (ap (λ x. x.queue) stm.tasks) (some_breaks c.tasks.tasks.queue h m new xs zs some is)) p

  pub pause_waited : (h : Bool) (c d : Parts O (Seen P)) (j k : Journal) → c.tasks.tasks.queue ≡ [] → Does number (ParkBreaks h) c d j k → Does number (PauseBreaks h) c d j k
  pause_waited h c d j k none p = does_more (ParkBreaks h) (PauseBreaks h) c d j k (λ m new xs zs stm stn is. subst (λ q. PausesBreak h q m xs new zs) (sym none ∙ ap (λ x. x.queue) stm.tasks) is) p

  -- parks, and between two rounds
  pub does_parks : (a b c : Parts O (Seen P)) (i j k : Journal) → Does number (IsPark false) a b i j → Does number Drained b c j k → Does number (Parks false) a c i k
  does_parks a b c i j k p q = does_on (IsPark false) Drained (Parks false) a b c i j k
      (λ m mid new xs ys zs stm std stn park drains. record { parked = mid; left = ys; parks = park; drained = new; after = zs; drains = drains; clock = (refl, refl) }) p q

  pub does_clocked : (a b c d : Parts O (Seen P)) (i j k l : Journal) → Does number (IsPark true) a b i j → Does number Drained b c j k → Does number IsClock c d k l → Does number (Parks true) a d i l
  does_clocked a b c d i j k l p q s = does_on (IsPark true) DrainedClock (Parks true) a b d i j l (λ m mid new xs ys zs stm std stn park rest. record {
    parked = mid;
    left = ys;
    parks = park;
    drained = rest.0;
    after = rest.1.0;
    drains = rest.1.1.0;
    clock = rest.1.1.1;
  }) p (does_on Drained IsClock DrainedClock b c d j k l (λ m mid new xs ys zs stm std stn drains clock. (mid, (ys, (drains, clock)))) q s)

  pub pause_some : (h : Bool) (c d : Parts O (Seen P)) (j k : Journal) → 0 < length c.tasks.tasks.queue → Does number Drained c d j k → Does number (Pause h) c d j k
  pause_some h c d j k some p = does_more Drained (Pause h) c d j k (λ m new xs zs stm stn is. subst (λ q. Pauses h q m xs new zs) (ap (λ x. x.queue) stm.tasks) (some_queue c.tasks.tasks.queue h m new xs zs some is)) p

  pub pause_none : (h : Bool) (c d : Parts O (Seen P)) (j k : Journal) → c.tasks.tasks.queue ≡ [] → Does number (Parks h) c d j k → Does number (Pause h) c d j k
  pause_none h c d j k none p = does_more (Parks h) (Pause h) c d j k (λ m new xs zs stm stn is. subst (λ q. Pauses h q m xs new zs) (sym none ∙ ap (λ x. x.queue) stm.tasks) is) p

  pub does_pass : (h : Bool) (units u left : ℕ) (a b c : Parts O (Seen P)) (i j k : Journal) → u ≡ units - cost a.tasks.tasks.queue b.tasks.tasks.queue → Does number (Pause h) a b i j → Does number (Round u left) b c j k → Does number (Pass h units left) a c i k
  does_pass h units u left a b c i j k is p q = does_on (Pause h) (Round u left) (Pass h units left) a b c i j k
      (λ m mid new xs ys zs stm std stn pause round. record {
        paused = mid;
        behind = ys;
        pause = pause;
        round = subst (λ x. Round x left mid ys new zs) (is ∙ ap (λ x. units - cost x b.tasks.tasks.queue) (ap (λ x. x.queue) stm.tasks) ∙ ap (λ x. units - cost m.tasks.queue x) (ap (λ x. x.queue) std.tasks)) round;
      })
      p q

  pub pass_broken : (h : Bool) (units u : ℕ) (a b c : Parts O (Seen P)) (i j k : Journal) → u ≡ units - cost a.tasks.tasks.queue b.tasks.tasks.queue → Does number (Pause h) a b i j → Does number (RoundBreaks u) b c j k → Does number (PassEnds h units (Err error.Memory)) a c i k
  pass_broken h units u a b c i j k is p q = does_on (Pause h) (RoundBreaks u) (PassEnds h units (Err error.Memory)) a b c i j k
      (λ m mid new xs ys zs stm std stn pause round. inr (record {
        paused = mid;
        behind = ys;
        pause = pause;
        round = subst (λ x. RoundBreaks x mid ys new zs) (is ∙ ap (λ x. units - cost x b.tasks.tasks.queue) (ap (λ x. x.queue) stm.tasks) ∙ ap (λ x. units - cost m.tasks.queue x) (ap (λ x. x.queue) std.tasks)) round;
      }))
      p q

  -- whether the main task has its output
  pub main_done : (c : Parts O (Seen P)) (m : Machine) (main : ℕ) → Matches number hosting_of c m → has_output (value_at c.tasks.tasks.table main) ≡ is_main_done main m
  main_done c m main st = sym (ap has_output (value_numbered number c.tasks.tasks main) ∙ output_by number (value_at c.tasks.tasks.table main)) ∙ ap (λ x. has_output (value_at x.table main)) st.tasks

  -- the first round, and one more pass
  pub does_first : (h : Bool) (main units left : ℕ) (c d : Parts O (Seen P)) (j k : Journal) → Does number (Round units left) c d j k → Does number (Rounds h main units left) c d j k
  does_first h main units left c d j k p = does_more (Round units left) (Rounds h main units left) c d j k
      (λ m new xs zs stm stn round. record { mid = new; more = zs; kept = left; first = round; count = 0; passes = (refl, refl, refl) }) p

  pub passes_more : (h g : Bool) (main turns units left : ℕ) (a b c : Parts O (Seen P)) (i j k : Journal) → g ≡ h → has_output (value_at b.tasks.tasks.table main) ≡ false → 0 < units
      → Does number (Rounds h main turns units) a b i j → Does number (Pass g units left) b c j k → Does number (Rounds h main turns left) a c i k
  passes_more h g main turns units left a b c i j k same unfinished some p q = does_on (Rounds h main turns units) (Pass g units left) (Rounds h main turns left) a b c i j k
      (λ m mid new xs ys zs stm std stn rounds pass. record {
        mid = rounds.mid;
        more = rounds.more;
        kept = rounds.kept;
        first = rounds.first;
        count = suc rounds.count;
        passes = (mid, (ys, (units, (rounds.passes, (sym (main_done b mid main std) ∙ unfinished, (some, subst (λ x. Pass x units left mid ys new zs) same pass))))));
      })
      p q

  -- how it ends
  pub ends_done : (h : Bool) (main turns left : ℕ) (c d : Parts O (Seen P)) (j k : Journal) → has_output (value_at d.tasks.tasks.table main) ≡ true → Does number (Rounds h main turns left) c d j k → Does number (Ends {A = ⊤} h main turns (Ok tt)) c d j k
  ends_done h main turns left c d j k finished p = does_more (Rounds h main turns left) (Ends {A = ⊤} h main turns (Ok tt)) c d j k
      (λ m new xs zs stm stn rounds. (left, (rounds, sym (main_done d new main stn) ∙ finished))) p

  pub ends_turns : (h : Bool) (main turns left : ℕ) (c d : Parts O (Seen P)) (j k : Journal) → left ≡ 0 → has_output (value_at d.tasks.tasks.table main) ≡ false → Does number (Rounds h main turns left) c d j k → Does number (Ends {A = ⊤} h main turns (Err error.Turns)) c d j k
  ends_turns h main turns left c d j k none unfinished p = does_more (Rounds h main turns left) (Ends {A = ⊤} h main turns (Err error.Turns)) c d j k
      (λ m new xs zs stm stn rounds. (subst (λ x. Rounds h main turns x m xs new zs) none rounds, sym (main_done d new main stn) ∙ unfinished)) p

  pub ends_first : (h : Bool) (main turns : ℕ) (c d : Parts O (Seen P)) (j k : Journal) → Does number (RoundBreaks turns) c d j k → Does number (Ends {A = ⊤} h main turns (Err error.Memory)) c d j k
  ends_first h main turns c d j k p = does_more (RoundBreaks turns) (Ends {A = ⊤} h main turns (Err error.Memory)) c d j k (λ m new xs zs stm stn is. inl is) p

  pub ends_by : (e : RunError) (h g : Bool) (main turns units : ℕ) (a b c : Parts O (Seen P)) (i j k : Journal) → g ≡ h → has_output (value_at b.tasks.tasks.table main) ≡ false → 0 < units
      → Does number (Rounds h main turns units) a b i j → Does number (PassEnds g units (Err e)) b c j k → Does number (Ends {A = ⊤} h main turns (Err e)) a c i k
  ends_by error.Memory h g main turns units a b c i j k same unfinished some p q = does_on (Rounds h main turns units) (PassEnds g units (Err error.Memory)) (Ends {A = ⊤} h main turns (Err error.Memory)) a b c i j k
      (λ m mid new xs ys zs stm std stn rounds pass. inr (record {
        mid = mid;
        more = ys;
        left = units;
        rounds = rounds;
        unfinished = sym (main_done b mid main std) ∙ unfinished;
        some_left = some;
        pass = subst (λ x. PassEnds x units (Err error.Memory) mid ys new zs) same pass;
      }))
      p q
  ends_by error.AtCapacity h g main turns units a b c i j k same unfinished some p q = does_on (Rounds h main turns units) (PassEnds g units (Err error.AtCapacity)) (Ends {A = ⊤} h main turns (Err error.AtCapacity)) a b c i j k (λ m mid new xs ys zs stm std stn rounds none. none) p q
  ends_by error.Turns h g main turns units a b c i j k same unfinished some p q = does_on (Rounds h main turns units) (PassEnds g units (Err error.Turns)) (Ends {A = ⊤} h main turns (Err error.Turns)) a b c i j k (λ m mid new xs ys zs stm std stn rounds none. absurd none) p q
  ends_by error.Driver h g main turns units a b c i j k same unfinished some p q = does_on (Rounds h main turns units) (PauseFails g) (Breaks h main turns) a b c i j k
      (λ m mid new xs ys zs stm std stn rounds pause. record {
        mid = mid;
        more = ys;
        left = units;
        rounds = rounds;
        unfinished = sym (main_done b mid main std) ∙ unfinished;
        some_left = some;
        pause = subst (λ x. PauseFails x mid ys new zs) same pause;
      })
      p q

  pub pass_breaks : (e : RunError) (h : Bool) (units : ℕ) (c d : Parts O (Seen P)) (j k : Journal) → Does number (PauseEnds h (Err e)) c d j k → Does number (PassEnds h units (Err e)) c d j k
  pass_breaks error.Memory h units c d j k p = does_more (PauseBreaks h) (PassEnds h units (Err error.Memory)) c d j k (λ m new xs zs stm stn is. inl is) p
  pass_breaks error.Driver h units c d j k p = p
  pass_breaks error.Turns h units c d j k p = does_more (PauseEnds h (Err error.Turns)) (PassEnds h units (Err error.Turns)) c d j k (λ m new xs zs stm stn is. absurd is) p
  pass_breaks error.AtCapacity h units c d j k p = does_more (PauseEnds h (Err error.AtCapacity)) (PassEnds h units (Err error.AtCapacity)) c d j k (λ m new xs zs stm stn is. absurd is) p

  -- the output that the drop of the main task's handle gave
  pub drops_for : (main : ℕ) (w : Option ℕ) (c d : Parts O (Seen P)) (j k : Journal) → Does number (IsStep (event.Act (act.DropJoin main)) (report.Reply (reply.Dropped w))) c d j k → Does number (DropsFor main w) c d j k
  drops_for main (Some n) c d j k p = p
  drops_for main None c d j k p = does_more (IsStep (event.Act (act.DropJoin main)) (report.Reply (reply.Dropped None))) (DropsFor main None) c d j k (λ m new xs zs stm stn is. (reply.Dropped None, is)) p

  pub drops_any : (main : ℕ) (w : Option ℕ) (c d : Parts O (Seen P)) (j k : Journal) → Does number (DropsFor main w) c d j k → Does number (DropsFor main None) c d j k
  drops_any main (Some n) c d j k p = does_more (DropsFor main (Some n)) (DropsFor main None) c d j k (λ m new xs zs stm stn is. (reply.Dropped (Some n), is)) p
  drops_any main None c d j k p = p

  -- one whole call
  pub does_main : (h g : Bool) (main units : ℕ) (r : Result ℕ RunError) (a b c d : Parts O (Seen P)) (i j k l : Journal) → g ≡ h → Does number (IsSpawn main) a b i j → Does number (Ends {A = ℕ} g main units r) b c j k → Does number (DropsFor main (output_in r)) c d k l → Does number (RunsMain h main units r) a d i l
  does_main h g main units r a b c d i j k l same p q s = does_on (IsSpawn main) (Finishes h main units r) (RunsMain h main units r) a b d i j l
      (λ m mid new xs ys zs stm std stn spawn rest. record { spawned = mid; behind = ys; spawn = spawn; ended = rest.0; last = rest.1.0; ends = rest.1.1.0; drop = rest.1.1.1 })
      p (does_on (Ends {A = ℕ} g main units r) (DropsFor main (output_in r)) (Finishes h main units r) b c d j k l (λ m mid new xs ys zs stm std stn ends drop. (mid, (ys, (subst (λ x. Ends {A = ℕ} x main units r m xs mid ys) same ends, drop)))) q s)

  -- by the error
  pub blocks_by : (e : RunError) (h g : Bool) (main units : ℕ) (w : Option ℕ) (a b c d : Parts O (Seen P)) (i j k l : Journal) → g ≡ h → Does number (IsSpawn main) a b i j → Does number (Ends {A = ⊤} g main units (Err e)) b c j k → Does number (DropsFor main w) c d k l → Does number (Blocked h units (Err e)) a d i l
  blocks_by error.Memory h g main units w a b c d i j k l same p q s = does_more (RunsMain h main units (Err error.Memory)) (Blocked h units (Err error.Memory)) a d i l (λ m new xs zs stm stn is. inr (main, is)) (does_main h g main units (Err error.Memory) a b c d i j k l same p q (drops_any main w c d k l s))
  blocks_by error.Turns h g main units w a b c d i j k l same p q s = does_more (RunsMain h main units (Err error.Turns)) (Blocked h units (Err error.Turns)) a d i l (λ m new xs zs stm stn is. (main, is)) (does_main h g main units (Err error.Turns) a b c d i j k l same p q (drops_any main w c d k l s))
  blocks_by error.Driver h g main units w a b c d i j k l same p q s = does_more (RunsMain h main units (Err error.Driver)) (Blocked h units (Err error.Driver)) a d i l (λ m new xs zs stm stn is. (main, is)) (does_main h g main units (Err error.Driver) a b c d i j k l same p q (drops_any main w c d k l s))
  blocks_by error.AtCapacity h g main units w a b c d i j k l same p q s =
      does_more (RunsMain h main units (Err error.AtCapacity)) IsRefused a d i l (λ m new xs zs stm stn is. absurd is.ends) (does_main h g main units (Err error.AtCapacity) a b c d i j k l same p q (drops_any main w c d k l s))

  pub blocks_done : (output : ℕ) (h g : Bool) (main units : ℕ) (a b c d : Parts O (Seen P)) (i j k l : Journal) → g ≡ h → Does number (IsSpawn main) a b i j → Does number (Ends {A = ⊤} g main units (Ok tt)) b c j k → Does number (DropsFor main (Some output)) c d k l → Does number (Blocked h units (Ok output)) a d i l
  blocks_done output h g main units a b c d i j k l same p q s = does_more (RunsMain h main units (Ok output)) (Blocked h units (Ok output)) a d i l (λ m new xs zs stm stn is. (main, is)) (does_main h g main units (Ok output) a b c d i j k l same p q s)

  pub blocks_refused : (e : RunError) (h : Bool) (units : ℕ) (c d : Parts O (Seen P)) (j k : Journal) → OnMemory e (Does number Stays c d j k) → OnCapacity e (Does number IsRefused c d j k) → Does number (Blocked h units (Err e)) c d j k
  blocks_refused error.Memory h units c d j k stays p = does_more Stays (Blocked h units (Err error.Memory)) c d j k (λ m new xs zs stm stn is. inl is) stays
  blocks_refused error.AtCapacity h units c d j k stays p = p
  blocks_refused error.Turns h units c d j k stays p = absurd p
  blocks_refused error.Driver h units c d j k stays p = absurd p

  -- the entries after an empty history are in the relation
  pub relation_of : (R : Relation) (c d : Parts O (Seen P)) (j k l : Journal) (m : Machine) → MatchesValid number hosting_of c m → j.history.entries ≡ [] → l ≡ k → Does number R c d j k → (new : Machine) × R m l.history.entries new []
  relation_of R c d j k l m st empty same does =
      let did = does.did m st in
      let part : did.went.part ++ [] ≡ l.history.entries = append-nil did.went.part ∙ sym (ap (λ x. x.history.entries) same ∙ did.went.grew ∙ ap (λ xs. xs ++ did.went.part) empty) in
      (did.went.new, subst (λ xs. R m xs did.went.new []) part (did.is []))
