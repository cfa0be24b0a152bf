-- The parts of the loop, one after the other.
use Rattle.std.proofs.Common.{◌≡◌, ℕ, Bool, true, false, Ok, Err, refl, ap, sym, subst, ◌∙◌}
use Rattle.std.specs.Prelude.{⊤, Result, IsErr}
use Rattle.mono_task.specs.Members.{FutureOf, SharedOf}
use Rattle.mono_driver.specs.declared.clock.Clock
use Rattle.mono_rt.specs.Rounds.{PauseEnds}
use Rattle.mono_rt.specs.Faults.{FaultsBy}
use Rattle.mono_rt.specs.Stores.{store_of}
use Rattle.mono_rt.specs.FuturePolls.{HasLasted, PollingBy, Lasts}
use Rattle.mono_rt.specs.SpawnErrors.{HasPlace}
use Rattle.mono_rt.specs.DriverReadings.{going, Telling, Still}
use Rattle.mono_rt.specs.Views.{exposed, is_timed, Rests, Grows, RaisesTurns, GivesNoMore, CanRun, LeadsShared, PollsItsFuturesBy, FillsJournal, HoldsSamePlaces, TellsDriver, ended_tasks, ClosesEnded}
use Rattle.mono_rt.specs.Progress.{ending, lasting, turn_answer, Idles, Proceeds}
use Rattle.mono_rt.specs.declared.contexts.Cx.{Cx}
use Rattle.mono_rt.specs.declared.runtimes.Runtime.{Runtime}
use Rattle.mono_rt.specs.declared.parts.errors.RunError.{RunError}
use Rattle.mono_rt.specs.declared.parts.errors.RunError.TheVariants as error
use Rattle.mono_rt.proofs.JournalLemmas.{goes_of, does_stay}
use Rattle.mono_rt.proofs.TurnCountLemmas.{counts_stays, counts_on, counts_pause}
use Rattle.mono_rt.proofs.ClosedTaskLemmas.{closes_stays, closes_on, closes_pause}
use Rattle.mono_rt.proofs.DriverLemmas.{telling_more, unfailed, so_after, so_done, so_spent, so_broken, still_of}
use Rattle.mono_rt.proofs.FaultLemmas.{faults_after}
use Rattle.mono_rt.proofs.FuturePollLemmas.{same_store, polls_on, polls_nothing, polls_pause}
use Rattle.mono_rt.proofs.DriverLemmas.{tells_nothing}
use Rattle.mono_rt.proofs.JournalRoomLemmas.{fills_on, fills_not}
use Rattle.mono_rt.proofs.OutputLemmas.{adds_on}
use Rattle.mono_rt.proofs.PossibleAnswerLemmas.{no_more_itself, no_more_on, no_more_by}
use Rattle.mono_rt.proofs.PollableLemmas.{turn_same}

-- a turn lasted in memory, if its answer says so
has_lasted : (lacks lasts : Bool) → (lasts ≡ true → Lasts (lasting (turn_answer lacks))) → HasLasted lasts lacks
has_lasted true true may = absurd (may refl)
has_lasted true false may = tt
has_lasted false true may = refl
has_lasted false false may = tt

false-true : false ≡ true → ⊥
false-true e = cc

-- a part that failed for want of memory
pub lasting_err : {A : Type 0} (r : Result A RunError) (P : Result ⊤ RunError → Type 0) → IsErr r → P (Err error.Memory) → P (lasting r)
lasting_err {A} (Ok x) P is p = absurd (false-true is)
lasting_err {A} (Err e) P is p = p

-- the counts of a driver whose count stayed before
faults_on : (r : Result ⊤ RunError) (x y z : ℕ) → y ≡ x → FaultsBy r y z → FaultsBy r x z
faults_on (Ok t) x y z same faults = faults ∙ same
faults_on (Err e) x y z same faults = faults_after e x y z same faults

module _ {F O D P W U J A V : Type 0} where
  pub idles_on : (a b c : Runtime F O D P W U J A V) → Idles a b → Idles b c → Idles a c
  idles_on a b c p q = record {
    has_timers = q.has_timers ∙ p.has_timers;
    turn = q.turn ∙ p.turn;
    turns = q.turns ∙ p.turns;
    adds = adds_on a.cx.parts.tasks.tasks b.cx.parts.tasks.tasks c.cx.parts.tasks.tasks p.adds q.adds;
    futures = q.futures ∙ p.futures;
    shared = q.shared ∙ p.shared;
    full = q.full ∙ p.full;
    held = q.held ∙ p.held;
    closes = q.closes ∙ p.closes;
  }

  module _ (number : O → ℕ) (sharing : SharedOf W) (clock : Clock.Ghosts D) (future : FutureOf F (Cx F O P U W J A V) O) where
    -- nothing was done
    pub went_nowhere : ((w : W) → sharing.leads w w) → (a : Runtime F O D P W U J A V) → Proceeds number sharing clock future (Ok tt) a a
    went_nowhere itself a = record {
      has_timers = refl;
      rests = λ x. x;
      turns = counts_stays number a.cx.parts a.cx.parts a.journal a.journal refl (does_stay number a.cx.parts a.cx.parts a.journal a.journal refl refl refl refl refl);
      answers = no_more_itself future.gives a.cx;
      callable = λ x. x;
      shared = itself a.cx.shared;
      polled = λ lasts may. polls_nothing number sharing future a.cx.parts.has_timers lasts (store_of a.cx) a.cx.parts a.journal;
      faults = refl;
      told = so_done (tells_nothing refl refl refl);
      full = fills_not number sharing future a.cx a.journal a.journal refl;
      held = refl;
      placed = refl;
      closes = closes_stays number _ _ refl a.cx.parts a.cx.parts a.journal a.journal (does_stay number a.cx.parts a.cx.parts a.journal a.journal refl refl refl refl refl);
    }

    -- one after the other
    pub went_on : ((u v w : W) → sharing.leads u v → sharing.leads v w → sharing.leads u w) → (r : Result ⊤ RunError) (a b c : Runtime F O D P W U J A V)
        → Proceeds number sharing clock future (Ok tt) a b → Proceeds number sharing clock future r b c → Proceeds number sharing clock future r a c
    went_on on r a b c p q = record {
      has_timers = q.has_timers ∙ p.has_timers;
      rests = λ x. q.rests (p.rests x);
      turns = counts_on number a.cx.parts b.cx.parts c.cx.parts a.journal b.journal c.journal p.turns q.turns;
      answers = no_more_on future.gives a.cx b.cx c.cx p.answers q.answers;
      callable = λ x. q.callable (p.callable x);
      shared = on a.cx.shared b.cx.shared c.cx.shared p.shared q.shared;
      polled = λ lasts may. polls_on number sharing future a.cx.parts.has_timers lasts (store_of a.cx) (store_of b.cx) (store_of c.cx) a.cx.parts b.cx.parts c.cx.parts a.journal b.journal c.journal (p.polled lasts (λ is. tt))
          (subst (λ h. Grows number (PollingBy number sharing future h lasts (store_of b.cx) (store_of c.cx)) b c) p.has_timers (q.polled lasts may));
      faults = faults_on r (clock.faults a.driver) (clock.faults b.driver) (clock.faults c.driver) p.faults q.faults;
      told = so_after (still_of p.told) q.told;
      full = fills_on number sharing future a.cx b.cx a.journal b.journal c.journal
          (goes_of number (PollingBy number sharing future a.cx.parts.has_timers false (store_of a.cx) (store_of b.cx)) a.cx.parts b.cx.parts a.journal b.journal (p.polled false (λ is. tt))) p.full q.full;
      held = q.held ∙ p.held;
      placed = q.placed;
      closes = closes_on number (ended_tasks a) (ended_tasks b) (ended_tasks c) a.cx.parts b.cx.parts c.cx.parts a.journal b.journal c.journal p.closes q.closes;
    }

    -- the budget is spent
    pub went_spent : (a b : Runtime F O D P W U J A V) → Proceeds number sharing clock future (Ok tt) a b → Proceeds number sharing clock future (Err error.Turns) a b
    went_spent a b p = record {
      has_timers = p.has_timers;
      rests = p.rests;
      turns = p.turns;
      answers = p.answers;
      callable = p.callable;
      shared = p.shared;
      polled = λ lasts may. p.polled lasts (λ is. tt);
      faults = p.faults;
      told = so_spent (still_of p.told);
      full = p.full;
      held = p.held;
      placed = refl;
      closes = p.closes;
    }

    -- a turn, by whether memory ran out in it
    pub went_turn : (lacks : Bool) (a b : Runtime F O D P W U J A V) → is_timed b ≡ is_timed a → (Rests a → Rests b) → RaisesTurns number a b → GivesNoMore future.gives a b → (CanRun future a → CanRun future b) → LeadsShared sharing.leads a b
        → ((lasts : Bool) → HasLasted lasts lacks → PollsItsFuturesBy number sharing future lasts a b) → clock.faults b.driver ≡ clock.faults a.driver
        → Telling (Still going) (exposed clock a.driver) going a.journal b.journal (exposed clock b.driver) → FillsJournal number sharing future a b → HoldsSamePlaces a b → ClosesEnded number a b
        → Proceeds number sharing clock future (lasting (turn_answer lacks)) a b
    went_turn true a b has_timers rests turns answers callable shared polled faults told full held closes = record {
      has_timers = has_timers;
      rests = rests;
      turns = turns;
      answers = answers;
      callable = callable;
      shared = shared;
      polled = λ lasts may. polled lasts (has_lasted true lasts may);
      faults = faults;
      told = so_broken (telling_more unfailed told);
      full = full;
      held = held;
      placed = tt;
      closes = closes;
    }
    went_turn false a b has_timers rests turns answers callable shared polled faults told full held closes = record {
      has_timers = has_timers;
      rests = rests;
      turns = turns;
      answers = answers;
      callable = callable;
      shared = shared;
      polled = λ lasts may. polled lasts (has_lasted false lasts may);
      faults = faults;
      told = so_done told;
      full = full;
      held = held;
      placed = refl;
      closes = closes;
    }

    -- the pause between two rounds, in which no turn ran
    pub went_paused : ((w : W) → sharing.leads w w) → (r : Result Bool RunError) (a b : Runtime F O D P W U J A V) → Idles a b → Grows number (PauseEnds (is_timed a) r) a b
        → FaultsBy (ending r) (clock.faults a.driver) (clock.faults b.driver) → TellsDriver (ending r) clock a b → HasPlace (ending r) false → Proceeds number sharing clock future (ending r) a b
    went_paused itself r a b idle pauses faults told placed =
        let items = ap (λ v. v.items) idle.futures in
        let answers = no_more_by future.gives a.cx b.cx idle.adds items in
        record {
          has_timers = idle.has_timers;
          rests = λ x. idle.turn ∙ x;
          turns = counts_pause number (is_timed a) r a.cx.parts b.cx.parts a.journal b.journal idle.turns pauses;
          answers = answers;
          callable = turn_same future future.gives a.cx b.cx answers items;
          shared = subst (sharing.leads a.cx.shared) (sym idle.shared) (itself a.cx.shared);
          polled = λ lasts may.
              polls_pause number sharing future a.cx.parts.has_timers lasts (store_of a.cx) (store_of b.cx) a.cx.parts.has_timers r a.cx.parts b.cx.parts a.journal b.journal (same_store a.cx b.cx items idle.shared) pauses;
          faults = faults;
          told = told;
          full = fills_not number sharing future a.cx a.journal b.journal idle.full;
          held = idle.held;
          placed = placed;
          closes = closes_pause number (ended_tasks a) (ended_tasks b) idle.closes (is_timed a) r a.cx.parts b.cx.parts a.journal b.journal pauses;
        }
