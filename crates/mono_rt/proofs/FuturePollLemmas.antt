-- The store goes along the entries of a journal, piece by piece.
use Rattle.std.proofs.Common.{◌≡◌, ℕ, true, false, Bool, List, [], ◌∷◌, ◌++◌, Some, None, Option, inl, inr, refl, ap, sym, subst, ◌∙◌}
use Rattle.std.specs.Prelude.{⊤, Result, Ok, Err}
use Rattle.mono_model.specs.declared.Ended.{Ended}
use Rattle.mono_task.specs.Members.{FutureOf, SharedOf}
use Rattle.mono_time.specs.declared.instant.Instant.{Instant}
use Rattle.mono_time.specs.Instants.{nanos_of}
use Rattle.mono_machine.specs.Machine.{Machine}
use Rattle.mono_machine.specs.Steps.{Step}
use Rattle.mono_machine.specs.declared.events.End.{End}
use Rattle.mono_machine.specs.declared.events.Event.TheVariants as event
use Rattle.mono_machine.specs.declared.events.Report.TheVariants as report
use Rattle.mono_blocking.specs.JobSpawns.{Seen}
use Rattle.mono_rt.specs.Record.{no_acts}
use Rattle.mono_rt.specs.Refinement.{hosting_of, MatchesValid}
use Rattle.mono_rt.specs.Journals.{Did, Does, IsStep, Stays}
use Rattle.mono_rt.specs.Rounds.{Remotes, Drained, IsPark, ClockIf, Parks, Pauses, Pause, PausesBreak, PauseBreaks, PausesFail, PauseFails, PauseEnds, IsSpawn, DropsFor}
use Rattle.mono_rt.specs.Turns.{Turn}
use Rattle.mono_rt.specs.SpawnErrors.{OnCapacity, OnMemory}
use Rattle.mono_rt.specs.Journals.{ReadsAt}
use Rattle.mono_rt.specs.Stores.{Store, first_store, with_future, store_of}
use Rattle.mono_rt.specs.FuturePolls.{IsAtRest, HasLasted, PolledBy, PollingBy, PollsMain, PollsMainBy, StillPollsMain, OnMain, Lasts, OnLack}
use Rattle.mono_rt.specs.declared.contexts.Cx.{Cx}
use Rattle.mono_rt.specs.declared.parts.state.Parts.{Parts}
use Rattle.mono_rt.specs.declared.parts.errors.RunError.{RunError}
use Rattle.mono_rt.specs.declared.parts.errors.RunError.TheVariants as error
use Rattle.mono_rt.specs.declared.parts.journals.Entry.{Entry}
use Rattle.mono_rt.specs.declared.parts.journals.Journal.{Journal}
use Rattle.mono_rt.proofs.RoundLemmas.{does_on, does_more, relation_of}
use Rattle.mono_rt.proofs.JournalLemmas.{does_stay}

-- ---- two stores that are the same

abbrev both : {F W : Type 0} → List (Option F) → W → Store F W
both futures shared = record { futures = futures; shared = shared }

module _ {F O P U W J A V : Type 0} where
  pub same_store : (c d : Cx F O P U W J A V) → d.futures.items ≡ c.futures.items → d.shared ≡ c.shared → store_of d ≡ store_of c
  same_store c d items shared = ap (λ xs. both xs d.shared) items ∙ ap (both c.futures.items) shared

  -- the store of a new runtime
  pub new_store : (c : Cx F O P U W J A V) (w : W) → c.futures.items ≡ [] → c.shared ≡ w → store_of c ≡ first_store w
  new_store c w items shared = ap (λ xs. both xs c.shared) items ∙ ap (both []) shared

  -- a task was made of this future
  pub made_store : (c d : Cx F O P U W J A V) (f : F) → d.futures.items ≡ c.futures.items ++ Some f ∷ [] → d.shared ≡ c.shared → store_of d ≡ with_future (store_of c) f
  made_store c d f items shared = ap (λ xs. both xs d.shared) items ∙ ap (both (c.futures.items ++ Some f ∷ [])) shared

-- a fact of a call goes on, by its answer
pub on_main : {X : Type 0} (r : Result X RunError) (p q : Type 0) → (p → q) → OnMain r p → OnMain r q
on_main (Ok x) p q law is = law is
on_main (Err error.Turns) p q law is = law is
on_main (Err error.Driver) p q law is = law is
on_main (Err error.AtCapacity) p q law is = tt
on_main (Err error.Memory) p q law is = tt

-- if it ended by this error, for each answer
pub same_error : (X Y : Type 0) (e : RunError) (p : Type 0) → OnMain {A = X} (Err e) p → OnMain {A = Y} (Err e) p
same_error X Y error.Turns p is = is
same_error X Y error.Driver p is = is
same_error X Y error.AtCapacity p is = tt
same_error X Y error.Memory p is = tt

pub on_lack : {X : Type 0} (r : Result X RunError) (p q : Type 0) → (p → q) → OnLack r p → OnLack r q
on_lack (Ok x) p q law is = tt
on_lack (Err error.Turns) p q law is = tt
on_lack (Err error.Driver) p q law is = tt
on_lack (Err error.AtCapacity) p q law is = tt
on_lack (Err error.Memory) p q law is = law is

-- a fact that holds if memory lasted, and one that holds if it did not
pub lasted_main : {X : Type 0} (r : Result X RunError) (p : Type 0) → (Lasts r → p) → OnMain r p
lasted_main (Ok x) p law = law tt
lasted_main (Err error.Turns) p law = law tt
lasted_main (Err error.Driver) p law = law tt
lasted_main (Err error.AtCapacity) p law = tt
lasted_main (Err error.Memory) p law = tt

pub lacked_main : {X : Type 0} (r : Result X RunError) (p : Type 0) → p → OnLack r p
lacked_main (Ok x) p is = tt
lacked_main (Err error.Turns) p is = tt
lacked_main (Err error.Driver) p is = tt
lacked_main (Err error.AtCapacity) p is = tt
lacked_main (Err error.Memory) p is = is

-- no main task was made
pub none_made : (X : Type 0) (e : RunError) (p q : Type 0) → OnCapacity e p → OnMain {A = X} (Err e) q
none_made X error.Memory p q is = tt
none_made X error.AtCapacity p q is = tt
none_made X error.Driver p q is = absurd is
none_made X error.Turns p q is = absurd is

-- if memory ran out before a main task was made
pub none_lacked : (X : Type 0) (e : RunError) (p q : Type 0) → (p → q) → OnMemory e p → OnLack {A = X} (Err e) q
none_lacked X error.Memory p q law is = law is
none_lacked X error.AtCapacity p q law is = tt
none_lacked X error.Driver p q law is = tt
none_lacked X error.Turns p q law is = tt

module _ {F O P U W J A V : Type 0} (number : O → ℕ) (sharing : SharedOf W) (future : FutureOf F (Cx F O P U W J A V) O) (h lasts : Bool) where
  -- the entries between two rounds leave the store
  module _ (fs : Store F W) where
    abbrev Is : Machine → List Entry → Type 0
    Is m part = (reading : ℕ) → PolledBy number sharing future h lasts m fs reading part

    remotes_polled : (ts : List ℕ) (old new : Machine) (part rest : List Entry) → Remotes ts old part new rest → Is new rest → Is old part
    remotes_polled [] old new part rest (same, is) polled reading = subst (λ xs. PolledBy number sharing future h lasts old fs reading xs) (sym same) (subst (λ m. PolledBy number sharing future h lasts m fs reading rest) is (polled reading))
    remotes_polled (t ∷ ts) old new part rest (told, (mid, (left, (is, step, more)))) polled reading =
        subst (λ xs. PolledBy number sharing future h lasts old fs reading xs) (sym is) (mid, (step, remotes_polled ts mid new left rest more polled reading))

    drained_polled : (old new : Machine) (part rest : List Entry) → Drained old part new rest → Is new rest → Is old part
    drained_polled old new part rest d polled reading =
        remotes_polled d.taken old d.mid part d.left d.remotes (λ n. subst (λ xs. PolledBy number sharing future h lasts d.mid fs n xs) (sym d.entry) (new, (d.step, polled n))) reading

    park_polled : (g : Bool) (old new : Machine) (part rest : List Entry) → IsAtRest old → IsPark g old part new rest → Is new rest → Is old part
    park_polled g old new part rest idle (now, (wait, (waits, (is, (same, below))))) polled reading =
        subst (λ xs. PolledBy number sharing future h lasts old fs reading xs) (sym is) (idle, subst (λ m. PolledBy number sharing future h lasts m fs now rest) same (polled now))

    clock_polled : (g : Bool) (old new : Machine) (part rest : List Entry) → ClockIf g old part new rest → Is new rest → Is old part
    clock_polled false old new part rest (same, is) polled reading = subst (λ xs. PolledBy number sharing future h lasts old fs reading xs) (sym same) (subst (λ m. PolledBy number sharing future h lasts m fs reading rest) is (polled reading))
    clock_polled true old new part rest (n, (fired, (is, step))) polled reading = subst (λ xs. PolledBy number sharing future h lasts old fs reading xs) (sym is) (new, (step, polled reading))

    parks_polled : (g : Bool) (old new : Machine) (part rest : List Entry) → IsAtRest old → Parks g old part new rest → Is new rest → Is old part
    parks_polled g old new part rest idle p polled =
        park_polled g old p.parked part p.left idle p.parks (drained_polled p.parked p.drained p.left p.after p.drains (clock_polled g p.drained new p.after rest p.clock polled))

    pauses_polled : (g : Bool) (queue : List ℕ) (old new : Machine) (part rest : List Entry) → old.tasks.queue ≡ queue → old.inbox ≡ [] → Pauses g queue old part new rest → Is new rest → Is old part
    pauses_polled g [] old new part rest queued inbox p polled = parks_polled g old new part rest (queued, inbox) p polled
    pauses_polled g (front ∷ queue) old new part rest queued inbox p polled = drained_polled old new part rest p polled

    stays_polled : (old new : Machine) (part rest : List Entry) → Stays old part new rest → Is new rest → Is old part
    stays_polled old new part rest (same, is) polled reading = subst (λ xs. PolledBy number sharing future h lasts old fs reading xs) (sym same) (subst (λ m. PolledBy number sharing future h lasts m fs reading rest) is (polled reading))

    fails_polled : (g : Bool) (queue : List ℕ) (old new : Machine) (part rest : List Entry) → old.tasks.queue ≡ queue → old.inbox ≡ [] → PausesFail g queue old part new rest → Is new rest → Is old part
    fails_polled g [] old new part rest queued inbox (inl whole) polled = parks_polled g old new part rest (queued, inbox) whole polled
    fails_polled g [] old new part rest queued inbox (inr (inl park)) polled = park_polled g old new part rest (queued, inbox) park polled
    fails_polled g [] old new part rest queued inbox (inr (inr p)) polled = park_polled g old p.parked part p.left (queued, inbox) p.parks (drained_polled p.parked new p.left rest p.drains polled)
    fails_polled g (front ∷ queue) old new part rest queued inbox (inl drained) polled = drained_polled old new part rest drained polled
    fails_polled g (front ∷ queue) old new part rest queued inbox (inr stays) polled = stays_polled old new part rest stays polled

    breaks_polled : (g : Bool) (queue : List ℕ) (old new : Machine) (part rest : List Entry) → old.tasks.queue ≡ queue → old.inbox ≡ [] → PausesBreak g queue old part new rest → Is new rest → Is old part
    breaks_polled g [] old new part rest queued inbox (inl stays) polled = stays_polled old new part rest stays polled
    breaks_polled g [] old new part rest queued inbox (inr (inl park)) polled = park_polled g old new part rest (queued, inbox) park polled
    breaks_polled g [] old new part rest queued inbox (inr (inr p)) polled = park_polled g old p.parked part p.left (queued, inbox) p.parks (drained_polled p.parked new p.left rest p.drains polled)
    breaks_polled g (front ∷ queue) old new part rest queued inbox stays polled = stays_polled old new part rest stays polled

    drop_polled : (main : ℕ) (w : Option ℕ) (old new : Machine) (part rest : List Entry) → DropsFor main w old part new rest → Is new rest → Is old part
    drop_polled main (Some n) old new part rest (is, step) polled reading = subst (λ xs. PolledBy number sharing future h lasts old fs reading xs) (sym is) (new, (tt, step, polled reading))
    drop_polled main None old new part rest (answer, (is, step)) polled reading = subst (λ xs. PolledBy number sharing future h lasts old fs reading xs) (sym is) (new, (tt, step, polled reading))

  -- one after the other
  pub polls_on : (fs gs hs : Store F W) (a b c : Parts O (Seen P)) (i j k : Journal) → Does number (PollingBy number sharing future h lasts fs gs) a b i j → Does number (PollingBy number sharing future h lasts gs hs) b c j k → Does number (PollingBy number sharing future h lasts fs hs) a c i k
  polls_on fs gs hs a b c i j k p q = does_on number (PollingBy number sharing future h lasts fs gs) (PollingBy number sharing future h lasts gs hs) (PollingBy number sharing future h lasts fs hs) a b c i j k (λ m mid new xs ys zs stm std stn first second. λ polled. first (second polled)) p q

  pub polls_nothing : (fs : Store F W) (c : Parts O (Seen P)) (j : Journal) → Does number (PollingBy number sharing future h lasts fs fs) c c j j
  polls_nothing fs c j = does_more number Stays (PollingBy number sharing future h lasts fs fs) c c j j
      (λ m new xs zs stm stn stays. λ polled reading. subst (λ ys. PolledBy number sharing future h lasts m fs reading ys) (sym stays.0) (subst (λ x. PolledBy number sharing future h lasts x fs reading zs) stays.1 (polled reading)))
      (does_stay number c c j j refl refl refl refl refl)

  pub polls_stays : (fs gs : Store F W) (c d : Parts O (Seen P)) (j k : Journal) → gs ≡ fs → Does number Stays c d j k → Does number (PollingBy number sharing future h lasts fs gs) c d j k
  polls_stays fs gs c d j k same p = subst (λ xs. Does number (PollingBy number sharing future h lasts fs xs) c d j k) (sym same) (does_more number Stays (PollingBy number sharing future h lasts fs fs) c d j k (λ m new xs zs stm stn is. stays_polled fs m new xs zs is) p)

  -- between two rounds
  pub polls_pause : (fs gs : Store F W) (g : Bool) (r : Result Bool RunError) (c d : Parts O (Seen P)) (j k : Journal) → gs ≡ fs → Does number (PauseEnds g r) c d j k → Does number (PollingBy number sharing future h lasts fs gs) c d j k
  polls_pause fs gs g (Ok spent) c d j k same p = subst (λ xs. Does number (PollingBy number sharing future h lasts fs xs) c d j k) (sym same) (does_more number (Pause g) (PollingBy number sharing future h lasts fs fs) c d j k (λ m new xs zs stm stn is. pauses_polled fs g m.tasks.queue m new xs zs refl stm.inbox is) p)
  polls_pause fs gs g (Err error.Driver) c d j k same p = subst (λ xs. Does number (PollingBy number sharing future h lasts fs xs) c d j k) (sym same) (does_more number (PauseFails g) (PollingBy number sharing future h lasts fs fs) c d j k (λ m new xs zs stm stn is. fails_polled fs g m.tasks.queue m new xs zs refl stm.inbox is) p)
  polls_pause fs gs g (Err error.Memory) c d j k same p = subst (λ xs. Does number (PollingBy number sharing future h lasts fs xs) c d j k) (sym same) (does_more number (PauseBreaks g) (PollingBy number sharing future h lasts fs fs) c d j k (λ m new xs zs stm stn is. breaks_polled fs g m.tasks.queue m new xs zs refl stm.inbox is) p)
  polls_pause fs gs g (Err error.Turns) c d j k same p = does_more number (PauseEnds g (Err error.Turns)) (PollingBy number sharing future h lasts fs gs) c d j k (λ m new xs zs stm stn is. absurd is) p
  polls_pause fs gs g (Err error.AtCapacity) c d j k same p = does_more number (PauseEnds g (Err error.AtCapacity)) (PollingBy number sharing future h lasts fs gs) c d j k (λ m new xs zs stm stn is. absurd is) p

  -- the handle of the main task is dropped
  pub polls_drop : (fs gs : Store F W) (main : ℕ) (w : Option ℕ) (c d : Parts O (Seen P)) (j k : Journal) → gs ≡ fs → Does number (DropsFor main w) c d j k → Does number (PollingBy number sharing future h lasts fs gs) c d j k
  polls_drop fs gs main w c d j k same p = subst (λ xs. Does number (PollingBy number sharing future h lasts fs xs) c d j k) (sym same) (does_more number (DropsFor main w) (PollingBy number sharing future h lasts fs fs) c d j k (λ m new xs zs stm stn is. drop_polled fs main w m new xs zs is) p)

  -- from a reading on, to this store at any
  abbrev From : Store F W → Store F W → ℕ → Machine → List Entry → Machine → List Entry → Type 0
  From fs gs n m part new rest = ((reading : ℕ) → PolledBy number sharing future h lasts new gs reading rest) → PolledBy number sharing future h lasts m fs n part

  -- the clock is read and a task has its turn
  pub polls_turn : (old opened done left : Cx F O P U W J A V) (i j k : Journal) (t : ℕ) (now : Instant) (is_unread : Bool) (e : End) (ended : Ended) → opened.parts.has_timers ≡ old.parts.has_timers → opened.futures.items ≡ old.futures.items → opened.shared ≡ old.shared
      → Does number (ReadsAt (nanos_of now)) old.parts opened.parts i j
      → Turn number sharing future t now (no_acts is_unread) e ended opened done
      → Does number (IsStep (event.Turn done.parts.acts.steps e) (report.Turn t done.parts.acts.replies ended)) opened.parts left.parts j k
      → old.parts.has_timers ≡ h → HasLasted lasts done.parts.is_out_of_memory → left.futures.items ≡ done.futures.items → left.shared ≡ done.shared
      → Does number (PollingBy number sharing future h lasts (store_of old) (store_of left)) old.parts left.parts i k
  polls_turn old opened done left i j k t now is_unread e ended same_timers same_futures same_shared read turn step timers memory kept kept_shared =
      does_on number (ReadsAt (nanos_of now)) (From (store_of old) (store_of left) (nanos_of now)) (PollingBy number sharing future h lasts (store_of old) (store_of left)) old.parts opened.parts left.parts i j k
      (λ m mid new xs ys zs stm std stn reads tells. λ polled reading.
      subst (λ ws. PolledBy number sharing future h lasts m (store_of old) reading ws) (sym reads.0)
      (subst (λ x. PolledBy number sharing future h lasts x (store_of old) (nanos_of now) ys) reads.1 (tells polled)))
      read (record { did = told })
    where
      told : (m : Machine) → MatchesValid number hosting_of opened.parts m → Did number (From (store_of old) (store_of left) (nanos_of now)) opened.parts left.parts j k m
      told m st =
          let did = step.did m st in
          record {
            went = did.went;
            is = λ rest polled.
                let one = did.is rest in
                subst (λ ws. PolledBy number sharing future h lasts m (store_of old) (nanos_of now) ws) (sym one.0) (
                  did.went.new,
                  (
                    store_of left,
                    (
                      one.1,
                      record {
                        task = t;
                        now = now;
                        ended = ended;
                        before = opened;
                        after = done;
                        is_unread = is_unread;
                        turn = turn;
                        reads = refl;
                        stands = st;
                        timers = same_timers ∙ timers;
                        had = same_futures;
                        has = sym kept;
                        found = same_shared;
                        leaves = sym kept_shared;
                        memory = memory;
                        acts = refl;
                        told = refl;
                      },
                      polled (nanos_of now),
                    ),
                  ),
                );
          }

  -- the main task is made, and then it goes on
  pub polls_main : (main : F) (t : ℕ) (fs gs hs : Store F W) (a b c : Parts O (Seen P)) (i j k : Journal) → gs ≡ with_future fs main → Does number (IsSpawn t) a b i j → Does number (PollingBy number sharing future h lasts gs hs) b c j k → Does number (PollsMainBy number sharing future h lasts main fs hs) a c i k
  polls_main main t fs gs hs a b c i j k made p q = does_on number (IsSpawn t) (PollingBy number sharing future h lasts gs hs) (PollsMainBy number sharing future h lasts main fs hs) a b c i j k
      (λ m mid new xs ys zs stm std stn spawn polls. (t, (mid, (ys, (spawn, subst (λ xs. PollingBy number sharing future h lasts xs hs mid ys new zs) made polls))))) p q

module _ {F O P U W J A V : Type 0} (number : O → ℕ) (sharing : SharedOf W) (future : FutureOf F (Cx F O P U W J A V) O) (main : F) where
  -- the whole history has such turns, if it was empty before the call
  whole_of : (R : Bool → Store F W → Machine → List Entry → Machine → List Entry → Type 0) (w : W) (g h : Bool) (fs : Store F W) (c d : Parts O (Seen P)) (j k l : Journal) (m n : Machine) → g ≡ h → fs ≡ first_store w → m ≡ n → MatchesValid number hosting_of c m → j.history.entries ≡ [] → l ≡ k
      → Does number (R g fs) c d j k → (new : Machine) × R h (first_store w) n l.history.entries new []
  whole_of R w g h fs c d j k l m n timers none machine st empty same did =
      let whole = relation_of number (R g fs) c d j k l m st empty same did in (
        whole.0,
        subst (λ x. R h (first_store w) x l.history.entries whole.0 []) machine (subst (λ b. R b (first_store w) m l.history.entries whole.0 []) timers (subst (λ xs. R g xs m l.history.entries whole.0 []) none whole.1)),
      )

  pub still_whole : (w : W) (g h : Bool) (fs gs : Store F W) (c d : Parts O (Seen P)) (j k l : Journal) (m n : Machine) (answer : Result O RunError) → g ≡ h → fs ≡ first_store w → m ≡ n → MatchesValid number hosting_of c m → j.history.entries ≡ [] → l ≡ k
      → OnLack answer (Does number (StillPollsMain number sharing future g main fs gs) c d j k)
      → OnLack answer ((new : Machine) × ((left : Store F W) × StillPollsMain number sharing future h main (first_store w) left n l.history.entries new []))
  still_whole w g h fs gs c d j k l m n answer timers none machine st empty same polled =
      on_lack {X = O} answer (Does number (StillPollsMain number sharing future g main fs gs) c d j k) _
      (λ did.
      let whole = whole_of (λ b xs. StillPollsMain number sharing future b main xs gs) w g h fs c d j k l m n timers none machine st empty same did in
      (whole.0, (gs, whole.1)))
      polled

  pub polls_whole : (w : W) (g h : Bool) (fs gs : Store F W) (c d : Parts O (Seen P)) (j k l : Journal) (m n : Machine) (answer : Result O RunError) → g ≡ h → fs ≡ first_store w → m ≡ n → MatchesValid number hosting_of c m → j.history.entries ≡ [] → l ≡ k
      → OnMain answer (Does number (PollsMain number sharing future g main fs gs) c d j k)
      → OnMain answer ((new : Machine) × ((left : Store F W) × PollsMain number sharing future h main (first_store w) left n l.history.entries new []))
  polls_whole w g h fs gs c d j k l m n answer timers none machine st empty same polled =
      on_main {X = O} answer (Does number (PollsMain number sharing future g main fs gs) c d j k) _
      (λ did.
      let whole = whole_of (λ b xs. PollsMain number sharing future b main xs gs) w g h fs c d j k l m n timers none machine st empty same did in
      (whole.0, (gs, whole.1)))
      polled
