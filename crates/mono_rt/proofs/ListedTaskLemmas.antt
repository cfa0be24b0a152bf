-- At each park an unfinished task is listed where its last turn left it listed, and nothing is owed.
use Rattle.std.proofs.Common.{cond, ◌≡◌, ◌≢◌, ◌⊎◌, inl, inr, ℕ, true, false, Bool, List, [], ◌∷◌, ◌++◌, Some, None, Option, refl, ap, sym, subst, ◌∙◌, arith}
use Rattle.std.specs.Prelude.{⊤, ◌==◌, ◌||◌}
use Rattle.std.specs.Option.{option_map}
use Rattle.std.proofs.lemmas.Bool.Decides.{eqb_tells}
use Rattle.mono_task.specs.Members.{FutureOf, SharedOf}
use Rattle.mono_task.specs.Owed.{Keeps}
use Rattle.mono_model.specs.Table.{value_at, is_issued}
use Rattle.mono_model.specs.Tasks.{Task, Phase, idle, queued, running, done, taken}
use Rattle.mono_model.specs.Inbox.{is_waiting}
use Rattle.mono_model.specs.Valid.{is_queued, once_if, times}
use Rattle.mono_model.specs.Valid as phases
use Rattle.mono_model.specs.declared.Ended.{Ended}
use Rattle.mono_model.specs.declared.poll.Poll.{Poll}
use Rattle.mono_model.specs.declared.poll.Poll.TheVariants.{Ready, Pending}
use Rattle.mono_machine.specs.Machine.{Machine, IsValid, IsValidDuring}
use Rattle.mono_machine.specs.Turns.{after_steps, after_begin, after_end, replies_of, end_answer, turn_report_for, after_turn_for}
use Rattle.mono_machine.specs.Steps.{Step, ClockStep, has_finished, remote_report}
use Rattle.mono_machine.specs.History.{is_turn_of, is_awaiting}
use Rattle.mono_machine.specs.Watches.{is_stirred, is_stirred_in}
use Rattle.mono_machine.specs.declared.events.Event.{Event}
use Rattle.mono_machine.specs.declared.events.Event.TheVariants as event
use Rattle.mono_machine.specs.declared.events.TurnStep.{TurnStep}
use Rattle.mono_machine.specs.declared.events.End.{End}
use Rattle.mono_machine.specs.declared.events.End.TheVariants as end
use Rattle.mono_machine.specs.declared.events.Reply.{Reply}
use Rattle.mono_machine.specs.declared.events.Reply.TheVariants as reply
use Rattle.mono_machine.specs.declared.events.Refusal.TheVariants as refusal
use Rattle.mono_machine.specs.declared.events.Report.{Report}
use Rattle.mono_machine.specs.declared.events.Report.TheVariants as report
use Rattle.mono_machine.proofs.ValidStepLemmas.{begin_valid, steps_valid, step_is_valid}
use Rattle.mono_machine.proofs.WakeLemmas.{IsKept, Settles, settled_phase, settled, settled_kept, end_kept, event_kept, waits}
use Rattle.mono_blocking.specs.JobSpawns.{Seen}
use Rattle.mono_rt.specs.Numbering.{task_numbered, phase_numbered, end_of}
use Rattle.mono_rt.specs.Record.{no_acts}
use Rattle.mono_rt.specs.Refinement.{hosting_of, Matches}
use Rattle.mono_rt.specs.Leads.{Leads, leads_itself, leads_on}
use Rattle.mono_rt.specs.PartTurns.{EndsParts}
use Rattle.mono_rt.specs.Reaches.{ReachesSharing}
use Rattle.mono_rt.specs.Payments.{IsStirred, PaysOwed}
use Rattle.mono_rt.specs.Stores.{Store}
use Rattle.mono_rt.specs.Journals.{Does}
use Rattle.mono_rt.specs.Turns.{PaysAndPauses, AfterPoll, Polls, UnlessSpent, Runs}
use Rattle.mono_rt.specs.FuturePolls.{IsAtRest, TellsTurnBy, PolledBy, PollingBy, PollsMainBy}
use Rattle.mono_rt.specs.ListedTasks.{KnownAfter, left_unless_spent, left_by, LeavesListed, FindsListed, ParksListed, ParksListedMain}
use Rattle.mono_rt.specs.declared.contexts.Cx.{Cx}
use Rattle.mono_rt.specs.declared.parts.state.Parts.{Parts}
use Rattle.mono_rt.specs.declared.parts.journals.Entry.{Entry}
use Rattle.mono_rt.specs.declared.parts.journals.Entry.TheVariants.{Ran, Now, Park}
use Rattle.mono_rt.specs.declared.parts.journals.Journal.{Journal}
use Rattle.mono_rt.proofs.NumberLemmas.{value_numbered}
use Rattle.mono_rt.proofs.PartTurnLemmas.{begun_matches}
use Rattle.mono_rt.proofs.RoundLemmas.{does_more}

true-false : true ≡ false → ⊥
true-false e = cc

-- ---- whom the queue or the inbox keeps

-- a task that the parts have stirred
stirred_settles : {O : Type 0} (number : O → ℕ) (v : Option (Task O)) → is_stirred_in v ≡ true → settled (option_map (task_numbered number) v) ≡ true
stirred_settles number None is = refl
stirred_settles {O} number (Some task) is = by_phase task.phase is
  where
    by_phase : (phase : Phase O) → is_stirred phase ≡ true → settled_phase (phase_numbered number phase) ≡ true
    by_phase idle told = told
    by_phase queued told = refl
    by_phase (running noted) told = told
    by_phase (done output) told = refl
    by_phase taken told = refl

stirred_kept : {O P : Type 0} (number : O → ℕ) (parts : Parts O (Seen P)) (m : Machine) (t : ℕ) → Matches number hosting_of parts m → is_stirred_in (value_at parts.tasks.tasks.table t) ≡ true → IsKept t m
stirred_kept number parts m t st is =
    settled_kept t m (ap (λ x. settled (value_at x.table t)) (sym st.tasks) ∙ ap settled (value_numbered number parts.tasks.tasks t) ∙ stirred_settles number (value_at parts.tasks.tasks.table t) is)

not_queued : (b : Bool) → once_if false ≡ once_if b → b ≡ false
not_queued true is = absurd (impossible is)
  where
    impossible : once_if false ≡ once_if true → ⊥
    impossible e = omega (arith, e)
not_queued false is = refl

-- at rest nobody is queued and nobody waits in the inbox
none_awaits : (m : Machine) (t : ℕ) → IsValid m → IsAtRest m → is_awaiting t m ≡ false
none_awaits m t valid rest =
    ap (λ i. phases.of_task is_queued (value_at m.tasks.table t) || is_waiting i t) rest.1
    ∙ ap (λ b. b || false) (not_queued (phases.of_task is_queued (value_at m.tasks.table t)) (ap (λ q. times q t) (sym rest.0) ∙ valid.tasks.queue t))

-- no step but a turn reports one
no_turn_of_remote : (t u : ℕ) (m : Machine) → is_turn_of t (remote_report m u) ≡ false
no_turn_of_remote t u m = by_issued (is_issued m.tasks.table u) (has_finished (value_at m.tasks.table u) || is_waiting m.inbox u)
  where
    by_issued : (b d : Bool) → is_turn_of t (cond b (cond d report.Unlisted report.Listed) (report.Reply (reply.Refused refusal.NoTask))) ≡ false
    by_issued true true = refl
    by_issued true false = refl
    by_issued false d = refl

no_turn_of_clock : (t : ℕ) (m : Machine) (n : ℕ) (answer : Report) (new : Machine) → ClockStep m n answer new → is_turn_of t answer ≡ false
no_turn_of_clock t m n (report.Fired fired) new is = refl
no_turn_of_clock t m n (report.Reply r) new is = refl
no_turn_of_clock t m n (report.Turn me replies ended) new is = absurd is
no_turn_of_clock t m n report.Listed new is = refl
no_turn_of_clock t m n report.Unlisted new is = refl
no_turn_of_clock t m n (report.Drained tasks) new is = refl

-- ---- the turn in the machine

turn_of_report : (t : ℕ) (steps : List TurnStep) (e : End) (replies : List Reply) (told : Ended) (m : Machine) (queue : List ℕ) → report.Turn t replies told ≡ turn_report_for queue steps e m → (rest : List ℕ) × (queue ≡ t ∷ rest)
turn_of_report t steps e replies told m [] is = absurd (no_reply is)
  where
    no_reply : report.Turn t replies told ≡ report.Reply (reply.Refused refusal.Idle) → ⊥
    no_reply e = cc
turn_of_report t steps e replies told m (front ∷ rest) is = (rest, ap (λ u. u ∷ rest) (same is))
  where
    same : report.Turn t replies told ≡ report.Turn front (replies_of front steps (after_begin front rest m)) (end_answer e front (after_steps front steps (after_begin front rest m))) → front ≡ t
    same e = cc

module _ {F O P U W J A V : Type 0} (number : O → ℕ) (sharing : SharedOf W) (future : FutureOf F (Cx F O P U W J A V) O) where
  never_pending : (output : O) → end.Pending ≡ end.Ready (number output) → ⊥
  never_pending output e = cc

  -- From the context in which the turn began: calls of the task, the payment, and the end. If the turn ended pending, the
  -- calls end with the poll.
  record PaidTurn (e : End) (ended : Ended) (c middle d : Cx F O P U W J A V) : Type 0 where
    called : Cx F O P U W J A V
    parts : Leads number hosting_of c.parts called.parts
    kept : Keeps sharing.lists c.parts.me c.shared called.shared
    pending : e ≡ end.Pending → called ≡ middle
    paid : Cx F O P U W J A V
    pays : PaysOwed number sharing called paid
    answer : Poll O
    ends : EndsParts answer ended paid.parts d.parts
    same_shared : d.shared ≡ paid.shared

  unpolled : (t : ℕ) (f : Option F) (e : End) (ended : Ended) (c d : Cx F O P U W J A V) → PaysAndPauses number sharing t f ended c d → PaidTurn e ended c c d
  unpolled t f e ended c d (paid, (pays, pauses)) = record {
    called = c;
    parts = leads_itself number hosting_of c.parts;
    kept = λ p t is. inl is;
    pending = λ is. refl;
    paid = paid;
    pays = pays;
    answer = Pending;
    ends = pauses.parts;
    same_shared = pauses.shared;
  }

  by_answer : (answer : Poll O) (t : ℕ) (g : F) (e : End) (ended : Ended) (c middle d : Cx F O P U W J A V) → e ≡ end_of number answer → ReachesSharing number sharing c middle → AfterPoll number sharing future answer t g ended middle d → PaidTurn e ended c middle d
  by_answer Pending t g e ended c middle d is reached (paid, (pays, pauses)) = record {
    called = middle;
    parts = reached.parts;
    kept = reached.kept;
    pending = λ pending. refl;
    paid = paid;
    pays = pays;
    answer = Pending;
    ends = pauses.parts;
    same_shared = pauses.shared;
  }
  by_answer (Ready output) t g e ended c middle d is reached (x, cancels, on, (paid, (pays, completes))) = record {
    called = x;
    parts = leads_on number hosting_of c.parts middle.parts x.parts reached.parts on.parts;
    kept = λ p t is. elim (reached.kept p t is) [
      | inl stays ↦ elim (on.kept p t stays) [ inl still ↦ inl still | inr mine ↦ inr (mine ∙ reached.parts.same_me) ]
      | inr mine ↦ inr mine
    ];
    pending = λ pending. absurd (never_pending output (sym pending ∙ is));
    paid = paid;
    pays = pays;
    answer = Ready output;
    ends = completes.parts;
    same_shared = completes.shared;
  }

  by_spent : (s : Bool) (t : ℕ) (f : F) (e : End) (ended : Ended) (c d : Cx F O P U W J A V) (runs : UnlessSpent number sharing future s t f e ended c d) → PaidTurn e ended c (left_unless_spent number sharing future s t f e ended c d runs) d
  by_spent true t f e ended c d runs = unpolled t (Some f) e ended c d runs.1
  by_spent false t f e ended c d runs = by_answer runs.answer t runs.left e ended c runs.middle d runs.is_end runs.reached runs.rest

  paid_turn : (f : Option F) (t : ℕ) (e : End) (ended : Ended) (c d : Cx F O P U W J A V) (runs : Runs number sharing future f t e ended c d) → PaidTurn e ended c (left_by number sharing future f t e ended c d runs) d
  paid_turn None t e ended c d runs = unpolled t None e ended c d runs.1
  paid_turn (Some f) t e ended c d runs = by_spent (future.is_spent f) t f e ended c d runs

  -- the machine is valid, and the task is listed, or the queue or the inbox keeps it
  pub record IsHeld (p : List ℕ) (t : ℕ) (m : Machine) (store : Store F W) : Type 0 where
    pub valid : IsValid m
    pub is : (sharing.lists store.shared p t ≡ true) ⊎ IsKept t m

  module _ (has_timers lasts : Bool) where
    module _ (m mid : Machine) (store left : Store F W) (reading : ℕ) (steps : List TurnStep) (e : End) (answer : Report) (step : Step m (event.Turn steps e) answer mid)
        (tells : TellsTurnBy number sharing future has_timers lasts m store reading steps e answer left) where
      abbrev begun : Cx F O P U W J A V
      begun = tells.turn.begun

      abbrev middle : Cx F O P U W J A V
      middle = left_by number sharing future (value_at tells.before.futures.items tells.task) tells.task e tells.ended begun tells.after tells.turn.runs

      turn : PaidTurn e tells.ended begun middle tells.after
      turn = paid_turn (value_at tells.before.futures.items tells.task) tells.task e tells.ended begun tells.after tells.turn.runs

      leads : Leads number hosting_of begun.parts turn.paid.parts
      leads = leads_on number hosting_of begun.parts turn.called.parts turn.paid.parts turn.parts turn.pays.paying.parts

      acts : leads.steps ≡ steps
      acts = sym (leads.grew ∙ ap (λ a. a.steps ++ leads.steps) tells.turn.begins.parts.acts_are) ∙ sym (ap (λ a. a.steps) turn.ends.acts) ∙ tells.acts

      queue : (rest : List ℕ) × (m.tasks.queue ≡ tells.task ∷ rest)
      queue = turn_of_report tells.task steps e tells.after.parts.acts.replies tells.ended m m.tasks.queue (sym tells.told ∙ step.0)

      abbrev at_end : Machine
      at_end = after_steps tells.task steps (after_begin tells.task queue.0 m)

      matches : Matches number hosting_of turn.paid.parts at_end
      matches =
          let rest = queue.0 in
          let start : Matches number hosting_of begun.parts (after_begin tells.task rest m) = begun_matches number tells.before.parts begun.parts tells.task tells.now (no_acts tells.is_unread) m rest tells.turn.begins.parts queue.1 tells.stands.matches in
          subst (λ xs. Matches number hosting_of turn.paid.parts (after_steps tells.task xs (after_begin tells.task rest m))) acts
          (subst (λ me. Matches number hosting_of turn.paid.parts (after_steps me leads.steps (after_begin tells.task rest m))) tells.turn.begins.parts.me
          (leads.leads (after_begin tells.task rest m) start))

      valid_end : IsValidDuring (Some tells.task) at_end
      valid_end = steps_valid tells.task steps (after_begin tells.task queue.0 m) (begin_valid m tells.task queue.0 queue.1 tells.stands.valid)

      valid_mid : IsValid mid
      valid_mid = step_is_valid m (event.Turn steps e) answer mid tells.stands.valid step

      kept_by_payment : (u : ℕ) → IsStirred turn.paid u → IsKept u mid
      kept_by_payment u stirred =
          subst (IsKept u) (sym (step.1 ∙ ap (λ q. after_turn_for q steps e m) queue.1))
          (end_kept u tells.task e at_end valid_end (stirred_kept number turn.paid.parts at_end u matches stirred))

      -- who was listed when the calls ended is listed after the turn, or is kept
      after_calls : (p : List ℕ) (u : ℕ) → sharing.lists turn.called.shared p u ≡ true → (sharing.lists left.shared p u ≡ true) ⊎ IsKept u mid
      after_calls p u listed = elim (turn.pays.paying.woken p u listed) [
        | inl stays ↦ inl (ap (λ w. sharing.lists w p u) (sym tells.leaves ∙ turn.same_shared) ∙ stays)
        | inr stirred ↦ inr (kept_by_payment u stirred)
      ]

      own_turn : (p : List ℕ) (u : ℕ) → LeavesListed number sharing future has_timers lasts m store reading steps e answer left tells p u → (sharing.lists left.shared p u ≡ true) ⊎ IsKept u mid
      own_turn p u leaves = after_calls p u (ap (λ c. sharing.lists c.shared p u) (turn.pending leaves.0) ∙ leaves.1)

      other_turn : (p : List ℕ) (u : ℕ) → u ≢ tells.task → sharing.lists store.shared p u ≡ true → (sharing.lists left.shared p u ≡ true) ⊎ IsKept u mid
      other_turn p u apart listed = elim (turn.kept p u (ap (λ w. sharing.lists w p u) (tells.turn.begins.shared ∙ tells.found) ∙ listed)) [
        | inl stays ↦ after_calls p u stays
        | inr own ↦ absurd (apart (own ∙ tells.turn.begins.parts.me))
      ]

      nothing_owed : sharing.owes left.shared ≡ []
      nothing_owed = ap sharing.owes (sym tells.leaves ∙ turn.same_shared) ∙ turn.pays.nothing

      is_own : (u : ℕ) → is_turn_of u answer ≡ false → u ≢ tells.task
      is_own u apart same = elim (eqb_tells tells.task u) [
        | inl here ↦ true-false (sym here.0 ∙ sym (ap (is_turn_of u) tells.told) ∙ apart)
        | inr there ↦ there.1 (sym same)
      ]

      stands : (p : List ℕ) (u : ℕ) (b : Bool) (known : Type 0) → is_turn_of u answer ≡ b → (known → IsHeld p u m store)
          → KnownAfter b (LeavesListed number sharing future has_timers lasts m store reading steps e answer left tells p u) known → IsHeld p u mid left
      stands p u true known is held leaves = record { valid = valid_mid; is = own_turn p u leaves }
      stands p u false known is held before =
          let was : IsHeld p u m store = held before in
          record {
            valid = valid_mid;
            is = elim was.is [
              | inl listed ↦ other_turn p u (is_own u is) listed
              | inr kept ↦ inr (event_kept u m (event.Turn steps e) answer mid was.valid kept step is)
            ];
          }

    -- each task that is known to be listed is held
    abbrev Held : (List ℕ → ℕ → Type 0) → Machine → Store F W → Type 0
    Held known m store = (p : List ℕ) (t : ℕ) → known p t → IsHeld p t m store

    at_park : (p : List ℕ) (t : ℕ) (m : Machine) (store : Store F W) → IsAtRest m → has_finished (value_at m.tasks.table t) ≡ false → IsHeld p t m store → sharing.lists store.shared p t ≡ true
    at_park p t m store rest unfinished held = elim held.is [
      | inl listed ↦ listed
      | inr kept ↦ absurd (true-false (sym (waits t m held.valid kept unfinished) ∙ none_awaits m t held.valid rest))
    ]

    -- an event that is no turn leaves the shared value
    held_on : (p : List ℕ) (t : ℕ) (m : Machine) (e : Event) (answer : Report) (mid : Machine) (store : Store F W) → IsHeld p t m store → Step m e answer mid → is_turn_of t answer ≡ false → IsHeld p t mid store
    held_on p t m e answer mid store held step other = record {
      valid = step_is_valid m e answer mid held.valid step;
      is = elim held.is [ inl listed ↦ inl listed | inr kept ↦ inr (event_kept t m e answer mid held.valid kept step other) ];
    }

    pub finds_listed : (part : List Entry) (known : List ℕ → ℕ → Type 0) (paid : Type 0) (m : Machine) (store : Store F W) (reading : ℕ) → Held known m store → (paid → sharing.owes store.shared ≡ [])
        → PolledBy number sharing future has_timers lasts m store reading part → FindsListed number sharing future has_timers lasts known paid m store reading part
    finds_listed [] known paid m store reading held clear polled = tt
    finds_listed (Now n ∷ part) known paid m store reading held clear polled = finds_listed part known paid m store n held clear polled
    finds_listed (Park wait ∷ part) known paid m store reading held clear (rest, polled) =
        (λ p t is unfinished. at_park p t m store rest unfinished (held p t is), (clear, finds_listed part known paid m store reading held clear polled))
    finds_listed (Ran (event.Turn steps e) answer ∷ part) known paid m store reading held clear (mid, (left, (step, tells, polled))) = (
      mid,
      (
        left,
        (
          step,
          (
            tells,
            finds_listed part (λ p t. KnownAfter (is_turn_of t answer) (LeavesListed number sharing future has_timers lasts m store reading steps e answer left tells p t) (known p t)) ⊤ mid left reading
                (λ p t is. stands m mid store left reading steps e answer step tells p t (is_turn_of t answer) (known p t) refl (held p t) is)
                (λ turned. nothing_owed m mid store left reading steps e answer step tells) polled,
          ),
        ),
      ),
    )
    finds_listed (Ran (event.Act a) answer ∷ part) known paid m store reading held clear (mid, (none, step, polled)) =
        (mid, (none, (step, finds_listed part known paid mid store reading (λ p t is. held_on p t m (event.Act a) answer mid store (held p t is) step (ap (is_turn_of t) step.0)) clear polled)))
    finds_listed (Ran (event.Clock n) answer ∷ part) known paid m store reading held clear (mid, (step, polled)) =
        (mid, (step, finds_listed part known paid mid store reading (λ p t is. held_on p t m (event.Clock n) answer mid store (held p t is) step (no_turn_of_clock t m n answer mid step)) clear polled))
    finds_listed (Ran (event.Remote u) answer ∷ part) known paid m store reading held clear (mid, (step, polled)) =
        (mid, (step, finds_listed part known paid mid store reading (λ p t is. held_on p t m (event.Remote u) answer mid store (held p t is) step (ap (is_turn_of t) step.0 ∙ no_turn_of_remote t u m)) clear polled))
    finds_listed (Ran event.Drain answer ∷ part) known paid m store reading held clear (mid, (step, polled)) =
        (mid, (step, finds_listed part known paid mid store reading (λ p t is. held_on p t m event.Drain answer mid store (held p t is) step (ap (is_turn_of t) step.0)) clear polled))

    parks_listed : (store left : Store F W) (old new : Machine) (part rest : List Entry) → PollingBy number sharing future has_timers lasts store left old part new rest → ParksListed number sharing future has_timers lasts store left old part new rest
    parks_listed store left old new part rest polling polled reading = finds_listed part (λ p t. ⊥) ⊥ old store reading (λ p t is. absurd is) (λ is. absurd is) (polling polled reading)

    pub does_listed : (store left : Store F W) (c d : Parts O (Seen P)) (j k : Journal) → Does number (PollingBy number sharing future has_timers lasts store left) c d j k → Does number (ParksListed number sharing future has_timers lasts store left) c d j k
    does_listed store left c d j k p = does_more number (PollingBy number sharing future has_timers lasts store left) (ParksListed number sharing future has_timers lasts store left) c d j k (λ m new xs zs stm stn is. parks_listed store left m new xs zs is) p

    pub does_listed_main : (main : F) (store left : Store F W) (c d : Parts O (Seen P)) (j k : Journal) → Does number (PollsMainBy number sharing future has_timers lasts main store left) c d j k → Does number (ParksListedMain number sharing future has_timers lasts main store left) c d j k
    does_listed_main main store left c d j k p =
        does_more number (PollsMainBy number sharing future has_timers lasts main store left) (ParksListedMain number sharing future has_timers lasts main store left) c d j k
        (λ m new xs zs stm stn (t, (mid, (more, (spawn, polling)))). (t, (mid, (more, (spawn, parks_listed _ left mid new more zs polling))))) p
