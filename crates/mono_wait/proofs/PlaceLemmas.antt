-- At each park the shared value lists an unfinished task at each place at which its future waits.
use Rattle.std.proofs.Common.{◌≡◌, ◌<◌, inl, inr, ℕ, true, false, Bool, length, List, [], ◌∷◌, ◌++◌, Some, None, Option, refl, ap, sym, subst, ◌∙◌, append-nil, arith}
use Rattle.std.specs.Prelude.{⊤}
use Rattle.std.proofs.lemmas.Bool.{cases_lt}
use Rattle.std.proofs.lemmas.Bool.Decides.{eqb_tells}
use Rattle.std.proofs.lemmas.List.{get_or-set_same, get_or_past, length-set}
use Rattle.mono_task.specs.Members.{FutureOf, SharedOf}
use Rattle.mono_model.specs.Table.{value_at}
use Rattle.mono_model.specs.declared.Ended.{Ended}
use Rattle.mono_model.specs.declared.poll.Poll.{Poll}
use Rattle.mono_model.specs.declared.poll.Poll.TheVariants.{Ready, Pending}
use Rattle.mono_machine.specs.Machine.{Machine}
use Rattle.mono_machine.specs.History.{is_turn_of}
use Rattle.mono_machine.specs.declared.events.Event.TheVariants as event
use Rattle.mono_machine.specs.declared.events.TurnStep.{TurnStep}
use Rattle.mono_machine.specs.declared.events.End.{End}
use Rattle.mono_machine.specs.declared.events.End.TheVariants as end
use Rattle.mono_machine.specs.declared.events.Report.{Report}
use Rattle.mono_rt.specs.Numbering.{end_of}
use Rattle.mono_rt.specs.Reaches.{ReachesSharing}
use Rattle.mono_rt.specs.Turns.{AfterPoll, Polls, UnlessSpent, Runs}
use Rattle.mono_rt.specs.Stores.{Store, with_future}
use Rattle.mono_rt.specs.FuturePolls.{TellsTurnBy, PolledBy}
use Rattle.mono_rt.specs.ListedTasks.{KnownAfter, left_unless_spent, left_by, LeavesListed, FindsListed, ParksListedMain}
use Rattle.mono_rt.specs.declared.contexts.Cx.{Cx}
use Rattle.mono_rt.specs.declared.parts.journals.Entry.{Entry}
use Rattle.mono_rt.specs.declared.parts.journals.Entry.TheVariants.{Ran, Now, Park}
use Rattle.mono_rt.proofs.ListedTaskLemmas.{finds_listed}
use Rattle.mono_wait.specs.JournalPlaces.{WaitsAfter, OwedAfter, StaysListed, ListedInCall}

true-false : true ≡ false → ⊥
true-false e = cc

no_some : {V : Type 0} (v : V) → None ≡ Some v → ⊥
no_some v e = cc

same_value : {V : Type 0} (v w : V) → Some v ≡ Some w → v ≡ w
same_value v w e = cc

inside_of : {V : Type 0} (table : List (Option V)) (t : ℕ) (v : V) → value_at table t ≡ Some v → t < length table
inside_of table t v at = elim (cases_lt t (length table)) [
  | inl inside ↦ inside
  | inr past ↦ absurd (no_some v (sym (get_or_past table t None past) ∙ at))
]

module _ {F O P U W J A V : Type 0} (number : O → ℕ) (sharing : SharedOf W) (future : FutureOf F (Cx F O P U W J A V) O) (waits_in : F → List ℕ → Type 0)
    (listed : (f : F) (c : Cx F O P U W J A V) (g : F) (d : Cx F O P U W J A V) → future.polls f c Pending g d → (p : List ℕ) → waits_in g p → sharing.lists d.shared p d.parts.me ≡ true) where
  never_ready : (output : O) → end.Pending ≡ end.Ready (number output) → ⊥
  never_ready output e = cc

  pending_answer : (answer : Poll O) → end.Pending ≡ end_of number answer → answer ≡ Pending
  pending_answer (Ready output) is = absurd (never_ready output is)
  pending_answer Pending is = refl

  -- A turn of the task u ended pending, and left a future that waits at p.
  module _ (u : ℕ) (e : End) (pending : e ≡ end.Pending) (ended : Ended) (begun after : Cx F O P U W J A V) (g : F) (p : List ℕ) (inside : u < length begun.futures.items) (me : begun.parts.me ≡ u)
      (has : value_at after.futures.items u ≡ Some g) (waits : waits_in g p) where
    goes_back : (left : F) (middle : Cx F O P U W J A V) → ReachesSharing number sharing begun middle → AfterPoll number sharing future Pending u left ended middle after → g ≡ left
    goes_back left middle reached (paid, (pays, pauses)) =
        let same : length paid.futures.items ≡ length middle.futures.items = ap (λ x. length x.items) pays.paying.same_futures in
        same_value g left (sym has ∙ ap (λ fs. value_at fs u) pauses.futures ∙ get_or-set_same paid.futures.items u (Some left) None (omega (arith, inside, same, reached.grows)))

    by_poll : (f : F) (runs : Polls number sharing future u f e ended begun after) → sharing.lists runs.middle.shared p u ≡ true
    by_poll f runs =
        let is : runs.answer ≡ Pending = pending_answer runs.answer (sym pending ∙ runs.is_end) in
        let same : g ≡ runs.left = goes_back runs.left runs.middle runs.reached (subst (λ a. AfterPoll number sharing future a u runs.left ended runs.middle after) is runs.rest) in
        ap (sharing.lists runs.middle.shared p) (sym (runs.reached.parts.same_me ∙ me))
        ∙ listed f begun runs.left runs.middle (subst (λ a. future.polls f begun a runs.left runs.middle) is runs.polled) p (subst (λ h. waits_in h p) same waits)

    by_spent : (f : F) (s : Bool) → s ≡ false → (runs : UnlessSpent number sharing future s u f e ended begun after) → sharing.lists (left_unless_spent number sharing future s u f e ended begun after runs).shared p u ≡ true
    by_spent f true is runs = absurd (true-false is)
    by_spent f false is runs = by_poll f runs

    by_future : (f : F) (v : Option F) → v ≡ Some f → future.is_spent f ≡ false → (runs : Runs number sharing future v u e ended begun after) → sharing.lists (left_by number sharing future v u e ended begun after runs).shared p u ≡ true
    by_future f None at unspent runs = absurd (no_some f at)
    by_future f (Some h) at unspent runs = by_spent h (future.is_spent h) (ap future.is_spent (same_value h f at) ∙ unspent) runs

  module _ (has_timers lasts : Bool) (t : ℕ) (p : List ℕ) where
    own_turn : (m : Machine) (store : Store F W) (reading : ℕ) (steps : List TurnStep) (e : End) (answer : Report) (left : Store F W) (tells : TellsTurnBy number sharing future has_timers lasts m store reading steps e answer left)
        → is_turn_of t answer ≡ true → WaitsAfter number sharing future waits_in has_timers lasts t p store left e → LeavesListed number sharing future has_timers lasts m store reading steps e answer left tells p t
    own_turn m store reading steps e answer left tells is n = elim (eqb_tells tells.task t) [
      | inl here ↦ by_task here.1
      | inr apart ↦ absurd (true-false (sym (sym (ap (is_turn_of t) tells.told) ∙ is) ∙ apart.0))
    ]
      where
        by_task : tells.task ≡ t → LeavesListed number sharing future has_timers lasts m store reading steps e answer left tells p t
        by_task same =
            let at : value_at tells.before.futures.items tells.task ≡ Some n.f = ap (λ fs. value_at fs tells.task) tells.had ∙ ap (value_at store.futures) same ∙ n.before in
            let had : tells.task < length tells.before.futures.items = inside_of tells.before.futures.items tells.task n.f at in
            let long : length tells.turn.begun.futures.items ≡ length tells.before.futures.items = ap length tells.turn.begins.futures ∙ length-set tells.before.futures.items tells.task None in (
              n.is_pending,
              ap
                  (sharing.lists (left_by number sharing future (value_at tells.before.futures.items tells.task) tells.task e tells.ended tells.turn.begun tells.after tells.turn.runs).shared p)
                  (sym same)
                  ∙ by_future tells.task e n.is_pending tells.ended tells.turn.begun tells.after n.g p (omega (arith, had, long)) tells.turn.begins.parts.me
                  (ap (λ fs. value_at fs tells.task) tells.has ∙ ap (value_at left.futures) same ∙ n.after) n.waits n.f (value_at tells.before.futures.items tells.task) at n.unspent tells.turn.runs,
            )

    known_after : (b : Bool) (owed known : Type 0) → (owed → known) → (m : Machine) (store : Store F W) (reading : ℕ) (steps : List TurnStep) (e : End) (answer : Report) (left : Store F W)
        (tells : TellsTurnBy number sharing future has_timers lasts m store reading steps e answer left) → is_turn_of t answer ≡ b → OwedAfter number sharing future waits_in has_timers lasts t p b owed store left e
        → KnownAfter b (LeavesListed number sharing future has_timers lasts m store reading steps e answer left tells p t) known
    known_after true owed known goes m store reading steps e answer left tells is n = own_turn m store reading steps e answer left tells is n
    known_after false owed known goes m store reading steps e answer left tells is o = goes o

    pub stays_listed : (part : List Entry) (known : List ℕ → ℕ → Type 0) (paid owed : Type 0) (m : Machine) (store : Store F W) (reading : ℕ) → (owed → known p t) → (owed → paid)
        → FindsListed number sharing future has_timers lasts known paid m store reading part → StaysListed number sharing future waits_in has_timers lasts t p owed m store reading part
    stays_listed [] known paid owed m store reading goes turned finds = tt
    stays_listed (Now n ∷ part) known paid owed m store reading goes turned finds = stays_listed part known paid owed m store n goes turned finds
    stays_listed (Park wait ∷ part) known paid owed m store reading goes turned (claim, (clear, finds)) =
        (λ o unfinished. (claim p t (goes o) unfinished, clear (turned o)), stays_listed part known paid owed m store reading goes turned finds)
    stays_listed (Ran (event.Turn steps e) answer ∷ part) known paid owed m store reading goes turned (mid, (left, (step, (tells, finds)))) = (
      mid,
      (
        left,
        (
          step,
          tells,
          stays_listed part (λ q u. KnownAfter (is_turn_of u answer) (LeavesListed number sharing future has_timers lasts m store reading steps e answer left tells q u) (known q u)) ⊤
              (OwedAfter number sharing future waits_in has_timers lasts t p (is_turn_of t answer) owed store left e) mid left reading
              (known_after (is_turn_of t answer) owed (known p t) goes m store reading steps e answer left tells refl) (λ o. tt) finds,
        ),
      ),
    )
    stays_listed (Ran (event.Act a) answer ∷ part) known paid owed m store reading goes turned (mid, (none, (step, finds))) = (mid, (none, step, stays_listed part known paid owed mid store reading goes turned finds))
    stays_listed (Ran (event.Clock n) answer ∷ part) known paid owed m store reading goes turned (mid, (step, finds)) = (mid, (step, stays_listed part known paid owed mid store reading goes turned finds))
    stays_listed (Ran (event.Remote u) answer ∷ part) known paid owed m store reading goes turned (mid, (step, finds)) = (mid, (step, stays_listed part known paid owed mid store reading goes turned finds))
    stays_listed (Ran event.Drain answer ∷ part) known paid owed m store reading goes turned (mid, (step, finds)) = (mid, (step, stays_listed part known paid owed mid store reading goes turned finds))

    pub polled_listed : (part : List Entry) (m : Machine) (store : Store F W) (reading : ℕ) → PolledBy number sharing future has_timers lasts m store reading part
        → StaysListed number sharing future waits_in has_timers lasts t p ⊥ m store reading part
    polled_listed part m store reading polled =
        stays_listed part (λ q u. ⊥) ⊥ ⊥ m store reading (λ none. none) (λ none. none) (finds_listed number sharing future has_timers lasts part (λ q u. ⊥) ⊥ m store reading (λ q u none. absurd none) (λ none. absurd none) polled)

  pub call_listed : (has_timers lasts : Bool) (first : F) (store left : Store F W) (old new : Machine) (part : List Entry)
      → ((rest : List Entry) → ParksListedMain number sharing future has_timers lasts first store left old (part ++ rest) new rest) → ListedInCall number sharing future waits_in has_timers lasts first store old part
  call_listed has_timers lasts first store left old new part parks =
      by_parts (subst (λ xs. ParksListedMain number sharing future has_timers lasts first store left old xs new []) (append-nil part) (parks []))
    where
      by_parts : ParksListedMain number sharing future has_timers lasts first store left old part new [] → ListedInCall number sharing future waits_in has_timers lasts first store old part
      by_parts (t, (mid, (more, (spawn, finds)))) = record {
        main = t;
        spawned = mid;
        more = more;
        spawn = spawn;
        finds = λ reading u p.
            stays_listed has_timers lasts u p more (λ q v. ⊥) ⊥ ⊥ mid (with_future store first) reading (λ none. none) (λ none. none)
            (finds (λ n. tt) reading);
      }
