-- At each park an unfinished task waits for what its future needs.
use Rattle.std.proofs.Common.{◌≡◌, ◌⊎◌, inl, inr, ℕ, true, false, Bool, List, [], ◌∷◌, ◌++◌, Some, None, Option, refl, ap, sym, subst, ◌∙◌}
use Rattle.std.specs.Prelude.{⊤, ◌==◌, ◌||◌}
use Rattle.std.proofs.lemmas.Bool.Decides.{eqb_tells}
use Rattle.mono_task.specs.Members.{FutureOf, SharedOf}
use Rattle.mono_model.specs.Table.{value_at}
use Rattle.mono_machine.specs.Machine.{Machine, IsValid}
use Rattle.mono_machine.specs.Steps.{Step, has_finished}
use Rattle.mono_machine.specs.History.{is_turn_of, is_awaiting}
use Rattle.mono_machine.specs.Watches.{Source, IsWatched, IsHeld, is_taken, drops_step, drops_in}
use Rattle.mono_machine.specs.declared.events.Event.{Event}
use Rattle.mono_machine.specs.declared.events.Event.TheVariants as event
use Rattle.mono_machine.specs.declared.events.TurnStep.{TurnStep}
use Rattle.mono_machine.specs.declared.events.End.{End}
use Rattle.mono_machine.specs.declared.events.End.TheVariants as end
use Rattle.mono_machine.specs.declared.events.Report.{Report}
use Rattle.mono_machine.specs.declared.events.Report.TheVariants as report
use Rattle.mono_machine.proofs.ValidStepLemmas.{step_is_valid}
use Rattle.mono_machine.proofs.WatchLemmas.{held_stays, awaiting_held, held_waits}
use Rattle.mono_rt.specs.declared.parts.journals.Entry.{Entry}
use Rattle.mono_rt.specs.declared.parts.journals.Entry.TheVariants.{Ran, Now, Park}
use Rattle.mono_rt.specs.Stores.{Store}
use Rattle.mono_rt.specs.FuturePolls.{TellsTurn, Polled}
use Rattle.mono_rt.specs.declared.contexts.Cx.{Cx}
use Rattle.mono_wait.specs.PendingTurns.{LeavesAt, LeavesWaiting}
use Rattle.mono_wait.specs.JournalWaits.{NeedsAfter, Untaken, AfterTurn, Waiting}

no_drop_after : (x : Source) (before since : List TurnStep) → drops_in x (before ++ since) ≡ false → drops_in x since ≡ false
no_drop_after x [] since none = none
no_drop_after x (s ∷ before) since none = no_drop_after x before since (right (drops_step x s) none)
  where
    right : (b : Bool) {c : Bool} → (b || c) ≡ false → c ≡ false
    right true e = absurd (impossible e)
      where
        impossible : true ≡ false → ⊥
        impossible e = cc
    right false e = e

same_value : {V : Type 0} (v w : V) → Some v ≡ Some w → v ≡ w
same_value v w e = cc

false-true : false ≡ true → ⊥
false-true e = cc

module _ {F O P U W J A V : Type 0} (number : O → ℕ) (sharing : SharedOf W) (future : FutureOf F (Cx F O P U W J A V) O) (needs : F → Source → Type 0) (has_timers : Bool)
    (leaves : (m : Machine) (store : Store F W) (reading : ℕ) (steps : List TurnStep) (answer : Report) (left : Store F W)
    → TellsTurn number sharing future has_timers m store reading steps end.Pending answer left → LeavesWaiting (λ f. future.is_spent f ≡ false) needs m store.futures left.futures steps answer)
    (t : ℕ) (x : Source) where
  task_of : (u : ℕ) (answer : Report) (w : Report) → answer ≡ w → is_turn_of t answer ≡ true → is_turn_of t w ≡ true
  task_of u answer w is told = sym (ap (is_turn_of t) is) ∙ told

  -- a turn of t after which its future needs x
  own_turn : (m mid : Machine) (store left : Store F W) (reading : ℕ) (steps : List TurnStep) (answer : Report) → Step m (event.Turn steps end.Pending) answer mid
      → LeavesWaiting (λ f. future.is_spent f ≡ false) needs m store.futures left.futures steps answer → is_turn_of t answer ≡ true → NeedsAfter number sharing future needs has_timers t x store left steps end.Pending → IsHeld mid t x
  own_turn m mid store left reading steps answer step w told n = elim (eqb_tells w.task t) [
    | inl here ↦ by_task here.1
    | inr apart ↦ absurd (false-true (sym apart.0 ∙ task_of w.task answer (report.Turn w.task w.replies w.ended) w.told told))
  ]
    where
      by_task : w.task ≡ t → IsHeld mid t x
      by_task same =
          let found : (g : F) × (value_at left.futures w.task ≡ Some g) × ((y : Source) → needs g y → LeavesAt m w.task steps answer y) = w.waits n.f (ap (value_at store.futures) same ∙ n.before) n.unspent in
          let is_g : n.g ≡ found.0 = same_value n.g found.0 (sym n.after ∙ ap (value_at left.futures) (sym same) ∙ found.1) in
          let at : LeavesAt m w.task steps answer x = found.2 x (subst (λ g. needs g x) is_g n.needed) in
          awaiting_held mid t x (subst (λ u. IsWatched mid u x ⊎ (is_awaiting u mid ≡ true)) same (at.stays mid step (no_drop_after x at.before at.since (ap (drops_in x) (sym at.acts) ∙ n.kept))))

  -- the machine is valid, and the task is held in it
  pub record HoldsValid (m : Machine) : Type 0 where
    pub valid : IsValid m
    pub held : IsHeld m t x

  holds_on : (m : Machine) (e : Event) (answer : Report) (mid : Machine) → Step m e answer mid → HoldsValid m → is_turn_of t answer ≡ false → is_taken t x e answer ≡ false → HoldsValid mid
  holds_on m e answer mid step was apart untaken = record { valid = step_is_valid m e answer mid was.valid step; held = held_stays m e answer mid t x was.valid step was.held apart untaken }

  waits_held : (m : Machine) → HoldsValid m → has_finished (value_at m.tasks.table t) ≡ false → IsWatched m t x ⊎ (is_awaiting t m ≡ true)
  waits_held m was unfinished = held_waits m t x was.valid was.held unfinished

  turn_holds : (e : End) (b : Bool) (owed : Type 0) (m mid : Machine) (store left : Store F W) (reading : ℕ) (steps : List TurnStep) (answer : Report) → is_turn_of t answer ≡ b → (owed → HoldsValid m)
      → Step m (event.Turn steps e) answer mid → TellsTurn number sharing future has_timers m store reading steps e answer left → AfterTurn number sharing future needs has_timers t x b owed store left steps e answer → HoldsValid mid
  turn_holds e false owed m mid store left reading steps answer told held step turn next = holds_on m (event.Turn steps e) answer mid step (held next.0) next.1 next.2
  turn_holds e true owed m mid store left reading steps answer told held step turn next = record {
    valid = step_is_valid m (event.Turn steps e) answer mid turn.stands.valid step;
    held =
        own_turn m mid store left reading steps answer (subst (λ y. Step m (event.Turn steps y) answer mid) next.is_pending step)
        (leaves m store reading steps answer left (subst (λ y. TellsTurn number sharing future has_timers m store reading steps y answer left) next.is_pending turn)) told
        (subst (λ y. NeedsAfter number sharing future needs has_timers t x store left steps y) next.is_pending next);
  }

  pub waiting : (part : List Entry) (owed : Type 0) (m : Machine) (store : Store F W) (reading : ℕ) → (owed → HoldsValid m) → Polled number sharing future has_timers m store reading part → Waiting number sharing future needs has_timers t x owed m store reading part
  waiting [] owed m store reading held polled = tt
  waiting (Now n ∷ part) owed m store reading held polled = waiting part owed m store n held polled
  waiting (Park wait ∷ part) owed m store reading held (at_rest, polled) = (λ o unfinished. waits_held m (held o) unfinished, waiting part owed m store reading held polled)
  waiting (Ran (event.Turn steps e) answer ∷ part) owed m store reading held (mid, (left, (step, turn, polled))) = (
    mid,
    (
      left,
      (
        step,
        turn,
        waiting part (AfterTurn number sharing future needs has_timers t x (is_turn_of t answer) owed store left steps e answer) mid left reading
            (turn_holds e (is_turn_of t answer) owed m mid store left reading steps answer refl held step turn) polled,
      ),
    ),
  )
  waiting (Ran (event.Act a) answer ∷ part) owed m store reading held (mid, (none, step, polled)) =
      (mid, (none, step, waiting part (Untaken number sharing future needs has_timers t x owed (event.Act a) answer) mid store reading (λ o. holds_on m (event.Act a) answer mid step (held o.0) o.1 o.2) polled))
  waiting (Ran (event.Clock n) answer ∷ part) owed m store reading held (mid, (step, polled)) =
      (mid, (step, waiting part (Untaken number sharing future needs has_timers t x owed (event.Clock n) answer) mid store reading (λ o. holds_on m (event.Clock n) answer mid step (held o.0) o.1 o.2) polled))
  waiting (Ran (event.Remote u) answer ∷ part) owed m store reading held (mid, (step, polled)) =
      (mid, (step, waiting part (Untaken number sharing future needs has_timers t x owed (event.Remote u) answer) mid store reading (λ o. holds_on m (event.Remote u) answer mid step (held o.0) o.1 o.2) polled))
  waiting (Ran event.Drain answer ∷ part) owed m store reading held (mid, (step, polled)) =
      (mid, (step, waiting part (Untaken number sharing future needs has_timers t x owed event.Drain answer) mid store reading (λ o. holds_on m event.Drain answer mid step (held o.0) o.1 o.2) polled))
