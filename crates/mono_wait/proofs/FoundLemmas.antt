-- From what parks find of the tasks that wait to what follows from it.
use Rattle.std.proofs.Common.{ℕ, Bool, true, List, [], ◌∷◌}
use Rattle.mono_task.specs.Members.{FutureOf, SharedOf}
use Rattle.mono_machine.specs.Machine.{Machine}
use Rattle.mono_machine.specs.History.{is_turn_of}
use Rattle.mono_machine.specs.declared.events.Event.TheVariants as event
use Rattle.mono_rt.specs.Stores.{Store, with_future, store_of}
use Rattle.mono_rt.specs.Views.{is_timed}
use Rattle.mono_rt.specs.declared.contexts.Cx.{Cx}
use Rattle.mono_rt.specs.declared.runtimes.Runtime.{Runtime}
use Rattle.mono_rt.specs.declared.parts.journals.Entry.{Entry}
use Rattle.mono_rt.specs.declared.parts.journals.Entry.TheVariants.{Ran, Now, Park}
use Rattle.mono_wait.specs.JournalPlaces.{OwedAfter, StaysFound, FoundInCall}
use Rattle.mono_wait.specs.RunPlaces.{ParksFind}

module _ {F O P U W J A V : Type 0} (number : O → ℕ) (sharing : SharedOf W) (future : FutureOf F (Cx F O P U W J A V) O) (waits_in : F → List ℕ → Type 0) (found other : W → List ℕ → ℕ → Type 0)
    (goes : (w : W) (p : List ℕ) (t : ℕ) → found w p t → other w p t) where
  stays : (has_timers lasts : Bool) (t : ℕ) (p : List ℕ) (part : List Entry) (owed : Type 0) (m : Machine) (store : Store F W) (reading : ℕ)
      → StaysFound number sharing future waits_in has_timers lasts t p found owed m store reading part → StaysFound number sharing future waits_in has_timers lasts t p other owed m store reading part
  stays g l t p [] owed m store reading is = tt
  stays g l t p (Now n ∷ part) owed m store reading is = stays g l t p part owed m store n is
  stays g l t p (Park wait ∷ part) owed m store reading (claim, is) = (λ o unfinished. goes store.shared p t (claim o unfinished), stays g l t p part owed m store reading is)
  stays g l t p (Ran (event.Turn steps e) answer ∷ part) owed m store reading (mid, (left, (step, tells, is))) =
      (mid, (left, (step, tells, stays g l t p part (OwedAfter number sharing future waits_in g l t p (is_turn_of t answer) owed store left e) mid left reading is)))
  stays g l t p (Ran (event.Act a) answer ∷ part) owed m store reading (mid, (none, step, is)) = (mid, (none, step, stays g l t p part owed mid store reading is))
  stays g l t p (Ran (event.Clock n) answer ∷ part) owed m store reading (mid, (step, is)) = (mid, (step, stays g l t p part owed mid store reading is))
  stays g l t p (Ran (event.Remote u) answer ∷ part) owed m store reading (mid, (step, is)) = (mid, (step, stays g l t p part owed mid store reading is))
  stays g l t p (Ran event.Drain answer ∷ part) owed m store reading (mid, (step, is)) = (mid, (step, stays g l t p part owed mid store reading is))

  in_call : (has_timers lasts : Bool) (first : F) (store : Store F W) (old : Machine) (part : List Entry) → FoundInCall number sharing future waits_in has_timers lasts found first store old part → FoundInCall number sharing future waits_in has_timers lasts other first store old part
  in_call g l first store old part is = record {
    main = is.main;
    spawned = is.spawned;
    more = is.more;
    spawn = is.spawn;
    finds = λ reading t p. stays g l t p is.more ⊥ is.spawned (with_future store first) reading (is.finds reading t p);
  }

module _ {F O D P W U J A V : Type 0} {number : O → ℕ} {sharing : SharedOf W} {future : FutureOf F (Cx F O P U W J A V) O} {waits_in : F → List ℕ → Type 0} {found other : W → List ℕ → ℕ → Type 0} {main : F} {old new : Runtime F O D P W U J A V} where
  -- What each park finds implies this, too.
  pub parks_find : ((w : W) (p : List ℕ) (t : ℕ) → found w p t → other w p t) → ParksFind number sharing future waits_in found main old new → ParksFind number sharing future waits_in other main old new
  parks_find goes is = record {
    finds = λ m refines. let done = is.finds m refines in (done.0, (done.1.0, in_call number sharing future waits_in found other goes (is_timed old) true main (store_of old.cx) m done.0 done.1.1));
  }
