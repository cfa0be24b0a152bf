-- Items that are collected.
use Rattle.std.specs.Prelude.{◌≡◌, ℕ, Bool, true, false, List, [], ◌∷◌, ◌++◌, Option, Some, None, Result, Ok, Err}
use Rattle.std.specs.Global.{Vec}
use Rattle.mono_model.specs.declared.Woke.{Woke}
use Rattle.mono_model.specs.declared.task_error.TaskError.{TaskError}
use Rattle.mono_model.specs.declared.poll.Poll.{Poll}
use Rattle.mono_model.specs.declared.poll.Poll.TheVariants.{Ready, Pending}
use Rattle.mono_stream.specs.Comes.{MayCome}
use Rattle.mono_stream.specs.Sifts.{Sifts}
use Rattle.mono_stream.specs.declared.collects.Collecting.{Collecting}
use Rattle.mono_stream.specs.declared.collects.Collect.{Collect}
use Rattle.mono_stream.specs.declared.collects.Uncollected.{Uncollected}
use Rattle.mono_stream.specs.declared.sifts.Outcome.{Outcome}
use Rattle.mono_stream.specs.declared.sifts.Outcome.TheVariants.{Found, Done, Ended, Waits, Many}

module _ {X : Type 0} where
  -- The item is the last of the items, unless there was no memory for it.
  abbrev pub CollectSifts : Vec X → X → Option X → Vec X → Type 0
  CollectSifts v x (Some y) w = (y ≡ x) × (w.items ≡ v.items)
  CollectSifts v x None w = w.items ≡ v.items ++ x ∷ []

  abbrev pub CollectingSifts : Collecting X → X → Option X → Collecting X → Type 0
  CollectingSifts v x y w = CollectSifts v.items x y w.items

  -- It is ready with the items once the stream has ended, or once one was refused. If the poll reached its limit, the
  -- running task is woken.
  abbrev pub AfterCollected : {C : Type 0} → (C → ℕ) → (C → ℕ → Result Woke TaskError → C → Type 0) → Outcome X → Vec X → C → Poll (Result (Vec X) (Uncollected X)) → Vec X → Bool → C → Type 0
  AfterCollected number wakes (Found x) items c r left ended d = (r ≡ Ready (Err (record { items = items; refused = x }))) × (ended ≡ true) × (d ≡ c)
  AfterCollected number wakes Ended items c r left ended d = (r ≡ Ready (Ok items)) × (ended ≡ true) × (d ≡ c)
  AfterCollected number wakes Waits items c r left ended d = (r ≡ Pending) × (left ≡ items) × (ended ≡ false) × (d ≡ c)
  AfterCollected number wakes Many items c r left ended d = (r ≡ Pending) × (left ≡ items) × (ended ≡ false) × ((woke : Result Woke TaskError) × wakes c (number c) woke d)
  AfterCollected number wakes Done items c r left ended d = ⊥

module _ {S C X : Type 0} (polls : S → C → Poll (Option X) → S → C → Type 0) (number : C → ℕ) (wakes : C → ℕ → Result Woke TaskError → C → Type 0) where
  pub record CollectPolls (f : Collect S X) (c : C) (r : Poll (Result (Vec X) (Uncollected X))) (g : Collect S X) (d : C) : Type 0 where
    pub outcome : Outcome X
    pub collected : Collecting X
    pub middle : C
    pub taken : Sifts polls (λ v. false) CollectingSifts f.stream f.collecting c outcome g.stream collected middle
    pub after : AfterCollected number wakes outcome collected.items middle r g.collecting.items g.has_ended d

-- The items of an answer.
abbrev pub answered : {X : Type 0} → Result (Vec X) (Uncollected X) → List X
answered (Ok all) = all.items
answered (Err some) = some.items.items ++ some.refused ∷ []

-- The items of the answer are those that were there before, and items that may come.
pub record CollectGives {S X : Type 0} (gives : S → List X → Type 0) (f : Collect S X) (answer : Result (Vec X) (Uncollected X)) : Type 0 where
  pub items : List X
  pub may : MayCome gives f.stream items
  pub are : answered answer ≡ f.collecting.items.items ++ items
