-- A future again and again: the answer and the form after one poll, and the answers in the end.
use Rattle.std.specs.Prelude.{⊤, ◌≡◌, ◌⊎◌, ℕ, zero, suc, Bool, true, false, List, Option, Some, None, Result}
use Rattle.std.specs.Fn.{Mut, Called}
use Rattle.mono_model.specs.Tasks.{Tasks}
use Rattle.mono_model.specs.declared.Woke.{Woke}
use Rattle.mono_model.specs.declared.task_error.TaskError.{TaskError}
use Rattle.mono_model.specs.declared.poll.Poll.{Poll}
use Rattle.mono_model.specs.declared.poll.Poll.TheVariants.{Ready, Pending}
use Rattle.mono_task.specs.Members.{FutureOf}
use Rattle.mono_forms.specs.Parts.{MayPoll}
use Rattle.mono_forms.specs.Yields.{WakesItself}
use Rattle.mono_forms.specs.Loops.{StepsWell, StepsTo}
use Rattle.mono_forms.specs.declared.repeats.Loop.{Loop}
use Rattle.mono_forms.specs.declared.repeats.Loop.TheVariants.{Break, Continue}
use Rattle.mono_forms.specs.declared.repeats.Repeat.{Repeat}

-- The greatest number of turns in one poll.
abbrev pub budget : ℕ
budget = 128

abbrev pub repeat_spent : {A : Type 0} → (A → Bool) → Option A → Bool
repeat_spent is_spent (Some a) = is_spent a
repeat_spent is_spent None = true

abbrev pub RepeatCancels : {A C : Type 0} → (A → C → C → Type 0) → Option A → C → C → Type 0
RepeatCancels cancels (Some a) c d = cancels a c d
RepeatCancels cancels None c d = d ≡ c

module _ {A F S T : Type 0} (gives : A → Loop T S → Type 0) (call : Mut F (S × Unit {0}) A) where
  -- The future ends the loop with this value, or a later one does.
  abbrev pub LoopGives : A → F → T → Type 0
  LoopGives a f x = gives a (Break x)
      ⊎ ((s : S) × (turns : List (Unit {0})) × gives a (Continue s) × StepsTo call gives (f, s) turns (λ b. gives b (Break x)))

  abbrev pub GivesFrom : Option A → F → T → Type 0
  GivesFrom (Some a) f x = LoopGives a f x
  GivesFrom None f x = ⊥

  abbrev pub RepeatGives : Repeat A F → T → Type 0
  RepeatGives m x = GivesFrom m.future m.func x

module _ {A C F S T : Type 0} (future : FutureOf A C (Loop T S)) (call : Mut F (S × Unit {0}) A) where
  -- The future may be polled, and each future after it may be made and polled.
  abbrev pub CanLoop : A → F → Type 0
  CanLoop a f = future.can_poll a × ((s : S) → future.gives a (Continue s) → StepsWell call future.gives (MayPoll future) (f, s))

  abbrev pub CanLoopFrom : Option A → F → Type 0
  CanLoopFrom (Some a) f = CanLoop a f
  CanLoopFrom None f = ⊤

  abbrev pub RepeatCanPoll : Repeat A F → Type 0
  RepeatCanPoll m = CanLoopFrom m.future m.func

  -- The future was polled. If it asks for one more turn, the closure makes the next future, and this one is given up.
  abbrev pub AfterTurn : Poll (Loop T S) → A → F → C → Option (Poll T) → Repeat A F → C → Type 0
  AfterTurn (Ready (Continue s)) left f c o n d =
      (o ≡ None) × ((next : A) × Called call f (s, tt) next n.func × (n.future ≡ Some next)) × future.cancels left c d
  AfterTurn (Ready (Break x)) left f c o n d = (o ≡ Some (Ready x)) × (n.future ≡ None) × (n.func ≡ f) × future.cancels left c d
  AfterTurn Pending left f c o n d = (o ≡ Some Pending) × (n.future ≡ Some left) × (n.func ≡ f) × (d ≡ c)

  pub record TurnsFrom (a : A) (f : F) (c : C) (o : Option (Poll T)) (n : Repeat A F) (d : C) : Type 0 where
    pub answer : Poll (Loop T S)
    pub left : A
    pub middle : C
    pub polled : future.polls a c answer left middle
    pub rest : AfterTurn answer left f middle o n d

  abbrev pub TurnsOf : Option A → F → C → Option (Poll T) → Repeat A F → C → Type 0
  TurnsOf (Some a) f c o n d = TurnsFrom a f c o n d
  TurnsOf None f c o n d = ⊥

  -- One turn.
  abbrev pub Turns : Repeat A F → C → Option (Poll T) → Repeat A F → C → Type 0
  Turns m c o n d = TurnsOf m.future m.func c o n d

  -- The form after a turn gives no more than before; it may be polled again if the loop continues.
  abbrev pub Narrows : Repeat A F → Repeat A F → Type 0
  Narrows m n = (x : T) → RepeatGives future.gives call n x → RepeatGives future.gives call m x

  pub record GoesOn (m n : Repeat A F) : Type 0 where
    pub unspent : repeat_spent future.is_spent n.future ≡ false
    pub callable : RepeatCanPoll n
    pub narrows : Narrows m n

  abbrev pub Leaves : Option (Poll T) → Repeat A F → Repeat A F → Type 0
  Leaves None m n = GoesOn m n
  Leaves (Some Pending) m n = GoesOn m n
  Leaves (Some (Ready x)) m n = RepeatCanPoll n × RepeatGives future.gives call m x

module _ {A C F S T : Type 0} (future : FutureOf A C (Loop T S)) (call : Mut F (S × Unit {0}) A) (number : C → ℕ) (work : C → Tasks ⊤) (wakes : C → ℕ → Result Woke TaskError → C → Type 0) (reaches : C → C → Type 0) where
  -- A turn gave the poll's answer, or the poll continues.
  abbrev pub Onward : Option (Poll T) → Type 0 → Repeat A F → C → Poll T → Repeat A F → C → Type 0
  Onward None More t m p n d = More
  Onward (Some answer) More t m p n d = (p ≡ answer) × (n ≡ t) × (d ≡ m)

  -- Turns until one gives the answer, at most the given number; after them the task is woken.
  abbrev pub Takes : ℕ → Repeat A F → C → Poll T → Repeat A F → C → Type 0
  Takes zero s c p n d = (p ≡ Pending) × (n ≡ s) × WakesItself number work wakes reaches c d
  Takes (suc k) s c p n d = (o : Option (Poll T)) × (t : Repeat A F) × (m : C) × Turns future call s c o t m × Onward o (Takes k t m p n d) t m p n d

  pub record RepeatPolls (s : Repeat A F) (c : C) (p : Poll T) (n : Repeat A F) (d : C) : Type 0 where
    pub most : ℕ
    pub is_budget : most ≡ budget
    pub takes : Takes most s c p n d
