-- A loop's turns: the loop after a turn continues, and gives no more than before.
use Rattle.std.proofs.Common.{◌≡◌, ℕ, zero, suc, ◌<◌, ◌-◌, List, [], ◌∷◌, Option, Some, refl, inl, inr, arith, false}
use Rattle.std.specs.Prelude.{⊤, Result}
use Rattle.std.specs.Fn.{Mut, Called}
use Rattle.mono_model.specs.Tasks.{Tasks}
use Rattle.mono_model.specs.declared.Woke.{Woke}
use Rattle.mono_model.specs.declared.task_error.TaskError.{TaskError}
use Rattle.mono_model.specs.declared.poll.Poll.{Poll}
use Rattle.mono_model.specs.declared.poll.Poll.TheVariants.{Pending}
use Rattle.mono_task.specs.Members.{FutureOf}
use Rattle.mono_forms.specs.Parts.{MayPoll}
use Rattle.mono_forms.specs.Loops.{CanStep, StepsWell, StepsTo}
use Rattle.mono_forms.specs.Repeats.{LoopGives, CanLoop, GoesOn, Turns, Onward, Takes}
use Rattle.mono_forms.specs.Yields.{WakesItself}
use Rattle.mono_forms.specs.declared.repeats.Loop.{Loop}
use Rattle.mono_forms.specs.declared.repeats.Loop.TheVariants.{Break, Continue}
use Rattle.mono_forms.specs.declared.repeats.Repeat.{Repeat}

module _ {F S T A : Type 0} (g : Mut F (S × Unit {0}) A) (gives : A → Loop T S → Type 0) (f : F) (s : S) where
  pub well_here : (may_poll : A → Type 0) → StepsWell g gives may_poll (f, s) → CanStep g may_poll (f, s)
  well_here may_poll h = h.at [] (f, s) refl

  module _ (b : A) (f' : F) (called : Called g f (s, tt) b f') where
    pub well_on : (may_poll : A → Type 0) (s' : S) → StepsWell g gives may_poll (f, s) → gives b (Continue s') → StepsWell g gives may_poll (f', s')
    well_on may_poll s' h step = record { at = λ xs q stepped. h.at (tt ∷ xs) q ((f', s'), (b, called, step), stepped) }

    pub to_here : (P : A → Type 0) → P b → StepsTo g gives (f, s) [] P
    to_here P p = record { state = (f, s); stepped = refl; future = b; called = (f', called); holds = p }

    pub to_on : (P : A → Type 0) (s' : S) (xs : List (Unit {0})) → gives b (Continue s') → StepsTo g gives (f', s') xs P → StepsTo g gives (f, s) (tt ∷ xs) P
    to_on P s' xs step h =
        record { state = h.state; stepped = ((f', s'), (b, called, step), h.stepped); future = h.future; called = h.called; holds = h.holds }

    -- This future and those after it give each output of the next future and those after it.
    pub next_gives : (a : A) (x : T) → gives a (Continue s) → LoopGives gives g b f' x → LoopGives gives g a f x
    next_gives a x given h = inr (elim h [
      | inl k ↦ (s, [], given, to_here (λ b. gives b (Break x)) k)
      | inr k ↦ (s, tt ∷ k.1, given, to_on (λ b. gives b (Break x)) k.0 k.1 k.2 k.3)
    ])

-- a future that was polled gives no more than before
pub waited_gives : {F S T A : Type 0} (g : Mut F (S × Unit {0}) A) (gives : A → Loop T S → Type 0) (f : F) (a b : A) (x : T)
    → ((y : Loop T S) → gives b y → gives a y) → LoopGives gives g b f x → LoopGives gives g a f x
waited_gives g gives f a b x same h = elim h [
  | inl k ↦ inl (same _ k)
  | inr k ↦ inr (k.0, k.1, same _ k.2, k.3)
]

module _ {A C F S T : Type 0} (future : FutureOf A C (Loop T S)) (call : Mut F (S × Unit {0}) A) (m n : Repeat A F) (a : A) (is : m.future ≡ Some a) (can : CanLoop future call a m.func) where
  -- The next future takes this one's place.
  pub next_goes_on : (s : S) (b : A) (f' : F) → future.gives a (Continue s) → Called call m.func (s, tt) b f' → n.future ≡ Some b → n.func ≡ f' → GoesOn future call m n
  next_goes_on s b f' given called left func =
      let well = can.1 s given in
      let may = (well_here call future.gives m.func s (MayPoll future) well).1 b f' called in record {
        unspent = rw left may.0;
        callable = rw left (rw func (may.1, λ s' h. well_on call future.gives m.func s b f' called (MayPoll future) s' well h));
        narrows = λ x h. rw is (next_gives call future.gives m.func s b f' called a x given (rw left at (rw func at h)));
      }

  -- this one waits
  pub waits_on : (b : A) → future.is_spent b ≡ false → future.can_poll b → ((y : Loop T S) → future.gives b y → future.gives a y) → n.future ≡ Some b → n.func ≡ m.func → GoesOn future call m n
  waits_on b unspent callable same left func = record {
    unspent = rw left unspent;
    callable = rw left (rw func (callable, λ s h. can.1 s (same _ h)));
    narrows = λ x h. rw is (waited_gives call future.gives m.func a b x same (rw left at (rw func at h)));
  }

module _ {A C F S T : Type 0} (future : FutureOf A C (Loop T S)) (call : Mut F (S × Unit {0}) A) (number : C → ℕ) (work : C → Tasks ⊤) (wakes : C → ℕ → Result Woke TaskError → C → Type 0) (reaches : C → C → Type 0) where
  -- one turn and those that are left after it
  pub takes_more : (n : ℕ) → 0 < n → (s : Repeat A F) (c : C) (o : Option (Poll T)) (t : Repeat A F) (m : C) (p : Poll T) (u : Repeat A F) (d : C) → Turns future call s c o t m
      → Onward future call number work wakes reaches o (Takes future call number work wakes reaches (n - 1) t m p u d) t m p u d → Takes future call number work wakes reaches n s c p u d
  takes_more zero some s c o t m p u d turned onward = absurd (omega (arith, some))
  takes_more (suc k) some s c o t m p u d turned onward =
      let e : suc k - 1 ≡ k = omega arith in (o, t, m, turned, rw e at onward)

  -- none is left, and the task is woken
  pub takes_none : (n : ℕ) → n ≡ 0 → (s : Repeat A F) (c d : C) → WakesItself number work wakes reaches c d → Takes future call number work wakes reaches n s c Pending s d
  takes_none n none s c d woken = rw none (refl, refl, woken)
