-- The sources of a future again and again.
use Rattle.std.specs.Prelude.{◌≡◌, ℕ, zero, suc, Option, Some, None, Result}
use Rattle.std.specs.Fn.{Mut}
use Rattle.std.proofs.Common.{sym, subst}
use Rattle.mono_model.specs.declared.Woke.{Woke}
use Rattle.mono_model.specs.declared.task_error.TaskError.{TaskError}
use Rattle.mono_model.specs.declared.poll.Poll.{Poll}
use Rattle.mono_model.specs.declared.poll.Poll.TheVariants.{Ready, Pending}
use Rattle.mono_task.specs.Members.{FutureOf}
use Rattle.mono_forms.specs.Repeats.{RepeatCancels, AfterTurn, TurnsOf, Turns, Onward, Takes, RepeatPolls}
use Rattle.mono_forms.specs.declared.repeats.Loop.{Loop}
use Rattle.mono_forms.specs.declared.repeats.Loop.TheVariants.{Break, Continue}
use Rattle.mono_forms.specs.declared.repeats.Repeat.{Repeat}
use Rattle.mono_wait.specs.Sources.{Source}
use Rattle.mono_wait.specs.Frames.{Frame, Part, Needs, CoversIn, same_reached, covers_after}
use Rattle.mono_wait.specs.Yields.{wake_covers}

-- those of the running future
abbrev pub PartNeeds : {A : Type 0} → Needs A → Option A → Source → Type 0
PartNeeds needs (Some a) x = needs a x
PartNeeds needs None x = ⊥

abbrev pub RepeatNeeds : {A F : Type 0} → Needs A → Repeat A F → Source → Type 0
RepeatNeeds needs m x = PartNeeds needs m.future x

no_turn : {Z : Type 0} (z : Z) → Some z ≡ None → ⊥
no_turn z e = cc

no_end : {Z : Type 0} (z : Z) → Some Pending ≡ Some (Ready z) → ⊥
no_end z e = cc

module _ {A C X : Type 0} (w : Frame C) (future : FutureOf A C X) (part : Part w future) where
  pub repeat_left : (m : Option A) (c d : C) → RepeatCancels future.cancels m c d → w.reaches c d
  repeat_left (Some a) c d q = part.left a c d q
  repeat_left None c d q = same_reached w c d q

module _ {A C F S T : Type 0} (w : Frame C) (future : FutureOf A C (Loop T S)) (part : Part w future) where
  module _ (call : Mut F (S × Unit {0}) A) where
    after_turn : (answer : Poll (Loop T S)) (left : A) (f : F) (c : C) (o : Option (Poll T)) (n : Repeat A F) (d : C) → AfterTurn future call answer left f c o n d → w.reaches c d
    after_turn (Ready (Continue s)) left f c o n d q = part.left left c d q.2
    after_turn (Ready (Break x)) left f c o n d q = part.left left c d q.3
    after_turn Pending left f c o n d q = same_reached w c d q.3

    turns_reached : (v : Option A) (f : F) (c : C) (o : Option (Poll T)) (n : Repeat A F) (d : C) → TurnsOf future call v f c o n d → w.reaches c d
    turns_reached (Some a) f c o n d q = w.on c q.middle d (part.reach a c q.answer q.left q.middle q.polled) (after_turn q.answer q.left f q.middle o n d q.rest)
    turns_reached None f c o n d q = absurd q

    abbrev Covered : C → C → Repeat A F → Type 0
    Covered c d n = CoversIn w c d (RepeatNeeds part.needs n)

    turn_waits : (a : A) (f : F) (c : C) (answer : Poll (Loop T S)) (left : A) (m : C) (n : Repeat A F) (d : C) → future.polls a c answer left m → AfterTurn future call answer left f m (Some Pending) n d → Covered c d n
    turn_waits a f c (Ready (Continue s)) left m n d polled rest = absurd (no_turn Pending rest.0)
    turn_waits a f c (Ready (Break x)) left m n d polled rest = absurd (no_end x rest.0)
    turn_waits a f c Pending left m n d polled rest =
        subst (λ v. CoversIn w c d (PartNeeds part.needs v)) (sym rest.1) (subst (λ e. CoversIn w c e (part.needs left)) (sym rest.3) (part.covers a c left m polled))

    turns_wait : (v : Option A) (f : F) (c : C) (n : Repeat A F) (d : C) → TurnsOf future call v f c (Some Pending) n d → Covered c d n
    turns_wait (Some a) f c n d q = turn_waits a f c q.answer q.left q.middle n d q.polled q.rest
    turns_wait None f c n d q = absurd q

    module _ (wakes : C → ℕ → Result Woke TaskError → C → Type 0) (same_number : (a b : C) → w.reaches a b → w.number b ≡ w.number a) where
      abbrev OnwardFrom : Option (Poll T) → Type 0 → Repeat A F → C → Poll T → Repeat A F → C → Type 0
      OnwardFrom = Onward future call w.number w.work wakes w.reaches

      abbrev TakesFrom : ℕ → Repeat A F → C → Poll T → Repeat A F → C → Type 0
      TakesFrom = Takes future call w.number w.work wakes w.reaches

      onward_reached : (o : Option (Poll T)) (More : Type 0) (t : Repeat A F) (m : C) (p : Poll T) (n : Repeat A F) (d : C) → (More → w.reaches m d) → OnwardFrom o More t m p n d → w.reaches m d
      onward_reached None More t m p n d more q = more q
      onward_reached (Some answer) More t m p n d more q = same_reached w m d q.2

      takes_reached : (k : ℕ) (s : Repeat A F) (c : C) (p : Poll T) (n : Repeat A F) (d : C) → TakesFrom k s c p n d → w.reaches c d
      takes_reached zero s c p n d q = q.2.reached
      takes_reached (suc k) s c p n d (o, t, m, turn, rest) = w.on c m d (turns_reached s.future s.func c o t m turn) (onward_reached o (TakesFrom k t m p n d) t m p n d (takes_reached k t m p n d) rest)

      pub repeat_reached : (s : Repeat A F) (c : C) (p : Poll T) (n : Repeat A F) (d : C) → RepeatPolls future call w.number w.work wakes w.reaches s c p n d → w.reaches c d
      repeat_reached s c p n d q = takes_reached q.most s c p n d q.takes

      onward_waits : (o : Option (Poll T)) (More : Type 0) (s : Repeat A F) (c : C) (t : Repeat A F) (m : C) (n : Repeat A F) (d : C) → (More → Covered m d n) → Turns future call s c o t m → OnwardFrom o More t m Pending n d → Covered c d n
      onward_waits None More s c t m n d more turn q = covers_after w c m d (RepeatNeeds part.needs n) (turns_reached s.future s.func c None t m turn) (more q)
      onward_waits (Some answer) More s c t m n d more turn q =
          subst (Covered c d) (sym q.1) (subst (λ e. Covered c e t) (sym q.2) (turns_wait s.future s.func c t m (subst (λ a. Turns future call s c (Some a) t m) (sym q.0) turn)))

      takes_cover : (k : ℕ) (s : Repeat A F) (c : C) (n : Repeat A F) (d : C) → TakesFrom k s c Pending n d → Covered c d n
      takes_cover zero s c n d q = wake_covers w wakes same_number c d (RepeatNeeds part.needs n) q.2
      takes_cover (suc k) s c n d (o, t, m, turn, rest) = onward_waits o (TakesFrom k t m Pending n d) s c t m n d (takes_cover k t m n d) turn rest

      pub repeats_cover : (s : Repeat A F) (c : C) (n : Repeat A F) (d : C) → RepeatPolls future call w.number w.work wakes w.reaches s c Pending n d → Covered c d n
      repeats_cover s c n d q = takes_cover q.most s c n d q.takes
