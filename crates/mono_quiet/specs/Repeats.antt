-- A loop makes no task, if none of its futures does.
use Rattle.std.specs.Prelude.{⊤, ℕ, zero, suc, Option, Some, None, Result}
use Rattle.std.specs.Fn.{Mut}
use Rattle.mono_model.specs.Tasks.{Tasks}
use Rattle.mono_model.specs.declared.Woke.{Woke}
use Rattle.mono_model.specs.declared.task_error.TaskError.{TaskError}
use Rattle.mono_model.specs.declared.poll.Poll.{Poll}
use Rattle.mono_model.specs.declared.poll.Poll.TheVariants.{Ready, Pending}
use Rattle.mono_task.specs.Members.{FutureOf}
use Rattle.mono_forms.specs.Repeats.{RepeatCancels, AfterTurn, TurnsOf, Onward, Takes, RepeatPolls}
use Rattle.mono_forms.specs.declared.repeats.Loop.{Loop}
use Rattle.mono_forms.specs.declared.repeats.Loop.TheVariants.{Break, Continue}
use Rattle.mono_forms.specs.declared.repeats.Repeat.{Repeat}
use Rattle.mono_quiet.specs.Numbers.{MakesNone, none_at_all, none_on, PollsMakeNone, CancelsMakeNone}
use Rattle.mono_quiet.specs.Wakes.{wake_makes_none}

module _ {A C X : Type 0} (work : C → Tasks ⊤) (future : FutureOf A C X) where
  pub repeat_left : CancelsMakeNone work future → (m : Option A) (c d : C) → RepeatCancels future.cancels m c d → MakesNone work c d
  repeat_left cancels (Some a) c d q = cancels a c d q
  repeat_left cancels None c d q = none_at_all work c d q

module _ {A C F S T : Type 0} (work : C → Tasks ⊤) (future : FutureOf A C (Loop T S)) (polls : PollsMakeNone work future) (cancels : CancelsMakeNone work future) (call : Mut F (S × Unit {0}) A) where
  after_turn : (answer : Poll (Loop T S)) (left : A) (f : F) (c : C) (o : Option (Poll T)) (n : Repeat A F) (d : C) → AfterTurn future call answer left f c o n d → MakesNone work c d
  after_turn (Ready (Continue s)) left f c o n d q = cancels left c d q.2
  after_turn (Ready (Break x)) left f c o n d q = cancels left c d q.3
  after_turn Pending left f c o n d q = none_at_all work c d q.3

  turn_none : (m : Option A) (f : F) (c : C) (o : Option (Poll T)) (n : Repeat A F) (d : C) → TurnsOf future call m f c o n d → MakesNone work c d
  turn_none (Some a) f c o n d q = none_on work c q.middle d (polls a c q.answer q.left q.middle q.polled) (after_turn q.answer q.left f q.middle o n d q.rest)
  turn_none None f c o n d q = absurd q

  module _ (number : C → ℕ) (wakes : C → ℕ → Result Woke TaskError → C → Type 0) (reaches : C → C → Type 0) where
    -- the poll ends with the turn's answer, or more turns make none
    onward : (o : Option (Poll T)) (More : Type 0) (t : Repeat A F) (m : C) (p : Poll T) (n : Repeat A F) (d : C) → (More → MakesNone work m d) → Onward future call number work wakes reaches o More t m p n d → MakesNone work m d
    onward None More t m p n d more q = more q
    onward (Some answer) More t m p n d more q = none_at_all work m d q.2

    takes_none : (k : ℕ) (s : Repeat A F) (c : C) (p : Poll T) (n : Repeat A F) (d : C) → Takes future call number work wakes reaches k s c p n d → MakesNone work c d
    takes_none zero s c p n d q = wake_makes_none work (number c) c d q.2.work_after
    takes_none (suc k) s c p n d q = none_on work c q.2 d (turn_none s.future s.func c q.0 q.1 q.2 q.3) (onward q.0 (Takes future call number work wakes reaches k q.1 q.2 p n d) q.1 q.2 p n d (takes_none k q.1 q.2 p n d) q.4)

    pub repeat_makes_none : (s : Repeat A F) (c : C) (p : Poll T) (n : Repeat A F) (d : C) → RepeatPolls future call number work wakes reaches s c p n d → MakesNone work c d
    repeat_makes_none s c p n d q = takes_none q.most s c p n d q.takes
