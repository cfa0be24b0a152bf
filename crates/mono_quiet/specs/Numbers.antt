-- Contexts between which no task was made: the next task's number is the same.
use Rattle.std.specs.Prelude.{⊤, ◌≡◌}
use Rattle.std.proofs.Common.{ap, ◌∙◌}
use Rattle.mono_model.specs.Table.{next_number}
use Rattle.mono_model.specs.Tasks.{Tasks}
use Rattle.mono_model.specs.declared.poll.Poll.{Poll}
use Rattle.mono_task.specs.Members.{FutureOf}

module _ {C : Type 0} (work : C → Tasks ⊤) where
  abbrev pub MakesNone : C → C → Type 0
  MakesNone c d = next_number (work d).table ≡ next_number (work c).table

  pub same_number : (c d : C) → next_number (work d).table ≡ next_number (work c).table → MakesNone c d
  same_number c d is = is

  -- no call was made
  pub none_at_all : (c d : C) → d ≡ c → MakesNone c d
  none_at_all c d is = same_number c d (ap (λ x. next_number (work x).table) is)

  -- the calls left the tasks as they were
  pub same_tasks : (c d : C) → work d ≡ work c → MakesNone c d
  same_tasks c d is = same_number c d (ap (λ w. next_number w.table) is)

  pub none_on : (a b c : C) → MakesNone a b → MakesNone b c → MakesNone a c
  none_on a b c p q = q ∙ p

  module _ {A X : Type 0} (future : FutureOf A C X) where
    -- A part of a form makes none in its polls.
    abbrev pub PollsMakeNone : Type 0
    PollsMakeNone = (f : A) (c : C) (r : Poll X) (g : A) (d : C) → future.polls f c r g d → MakesNone c d

    abbrev pub CancelsMakeNone : Type 0
    CancelsMakeNone = (f : A) (c d : C) → future.cancels f c d → MakesNone c d
