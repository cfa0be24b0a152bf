-- A future that runs as a member of a set: one poll, and a cancel.
use Rattle.std.specs.Prelude.{⊤, Bool, true, ◌≡◌, ℕ, Option, Some, None, Result, Err}
use Rattle.mono_model.specs.Tasks.{Tasks}
use Rattle.mono_model.specs.declared.poll.Poll.{Poll}
use Rattle.mono_model.specs.declared.poll.Poll.TheVariants.{Ready, Pending}
use Rattle.mono_task.specs.Members.{FutureOf}
use Rattle.mono_groups.specs.declared.join_set.JoinSet.{JoinSet}
use Rattle.mono_groups.specs.declared.until.Aborted.{Aborted}
use Rattle.mono_groups.specs.declared.until.Aborted.TheVariants.{Cancelled}
use Rattle.mono_groups.specs.JoinSets.{Finishes}

module _ {F : Type 0} where
  abbrev pub gathered_spent : (F → Bool) → Option F → Bool
  gathered_spent is_spent (Some f) = is_spent f
  gathered_spent is_spent None = true

  abbrev pub GatheredCanPoll : (F → Type 0) → Option F → Type 0
  GatheredCanPoll can_poll (Some f) = can_poll f
  GatheredCanPoll can_poll None = ⊤

module _ {T C : Type 0} (set : C → JoinSet T) (work : C → Tasks ⊤) where
  -- The member ends in the set, and no task is woken.
  abbrev pub EndsIn : ℕ → Result T Aborted → C → C → Type 0
  EndsIn key x c d = Finishes (set c) key x (set d) × (work d ≡ work c)

  module _ {F : Type 0} (future : FutureOf F C (Result T Aborted)) where
    -- The future has answered: it is given up, and the member ends with its answer.
    pub record GathersEnd (x : Result T Aborted) (f : F) (key : ℕ) (c d : C) : Type 0 where
      pub middle : C
      pub cancelled : future.cancels f c middle
      pub ended : EndsIn key x middle d

    -- The form after the future was polled.
    abbrev pub AfterInner : Poll (Result T Aborted) → F → ℕ → C → Poll ⊤ → Option F → C → Type 0
    AfterInner (Ready x) f key c r left d = GathersEnd x f key c d × (left ≡ None) × (r ≡ Ready tt)
    AfterInner Pending f key c r left d = (r ≡ Pending) × (left ≡ Some f) × (d ≡ c)

    pub record PollsInner (f : F) (key : ℕ) (c : C) (r : Poll ⊤) (left : Option F) (d : C) : Type 0 where
      pub answer : Poll (Result T Aborted)
      pub rest : F
      pub middle : C
      pub polled : future.polls f c answer rest middle
      pub after : AfterInner answer rest key middle r left d

    -- The future is polled. Once it has answered, the member ends with its answer.
    abbrev pub GatheredPolls : Option F → ℕ → C → Poll ⊤ → Option F → C → Type 0
    GatheredPolls (Some f) key c r left d = PollsInner f key c r left d
    GatheredPolls None key c r left d = ⊥

    -- The future is given up, and the member ends with that, unless it has ended before.
    abbrev pub GatheredCancels : Option F → ℕ → C → C → Type 0
    GatheredCancels (Some f) key c d = GathersEnd (Err Cancelled) f key c d
    GatheredCancels None key c d = d ≡ c
