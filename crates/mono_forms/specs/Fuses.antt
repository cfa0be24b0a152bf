-- A future that may be polled after its answer.
use Rattle.std.specs.Prelude.{⊤, ◌≡◌, Bool, false, Option, Some, None}
use Rattle.mono_model.specs.declared.poll.Poll.{Poll}
use Rattle.mono_model.specs.declared.poll.Poll.TheVariants.{Ready, Pending}
use Rattle.mono_task.specs.Members.{FutureOf}

module _ {A : Type 0} where
  -- Whether the inner future is spent; the form may be polled after its answer.
  abbrev pub fuse_spent : (A → Bool) → Option A → Bool
  fuse_spent is_spent (Some a) = is_spent a
  fuse_spent is_spent None = false

  abbrev pub FuseCanPoll : (A → Type 0) → Option A → Type 0
  FuseCanPoll can_poll (Some a) = can_poll a
  FuseCanPoll can_poll None = ⊤

  abbrev pub FuseGives : {X : Type 0} → (A → X → Type 0) → Option A → X → Type 0
  FuseGives gives (Some a) x = gives a x
  FuseGives gives None x = ⊥

  abbrev pub FuseCancels : {C : Type 0} → (A → C → C → Type 0) → Option A → C → C → Type 0
  FuseCancels cancels (Some a) c d = cancels a c d
  FuseCancels cancels None c d = d ≡ c

module _ {A C X : Type 0} (future : FutureOf A C X) where
  -- The future was polled, and is given up if it answered.
  abbrev pub AfterFused : Poll X → A → C → Poll X → Option A → C → Type 0
  AfterFused (Ready x) left c r n d = (r ≡ Ready x) × (n ≡ None) × future.cancels left c d
  AfterFused Pending left c r n d = (r ≡ Pending) × (n ≡ Some left) × (d ≡ c)

  pub record PollsFused (a : A) (c : C) (r : Poll X) (n : Option A) (d : C) : Type 0 where
    pub answer : Poll X
    pub left : A
    pub middle : C
    pub polled : future.polls a c answer left middle
    pub rest : AfterFused answer left middle r n d

  -- After its answer it waits forever.
  abbrev pub FusePolls : Option A → C → Poll X → Option A → C → Type 0
  FusePolls (Some a) c r n d = PollsFused a c r n d
  FusePolls None c r n d = (r ≡ Pending) × (n ≡ None) × (d ≡ c)
