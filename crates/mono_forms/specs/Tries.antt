-- One future after another, if the first succeeds: the answer and the form after one poll, and the answers in the end.
use Rattle.std.specs.Prelude.{⊤, ◌≡◌, Bool, true, Result, Ok, Err}
use Rattle.mono_model.specs.declared.poll.Poll.{Poll}
use Rattle.mono_model.specs.declared.poll.Poll.TheVariants.{Ready, Pending}
use Rattle.mono_task.specs.Members.{FutureOf}
use Rattle.mono_forms.specs.Parts.{MayPoll}
use Rattle.mono_forms.specs.declared.tries.TryFlatten.{TryFlatten}
use Rattle.mono_forms.specs.declared.tries.TryFlatten.TheVariants.{First, Second, Over}

module _ {A B : Type 0} where
  abbrev pub try_spent : (A → Bool) → (B → Bool) → TryFlatten A B → Bool
  try_spent a b (First f) = a f
  try_spent a b (Second g) = b g
  try_spent a b Over = true

  -- Whether the running future is given up.
  abbrev pub TryCancels : {C : Type 0} → (A → C → C → Type 0) → (B → C → C → Type 0) → TryFlatten A B → C → C → Type 0
  TryCancels a b (First f) c d = a f c d
  TryCancels a b (Second g) c d = b g c d
  TryCancels a b Over c d = d ≡ c

module _ {A B C Y : Type 0} (second : FutureOf B C Y) where
  abbrev pub NextMayPoll : TryFlatten A B → Type 0
  NextMayPoll (First f) = ⊥
  NextMayPoll (Second g) = MayPoll second g
  NextMayPoll Over = ⊥

  -- The second was polled, and is given up if it answered.
  abbrev pub AfterNext : Poll Y → B → C → Poll Y → TryFlatten A B → C → Type 0
  AfterNext (Ready y) left c r n d = (r ≡ Ready y) × second.cancels left c d × (n ≡ Over)
  AfterNext Pending left c r n d = (r ≡ Pending) × (n ≡ Second left) × (d ≡ c)

  pub record PollsNext (g : B) (c : C) (r : Poll Y) (n : TryFlatten A B) (d : C) : Type 0 where
    pub answer : Poll Y
    pub left : B
    pub middle : C
    pub polled : second.polls g c answer left middle
    pub rest : AfterNext answer left middle r n d

  abbrev pub NextPolls : TryFlatten A B → C → Poll Y → TryFlatten A B → C → Type 0
  NextPolls (First f) c r n d = ⊥
  NextPolls (Second g) c r n d = PollsNext g c r n d
  NextPolls Over c r n d = ⊥

module _ {A B C X Y : Type 0} (first : FutureOf A C X) (second : FutureOf B C Y) where
  -- The first answered this future: it is given up, and the second is polled.
  pub record GoesOn (b : B) (left : A) (c : C) (r : Poll Y) (n : TryFlatten A B) (d : C) : Type 0 where
    pub middle : C
    pub cancelled : first.cancels left c middle
    pub second_polled : PollsNext second b middle r n d

module _ {A B C U E : Type 0} (first : FutureOf A C (Result B E)) (second : FutureOf B C (Result U E)) where
  abbrev pub OkMayPoll : Result B E → Type 0
  OkMayPoll (Ok b) = MayPoll second b
  OkMayPoll (Err e) = ⊤

  -- Whether the running future may be polled, and so may each second future that the first may answer.
  abbrev pub TryCanPoll : TryFlatten A B → Type 0
  TryCanPoll (First f) = first.can_poll f × ((x : Result B E) → first.gives f x → OkMayPoll x)
  TryCanPoll (Second g) = second.can_poll g
  TryCanPoll Over = ⊤

  -- An error is the answer, and the first is given up.
  abbrev pub AfterTried : Poll (Result B E) → A → C → Poll (Result U E) → TryFlatten A B → C → Type 0
  AfterTried (Ready (Ok b)) left c r n d = GoesOn first second b left c r n d
  AfterTried (Ready (Err e)) left c r n d = (r ≡ Ready (Err e)) × first.cancels left c d × (n ≡ Over)
  AfterTried Pending left c r n d = (r ≡ Pending) × (n ≡ First left) × (d ≡ c)

  pub record PollsTried (f : A) (c : C) (r : Poll (Result U E)) (n : TryFlatten A B) (d : C) : Type 0 where
    pub answer : Poll (Result B E)
    pub left : A
    pub middle : C
    pub polled : first.polls f c answer left middle
    pub rest : AfterTried answer left middle r n d

  abbrev pub TryPolls : TryFlatten A B → C → Poll (Result U E) → TryFlatten A B → C → Type 0
  TryPolls (First f) c r n d = PollsTried f c r n d
  TryPolls (Second g) c r n d = PollsNext second g c r n d
  TryPolls Over c r n d = ⊥

-- An error is the answer; a future leads to an output that it may give.
abbrev pub LeadsOn : {B U E : Type 0} → (B → Result U E → Type 0) → Result B E → Result U E → Type 0
LeadsOn second (Ok b) y = second b y
LeadsOn second (Err e) y = y ≡ Err e

abbrev pub TryGives : {A B U E : Type 0} → (A → Result B E → Type 0) → (B → Result U E → Type 0) → TryFlatten A B → Result U E → Type 0
TryGives {A} {B} {U} {E} first second (First f) y = (x : Result B E) × first f x × LeadsOn second x y
TryGives first second (Second g) y = second g y
TryGives first second Over y = ⊥
