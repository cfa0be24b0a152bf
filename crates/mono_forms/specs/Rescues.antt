-- One future after another, if the first fails: the answer and the form after one poll, and the answers in the end.
use Rattle.std.specs.Prelude.{⊤, ◌≡◌, Bool, true, Result, Ok, Err}
use Rattle.mono_model.specs.declared.poll.Poll.{Poll}
use Rattle.mono_model.specs.declared.poll.Poll.TheVariants.{Ready, Pending}
use Rattle.mono_task.specs.Members.{FutureOf}
use Rattle.mono_forms.specs.Parts.{MayPoll}
use Rattle.mono_forms.specs.declared.rescues.TryFlattenErr.{TryFlattenErr}
use Rattle.mono_forms.specs.declared.rescues.TryFlattenErr.TheVariants.{First, Second, Over}

module _ {A B : Type 0} where
  abbrev pub rescue_spent : (A → Bool) → (B → Bool) → TryFlattenErr A B → Bool
  rescue_spent a b (First f) = a f
  rescue_spent a b (Second g) = b g
  rescue_spent a b Over = true

  -- Whether the running future is given up.
  abbrev pub RescueCancels : {C : Type 0} → (A → C → C → Type 0) → (B → C → C → Type 0) → TryFlattenErr A B → C → C → Type 0
  RescueCancels a b (First f) c d = a f c d
  RescueCancels a b (Second g) c d = b g c d
  RescueCancels a b Over c d = d ≡ c

module _ {A B C Y : Type 0} (second : FutureOf B C Y) where
  abbrev pub OtherMayPoll : TryFlattenErr A B → Type 0
  OtherMayPoll (First f) = ⊥
  OtherMayPoll (Second g) = MayPoll second g
  OtherMayPoll Over = ⊥

  -- The second was polled, and is given up if it answered.
  abbrev pub AfterOther : Poll Y → B → C → Poll Y → TryFlattenErr A B → C → Type 0
  AfterOther (Ready y) left c r n d = (r ≡ Ready y) × second.cancels left c d × (n ≡ Over)
  AfterOther Pending left c r n d = (r ≡ Pending) × (n ≡ Second left) × (d ≡ c)

  pub record PollsOther (g : B) (c : C) (r : Poll Y) (n : TryFlattenErr A B) (d : C) : Type 0 where
    pub answer : Poll Y
    pub left : B
    pub middle : C
    pub polled : second.polls g c answer left middle
    pub rest : AfterOther answer left middle r n d

  abbrev pub OtherPolls : TryFlattenErr A B → C → Poll Y → TryFlattenErr A B → C → Type 0
  OtherPolls (First f) c r n d = ⊥
  OtherPolls (Second g) c r n d = PollsOther g c r n d
  OtherPolls Over c r n d = ⊥

module _ {A B C X Y : Type 0} (first : FutureOf A C X) (second : FutureOf B C Y) where
  -- The first answered this future: it is given up, and the second is polled.
  pub record GoesOn (b : B) (left : A) (c : C) (r : Poll Y) (n : TryFlattenErr A B) (d : C) : Type 0 where
    pub middle : C
    pub cancelled : first.cancels left c middle
    pub second_polled : PollsOther second b middle r n d

module _ {A B C T U : Type 0} (first : FutureOf A C (Result T B)) (second : FutureOf B C (Result T U)) where
  abbrev pub ErrMayPoll : Result T B → Type 0
  ErrMayPoll (Ok x) = ⊤
  ErrMayPoll (Err b) = MayPoll second b

  -- Whether the running future may be polled, and so may each second future that the first may answer.
  abbrev pub RescueCanPoll : TryFlattenErr A B → Type 0
  RescueCanPoll (First f) = first.can_poll f × ((x : Result T B) → first.gives f x → ErrMayPoll x)
  RescueCanPoll (Second g) = second.can_poll g
  RescueCanPoll Over = ⊤

  -- A value is the answer, and the first is given up.
  abbrev pub AfterRescued : Poll (Result T B) → A → C → Poll (Result T U) → TryFlattenErr A B → C → Type 0
  AfterRescued (Ready (Ok x)) left c r n d = (r ≡ Ready (Ok x)) × first.cancels left c d × (n ≡ Over)
  AfterRescued (Ready (Err b)) left c r n d = GoesOn first second b left c r n d
  AfterRescued Pending left c r n d = (r ≡ Pending) × (n ≡ First left) × (d ≡ c)

  pub record PollsRescued (f : A) (c : C) (r : Poll (Result T U)) (n : TryFlattenErr A B) (d : C) : Type 0 where
    pub answer : Poll (Result T B)
    pub left : A
    pub middle : C
    pub polled : first.polls f c answer left middle
    pub rest : AfterRescued answer left middle r n d

  abbrev pub RescuePolls : TryFlattenErr A B → C → Poll (Result T U) → TryFlattenErr A B → C → Type 0
  RescuePolls (First f) c r n d = PollsRescued f c r n d
  RescuePolls (Second g) c r n d = PollsOther second g c r n d
  RescuePolls Over c r n d = ⊥

-- A value is the answer; a future leads to an output that it may give.
abbrev pub LeadsOver : {B T U : Type 0} → (B → Result T U → Type 0) → Result T B → Result T U → Type 0
LeadsOver second (Ok x) y = y ≡ Ok x
LeadsOver second (Err b) y = second b y

abbrev pub RescueGives : {A B T U : Type 0} → (A → Result T B → Type 0) → (B → Result T U → Type 0) → TryFlattenErr A B → Result T U → Type 0
RescueGives {A} {B} {T} {U} first second (First f) y = (x : Result T B) × first f x × LeadsOver second x y
RescueGives first second (Second g) y = second g y
RescueGives first second Over y = ⊥
