-- One future after another: the answer and the form after one poll, and the answers in the end.
use Rattle.std.specs.Prelude.{⊤, ◌≡◌, Bool, true}
use Rattle.mono_model.specs.declared.poll.Poll.{Poll}
use Rattle.mono_model.specs.declared.poll.Poll.TheVariants.{Ready, Pending}
use Rattle.mono_task.specs.Members.{FutureOf}
use Rattle.mono_forms.specs.Parts.{MayPoll}
use Rattle.mono_forms.specs.declared.flatten.Flatten.{Flatten}
use Rattle.mono_forms.specs.declared.flatten.Flatten.TheVariants.{First, Second, Over}

module _ {A B : Type 0} where
  abbrev pub flatten_spent : (A → Bool) → (B → Bool) → Flatten A B → Bool
  flatten_spent a b (First f) = a f
  flatten_spent a b (Second g) = b g
  flatten_spent a b Over = true

  -- Whether the running future is given up.
  abbrev pub FlattenCancels : {C : Type 0} → (A → C → C → Type 0) → (B → C → C → Type 0) → Flatten A B → C → C → Type 0
  FlattenCancels a b (First f) c d = a f c d
  FlattenCancels a b (Second g) c d = b g c d
  FlattenCancels a b Over c d = d ≡ c

module _ {A B C Y : Type 0} (second : FutureOf B C Y) where
  abbrev pub SecondMayPoll : Flatten A B → Type 0
  SecondMayPoll (First f) = ⊥
  SecondMayPoll (Second g) = MayPoll second g
  SecondMayPoll Over = ⊥

  -- The second was polled, and is given up if it answered.
  abbrev pub AfterSecond : Poll Y → B → C → Poll Y → Flatten A B → C → Type 0
  AfterSecond (Ready y) left c r n d = (r ≡ Ready y) × second.cancels left c d × (n ≡ Over)
  AfterSecond Pending left c r n d = (r ≡ Pending) × (n ≡ Second left) × (d ≡ c)

  pub record PollsSecond (g : B) (c : C) (r : Poll Y) (n : Flatten A B) (d : C) : Type 0 where
    pub answer : Poll Y
    pub left : B
    pub middle : C
    pub polled : second.polls g c answer left middle
    pub rest : AfterSecond answer left middle r n d

  abbrev pub SecondPolls : Flatten A B → C → Poll Y → Flatten A B → C → Type 0
  SecondPolls (First f) c r n d = ⊥
  SecondPolls (Second g) c r n d = PollsSecond g c r n d
  SecondPolls Over c r n d = ⊥

module _ {A B C X Y : Type 0} (first : FutureOf A C X) (second : FutureOf B C Y) where
  -- The first answered this future: it is given up, and the second is polled.
  pub record GoesOn (b : B) (left : A) (c : C) (r : Poll Y) (n : Flatten A B) (d : C) : Type 0 where
    pub middle : C
    pub cancelled : first.cancels left c middle
    pub second_polled : PollsSecond second b middle r n d

module _ {A B C Y : Type 0} (first : FutureOf A C B) (second : FutureOf B C Y) where
  -- Whether the running future may be polled, and so may each second future that the first may answer.
  abbrev pub FlattenCanPoll : Flatten A B → Type 0
  FlattenCanPoll (First f) = first.can_poll f × ((b : B) → first.gives f b → MayPoll second b)
  FlattenCanPoll (Second g) = second.can_poll g
  FlattenCanPoll Over = ⊤

  abbrev pub AfterFirst : Poll B → A → C → Poll Y → Flatten A B → C → Type 0
  AfterFirst (Ready b) left c r n d = GoesOn first second b left c r n d
  AfterFirst Pending left c r n d = (r ≡ Pending) × (n ≡ First left) × (d ≡ c)

  pub record PollsFirst (f : A) (c : C) (r : Poll Y) (n : Flatten A B) (d : C) : Type 0 where
    pub answer : Poll B
    pub left : A
    pub middle : C
    pub polled : first.polls f c answer left middle
    pub rest : AfterFirst answer left middle r n d

  abbrev pub FlattenPolls : Flatten A B → C → Poll Y → Flatten A B → C → Type 0
  FlattenPolls (First f) c r n d = PollsFirst f c r n d
  FlattenPolls (Second g) c r n d = PollsSecond second g c r n d
  FlattenPolls Over c r n d = ⊥

-- Whether a second future that the first may answer gives the output, or the second does once it runs.
abbrev pub FlattenGives : {A B Y : Type 0} → (A → B → Type 0) → (B → Y → Type 0) → Flatten A B → Y → Type 0
FlattenGives {A} {B} first second (First f) y = (b : B) × first f b × second b y
FlattenGives first second (Second g) y = second g y
FlattenGives first second Over y = ⊥
