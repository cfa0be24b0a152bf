-- The first answer of two futures: the answer and the form after one poll, and the answers in the end.
use Rattle.std.specs.Prelude.{⊤, ◌≡◌, ◌⊎◌, ◌||◌, Bool, true, Option, Some, None}
use Rattle.mono_model.specs.declared.poll.Poll.{Poll}
use Rattle.mono_model.specs.declared.poll.Poll.TheVariants.{Ready, Pending}
use Rattle.mono_task.specs.Members.{FutureOf}

module _ {A B : Type 0} where
  abbrev pub race_spent : (A → Bool) → (B → Bool) → Option (A × B) → Bool
  race_spent a b (Some p) = a p.0 || b p.1
  race_spent a b None = true

  abbrev pub RaceCanPoll : (A → Type 0) → (B → Type 0) → Option (A × B) → Type 0
  RaceCanPoll a b (Some p) = a p.0 × b p.1
  RaceCanPoll a b None = ⊤

  -- Both are given up, in the written order.
  abbrev pub RaceCancels : {C : Type 0} → (A → C → C → Type 0) → (B → C → C → Type 0) → Option (A × B) → C → C → Type 0
  RaceCancels {C} a b (Some p) c d = (m : C) × a p.0 c m × b p.1 m d
  RaceCancels a b None c d = d ≡ c

  abbrev pub RaceGives : {X : Type 0} → (A → X → Type 0) → (B → X → Type 0) → Option (A × B) → X → Type 0
  RaceGives a b (Some p) x = a p.0 x ⊎ b p.1 x
  RaceGives a b None x = ⊥

module _ {A B C X : Type 0} (first : FutureOf A C X) (second : FutureOf B C X) where
  -- The form after the second was polled.
  abbrev pub AfterLater : Poll X → A → B → C → Poll X → Option (A × B) → C → Type 0
  AfterLater (Ready y) f g c r n d = (r ≡ Ready y) × (n ≡ None) × RaceCancels first.cancels second.cancels (Some (f, g)) c d
  AfterLater Pending f g c r n d = (r ≡ Pending) × (n ≡ Some (f, g)) × (d ≡ c)

  pub record PollsLater (f : A) (g : B) (c : C) (r : Poll X) (n : Option (A × B)) (d : C) : Type 0 where
    pub answer : Poll X
    pub left : B
    pub middle : C
    pub polled : second.polls g c answer left middle
    pub rest : AfterLater answer f left middle r n d

  -- The form after the first was polled; the second is polled if the first waits.
  abbrev pub AfterEarlier : Poll X → A → B → C → Poll X → Option (A × B) → C → Type 0
  AfterEarlier (Ready x) f g c r n d = (r ≡ Ready x) × (n ≡ None) × RaceCancels first.cancels second.cancels (Some (f, g)) c d
  AfterEarlier Pending f g c r n d = PollsLater f g c r n d

  pub record PollsEarlier (f : A) (g : B) (c : C) (r : Poll X) (n : Option (A × B)) (d : C) : Type 0 where
    pub answer : Poll X
    pub left : A
    pub middle : C
    pub polled : first.polls f c answer left middle
    pub rest : AfterEarlier answer left g middle r n d

  abbrev pub RacePolls : Option (A × B) → C → Poll X → Option (A × B) → C → Type 0
  RacePolls (Some p) c r n d = PollsEarlier p.0 p.1 c r n d
  RacePolls None c r n d = ⊥
