-- The first answer of two unlike futures: the answer and the form after one poll, and the answers in the end.
use Rattle.std.specs.Prelude.{◌≡◌, Option, Some, None}
use Rattle.mono_model.specs.declared.poll.Poll.{Poll}
use Rattle.mono_model.specs.declared.poll.Poll.TheVariants.{Ready, Pending}
use Rattle.mono_task.specs.Members.{FutureOf}
use Rattle.mono_forms.specs.Eithers.{EitherIs}
use Rattle.mono_forms.specs.Races.{RaceCancels}
use Rattle.mono_forms.specs.declared.eithers.Either.{Either}
use Rattle.mono_forms.specs.declared.eithers.Either.TheVariants.{Left, Right}

-- Whether the future on the answer's side gives it.
abbrev pub EitherRaceGives : {A B X Y : Type 0} → (A → X → Type 0) → (B → Y → Type 0) → Option (A × B) → Either X Y → Type 0
EitherRaceGives a b (Some p) out = EitherIs (a p.0) (b p.1) out
EitherRaceGives a b None out = ⊥

module _ {A B C X Y : Type 0} (first : FutureOf A C X) (second : FutureOf B C Y) where
  -- The form after the second was polled.
  abbrev pub AfterOther : Poll Y → A → B → C → Poll (Either X Y) → Option (A × B) → C → Type 0
  AfterOther (Ready y) f g c r n d = (r ≡ Ready (Right y)) × (n ≡ None) × RaceCancels first.cancels second.cancels (Some (f, g)) c d
  AfterOther Pending f g c r n d = (r ≡ Pending) × (n ≡ Some (f, g)) × (d ≡ c)

  pub record PollsOther (f : A) (g : B) (c : C) (r : Poll (Either X Y)) (n : Option (A × B)) (d : C) : Type 0 where
    pub answer : Poll Y
    pub left : B
    pub middle : C
    pub polled : second.polls g c answer left middle
    pub rest : AfterOther answer f left middle r n d

  -- The form after the first was polled; the second is polled if the first waits.
  abbrev pub AfterOne : Poll X → A → B → C → Poll (Either X Y) → Option (A × B) → C → Type 0
  AfterOne (Ready x) f g c r n d = (r ≡ Ready (Left x)) × (n ≡ None) × RaceCancels first.cancels second.cancels (Some (f, g)) c d
  AfterOne Pending f g c r n d = PollsOther f g c r n d

  pub record PollsOne (f : A) (g : B) (c : C) (r : Poll (Either X Y)) (n : Option (A × B)) (d : C) : Type 0 where
    pub answer : Poll X
    pub left : A
    pub middle : C
    pub polled : first.polls f c answer left middle
    pub rest : AfterOne answer left g middle r n d

  abbrev pub EitherRacePolls : Option (A × B) → C → Poll (Either X Y) → Option (A × B) → C → Type 0
  EitherRacePolls (Some p) c r n d = PollsOne p.0 p.1 c r n d
  EitherRacePolls None c r n d = ⊥
