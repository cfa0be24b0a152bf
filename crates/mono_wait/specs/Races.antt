-- The sources of either of two futures, and of races.
use Rattle.std.specs.Prelude.{◌≡◌, ◌⊎◌, Option, Some, None}
use Rattle.std.proofs.Common.{sym, subst}
use Rattle.mono_model.specs.declared.poll.Poll.{Poll}
use Rattle.mono_model.specs.declared.poll.Poll.TheVariants.{Ready, Pending}
use Rattle.mono_task.specs.Members.{FutureOf}
use Rattle.mono_forms.specs.Eithers.{EitherPolls, EitherCancels}
use Rattle.mono_forms.specs.declared.eithers.Either.{Either}
use Rattle.mono_forms.specs.declared.eithers.Either.TheVariants.{Left, Right}
use Rattle.mono_forms.specs.Races.{RaceCancels, AfterLater, PollsLater, AfterEarlier, RacePolls}
use Rattle.mono_forms.specs.EitherRaces.{AfterOther, PollsOther, AfterOne, EitherRacePolls}
use Rattle.mono_wait.specs.Sources.{Source}
use Rattle.mono_wait.specs.Frames.{Frame, Part, Needs, CoversIn, same_reached, covers_both}

abbrev pub EitherNeeds : {A B : Type 0} → Needs A → Needs B → Either A B → Source → Type 0
EitherNeeds a b (Left f) x = a f x
EitherNeeds a b (Right g) x = b g x

-- those of both, until one has answered
abbrev pub RaceNeeds : {A B : Type 0} → Needs A → Needs B → Option (A × B) → Source → Type 0
RaceNeeds a b (Some p) x = a p.0 x ⊎ b p.1 x
RaceNeeds a b None x = ⊥

no_answer : {Z : Type 0} (z : Z) → Pending ≡ Ready z → ⊥
no_answer z e = cc

module _ {A B C X : Type 0} (w : Frame C) (first : FutureOf A C X) (second : FutureOf B C X) (a : Part w first) (b : Part w second) where
  pub either_left : (m : Either A B) (c d : C) → EitherCancels first.cancels second.cancels m c d → w.reaches c d
  either_left (Left f) c d q = a.left f c d q
  either_left (Right g) c d q = b.left g c d q

  pub either_reached : (m : Either A B) (c : C) (r : Poll X) (n : Either A B) (d : C) → EitherPolls first.polls second.polls m c r n d → w.reaches c d
  either_reached (Left f) c r (Left f') d q = a.reach f c r f' d q
  either_reached (Left f) c r (Right g') d q = absurd q
  either_reached (Right g) c r (Left f') d q = absurd q
  either_reached (Right g) c r (Right g') d q = b.reach g c r g' d q

  pub eithers_cover : (m : Either A B) (c : C) (n : Either A B) (d : C) → EitherPolls first.polls second.polls m c Pending n d → CoversIn w c d (EitherNeeds a.needs b.needs n)
  eithers_cover (Left f) c (Left f') d q = a.covers f c f' d q
  eithers_cover (Left f) c (Right g') d q = absurd q
  eithers_cover (Right g) c (Left f') d q = absurd q
  eithers_cover (Right g) c (Right g') d q = b.covers g c g' d q

module _ {A B C X Y : Type 0} (w : Frame C) (first : FutureOf A C X) (second : FutureOf B C Y) (a : Part w first) (b : Part w second) where
  pub race_left : (m : Option (A × B)) (c d : C) → RaceCancels first.cancels second.cancels m c d → w.reaches c d
  race_left (Some p) c d q = w.on c q.0 d (a.left p.0 c q.0 q.1) (b.left p.1 q.0 d q.2)
  race_left None c d q = same_reached w c d q

  -- both were polled and are pending
  both_cover : (f : A) (c : C) (f' : A) (m : C) (g g' : B) (e : C) (n : Option (A × B)) (d : C) → first.polls f c Pending f' m → second.polls g m Pending g' e → n ≡ Some (f', g') → d ≡ e
      → CoversIn w c d (RaceNeeds a.needs b.needs n)
  both_cover f c f' m g g' e n d one two is same =
      subst (λ v. CoversIn w c d (RaceNeeds a.needs b.needs v)) (sym is) (subst (λ z. CoversIn w c z (RaceNeeds a.needs b.needs (Some (f', g')))) (sym same)
      (covers_both w c m e (a.needs f') (b.needs g') (a.reach f c Pending f' m one) (a.covers f c f' m one) (b.reach g m Pending g' e two) (b.covers g m g' e two)))

  module _ where
    after_other : (answer : Poll Y) (f : A) (g : B) (c : C) (r : Poll (Either X Y)) (n : Option (A × B)) (d : C) → AfterOther first second answer f g c r n d → w.reaches c d
    after_other (Ready y) f g c r n d q = race_left (Some (f, g)) c d q.2
    after_other Pending f g c r n d q = same_reached w c d q.2

    after_one : (answer : Poll X) (f : A) (g : B) (c : C) (r : Poll (Either X Y)) (n : Option (A × B)) (d : C) → AfterOne first second answer f g c r n d → w.reaches c d
    after_one (Ready x) f g c r n d q = race_left (Some (f, g)) c d q.2
    after_one Pending f g c r n d q = w.on c q.middle d (b.reach g c q.answer q.left q.middle q.polled) (after_other q.answer f q.left q.middle r n d q.rest)

    pub either_race_reached : (m : Option (A × B)) (c : C) (r : Poll (Either X Y)) (n : Option (A × B)) (d : C) → EitherRacePolls first second m c r n d → w.reaches c d
    either_race_reached (Some p) c r n d q = w.on c q.middle d (a.reach p.0 c q.answer q.left q.middle q.polled) (after_one q.answer q.left p.1 q.middle r n d q.rest)
    either_race_reached None c r n d q = absurd q

    other_waits : (f : A) (c : C) (f' : A) (m : C) (g : B) (answer : Poll Y) (g' : B) (e : C) (n : Option (A × B)) (d : C) → first.polls f c Pending f' m → second.polls g m answer g' e
        → AfterOther first second answer f' g' e Pending n d → CoversIn w c d (RaceNeeds a.needs b.needs n)
    other_waits f c f' m g (Ready y) g' e n d one two rest = absurd (no_answer (Right y) rest.0)
    other_waits f c f' m g Pending g' e n d one two rest = both_cover f c f' m g g' e n d one two rest.1 rest.2

    one_waits : (f : A) (c : C) (answer : Poll X) (f' : A) (m : C) (g : B) (n : Option (A × B)) (d : C) → first.polls f c answer f' m → AfterOne first second answer f' g m Pending n d → CoversIn w c d (RaceNeeds a.needs b.needs n)
    one_waits f c (Ready x) f' m g n d one rest = absurd (no_answer (Left x) rest.0)
    one_waits f c Pending f' m g n d one rest = other_waits f c f' m g rest.answer rest.left rest.middle n d one rest.polled rest.rest

    pub either_races_cover : (m : Option (A × B)) (c : C) (n : Option (A × B)) (d : C) → EitherRacePolls first second m c Pending n d → CoversIn w c d (RaceNeeds a.needs b.needs n)
    either_races_cover (Some p) c n d q = one_waits p.0 c q.answer q.left q.middle p.1 n d q.polled q.rest
    either_races_cover None c n d q = absurd q

module _ {A B C X : Type 0} (w : Frame C) (first : FutureOf A C X) (second : FutureOf B C X) (a : Part w first) (b : Part w second) where
  after_later : (answer : Poll X) (f : A) (g : B) (c : C) (r : Poll X) (n : Option (A × B)) (d : C) → AfterLater first second answer f g c r n d → w.reaches c d
  after_later (Ready y) f g c r n d q = race_left w first second a b (Some (f, g)) c d q.2
  after_later Pending f g c r n d q = same_reached w c d q.2

  after_earlier : (answer : Poll X) (f : A) (g : B) (c : C) (r : Poll X) (n : Option (A × B)) (d : C) → AfterEarlier first second answer f g c r n d → w.reaches c d
  after_earlier (Ready x) f g c r n d q = race_left w first second a b (Some (f, g)) c d q.2
  after_earlier Pending f g c r n d q = w.on c q.middle d (b.reach g c q.answer q.left q.middle q.polled) (after_later q.answer f q.left q.middle r n d q.rest)

  pub race_reached : (m : Option (A × B)) (c : C) (r : Poll X) (n : Option (A × B)) (d : C) → RacePolls first second m c r n d → w.reaches c d
  race_reached (Some p) c r n d q = w.on c q.middle d (a.reach p.0 c q.answer q.left q.middle q.polled) (after_earlier q.answer q.left p.1 q.middle r n d q.rest)
  race_reached None c r n d q = absurd q

  later_waits : (f : A) (c : C) (f' : A) (m : C) (g : B) (answer : Poll X) (g' : B) (e : C) (n : Option (A × B)) (d : C) → first.polls f c Pending f' m → second.polls g m answer g' e
      → AfterLater first second answer f' g' e Pending n d → CoversIn w c d (RaceNeeds a.needs b.needs n)
  later_waits f c f' m g (Ready y) g' e n d one two rest = absurd (no_answer y rest.0)
  later_waits f c f' m g Pending g' e n d one two rest = both_cover w first second a b f c f' m g g' e n d one two rest.1 rest.2

  earlier_waits : (f : A) (c : C) (answer : Poll X) (f' : A) (m : C) (g : B) (n : Option (A × B)) (d : C) → first.polls f c answer f' m → AfterEarlier first second answer f' g m Pending n d → CoversIn w c d (RaceNeeds a.needs b.needs n)
  earlier_waits f c (Ready x) f' m g n d one rest = absurd (no_answer x rest.0)
  earlier_waits f c Pending f' m g n d one rest = later_waits f c f' m g rest.answer rest.left rest.middle n d one rest.polled rest.rest

  pub races_cover : (m : Option (A × B)) (c : C) (n : Option (A × B)) (d : C) → RacePolls first second m c Pending n d → CoversIn w c d (RaceNeeds a.needs b.needs n)
  races_cover (Some p) c n d q = earlier_waits p.0 c q.answer q.left q.middle p.1 n d q.polled q.rest
  races_cover None c n d q = absurd q
