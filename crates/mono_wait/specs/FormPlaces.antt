-- The places of the shared value at which the forms in sequence wait, and races.
use Rattle.std.specs.Prelude.{◌≡◌, ℕ, List, Option, Some, None, Result, Ok, Err}
use Rattle.std.proofs.Common.{sym, subst}
use Rattle.mono_model.specs.declared.poll.Poll.{Poll}
use Rattle.mono_model.specs.declared.poll.Poll.TheVariants.{Ready, Pending}
use Rattle.mono_task.specs.Members.{FutureOf}
use Rattle.mono_forms.specs.Maps.{AfterPart, LeadPolls}
use Rattle.mono_forms.specs.Flattens.{AfterSecond, PollsSecond, AfterFirst, FlattenPolls}
use Rattle.mono_forms.specs.declared.flatten.Flatten.{Flatten}
use Rattle.mono_forms.specs.declared.flatten.Flatten.TheVariants as flat
use Rattle.mono_forms.specs.Tries.{AfterNext, PollsNext, AfterTried, TryPolls}
use Rattle.mono_forms.specs.declared.tries.TryFlatten.{TryFlatten}
use Rattle.mono_forms.specs.declared.tries.TryFlatten.TheVariants as try
use Rattle.mono_forms.specs.Rescues.{AfterOther, PollsOther, AfterRescued, RescuePolls}
use Rattle.mono_forms.specs.declared.rescues.TryFlattenErr.{TryFlattenErr}
use Rattle.mono_forms.specs.declared.rescues.TryFlattenErr.TheVariants as rescue
use Rattle.mono_forms.specs.Eithers.{EitherPolls}
use Rattle.mono_forms.specs.declared.eithers.Either.{Either}
use Rattle.mono_forms.specs.declared.eithers.Either.TheVariants.{Left, Right}
use Rattle.mono_forms.specs.Races.{AfterLater, AfterEarlier, RacePolls}
use Rattle.mono_forms.specs.EitherRaces as unlike
use Rattle.mono_forms.specs.EitherRaces.{AfterOne, EitherRacePolls}
use Rattle.mono_wait.specs.WaitPlaces.{Placed, Places}

no_answer : {Z : Type 0} (z : Z) → Pending ≡ Ready z → ⊥
no_answer z e = cc

-- those of the future, until it has answered
abbrev pub LeadPlaces : {A F : Type 0} → Places A → Option (A × F) → List ℕ → Type 0
LeadPlaces places (Some q) p = places q.0 p
LeadPlaces places None p = ⊥

-- those of the running step
abbrev pub FlattenPlaces : {A B : Type 0} → Places A → Places B → Flatten A B → List ℕ → Type 0
FlattenPlaces a b (flat.First f) p = a f p
FlattenPlaces a b (flat.Second g) p = b g p
FlattenPlaces a b flat.Over p = ⊥

abbrev pub TryPlaces : {A B : Type 0} → Places A → Places B → TryFlatten A B → List ℕ → Type 0
TryPlaces a b (try.First f) p = a f p
TryPlaces a b (try.Second g) p = b g p
TryPlaces a b try.Over p = ⊥

abbrev pub RescuePlaces : {A B : Type 0} → Places A → Places B → TryFlattenErr A B → List ℕ → Type 0
RescuePlaces a b (rescue.First f) p = a f p
RescuePlaces a b (rescue.Second g) p = b g p
RescuePlaces a b rescue.Over p = ⊥

abbrev pub EitherPlaces : {A B : Type 0} → Places A → Places B → Either A B → List ℕ → Type 0
EitherPlaces a b (Left f) p = a f p
EitherPlaces a b (Right g) p = b g p

-- Those of the future that is polled last: its poll may take the task out of a place of the other.
abbrev pub RacePlaces : {A B : Type 0} → Places B → Option (A × B) → List ℕ → Type 0
RacePlaces b (Some q) p = b q.1 p
RacePlaces b None p = ⊥

module _ {A C X F : Type 0} (listed_at : C → List ℕ → Type 0) (future : FutureOf A C X) (part : Placed listed_at future) {U : Type 0} (Leads : F → X → U → Type 0) where
  after_listed : (a : A) (f : F) (c : C) (answer : Poll X) (left : A) (middle : C) (n : Option (A × F)) (d : C) → future.polls a c answer left middle
      → AfterPart future Leads answer left f middle Pending n d → (p : List ℕ) → LeadPlaces part.waits_in n p → listed_at d p
  after_listed a f c (Ready x) left middle n d polled rest p is = absurd rest.2
  after_listed a f c Pending left middle n d polled rest p is = subst (λ e. listed_at e p) (sym rest.2) (part.listed a c left middle polled p (subst (λ v. LeadPlaces part.waits_in v p) rest.1 is))

  pub lead_listed : (m : Option (A × F)) (c : C) (n : Option (A × F)) (d : C) → LeadPolls future Leads m c Pending n d → (p : List ℕ) → LeadPlaces part.waits_in n p → listed_at d p
  lead_listed (Some q) c n d polls p is = after_listed q.0 q.1 c polls.answer polls.left polls.middle n d polls.polled polls.rest p is
  lead_listed None c n d polls p is = absurd polls

module _ {A B C Y : Type 0} (listed_at : C → List ℕ → Type 0) (first : FutureOf A C B) (second : FutureOf B C Y) (a : Placed listed_at first) (b : Placed listed_at second) where
  after_second : (g : B) (c : C) (answer : Poll Y) (left : B) (middle : C) (n : Flatten A B) (d : C) → second.polls g c answer left middle → AfterSecond second answer left middle Pending n d
      → (p : List ℕ) → FlattenPlaces a.waits_in b.waits_in n p → listed_at d p
  after_second g c (Ready y) left middle n d polled rest p is = absurd (no_answer y rest.0)
  after_second g c Pending left middle n d polled rest p is =
      subst (λ e. listed_at e p) (sym rest.2) (b.listed g c left middle polled p (subst (λ v. FlattenPlaces a.waits_in b.waits_in v p) rest.1 is))

  second_listed : (g : B) (c : C) (n : Flatten A B) (d : C) → PollsSecond second g c Pending n d → (p : List ℕ) → FlattenPlaces a.waits_in b.waits_in n p → listed_at d p
  second_listed g c n d q p is = after_second g c q.answer q.left q.middle n d q.polled q.rest p is

  after_first : (f : A) (c : C) (answer : Poll B) (left : A) (middle : C) (n : Flatten A B) (d : C) → first.polls f c answer left middle → AfterFirst first second answer left middle Pending n d
      → (p : List ℕ) → FlattenPlaces a.waits_in b.waits_in n p → listed_at d p
  after_first f c (Ready g) left middle n d polled rest p is = second_listed g rest.middle n d rest.second_polled p is
  after_first f c Pending left middle n d polled rest p is =
      subst (λ e. listed_at e p) (sym rest.2) (a.listed f c left middle polled p (subst (λ v. FlattenPlaces a.waits_in b.waits_in v p) rest.1 is))

  pub flatten_listed : (m : Flatten A B) (c : C) (n : Flatten A B) (d : C) → FlattenPolls first second m c Pending n d → (p : List ℕ) → FlattenPlaces a.waits_in b.waits_in n p → listed_at d p
  flatten_listed (flat.First f) c n d q p is = after_first f c q.answer q.left q.middle n d q.polled q.rest p is
  flatten_listed (flat.Second g) c n d q p is = second_listed g c n d q p is
  flatten_listed flat.Over c n d q p is = absurd q

module _ {A B C U E : Type 0} (listed_at : C → List ℕ → Type 0) (first : FutureOf A C (Result B E)) (second : FutureOf B C (Result U E)) (a : Placed listed_at first) (b : Placed listed_at second) where
  after_next : (g : B) (c : C) (answer : Poll (Result U E)) (left : B) (middle : C) (n : TryFlatten A B) (d : C) → second.polls g c answer left middle → AfterNext second answer left middle Pending n d
      → (p : List ℕ) → TryPlaces a.waits_in b.waits_in n p → listed_at d p
  after_next g c (Ready y) left middle n d polled rest p is = absurd (no_answer y rest.0)
  after_next g c Pending left middle n d polled rest p is = subst (λ e. listed_at e p) (sym rest.2) (b.listed g c left middle polled p (subst (λ v. TryPlaces a.waits_in b.waits_in v p) rest.1 is))

  next_listed : (g : B) (c : C) (n : TryFlatten A B) (d : C) → PollsNext second g c Pending n d → (p : List ℕ) → TryPlaces a.waits_in b.waits_in n p → listed_at d p
  next_listed g c n d q p is = after_next g c q.answer q.left q.middle n d q.polled q.rest p is

  after_tried : (f : A) (c : C) (answer : Poll (Result B E)) (left : A) (middle : C) (n : TryFlatten A B) (d : C) → first.polls f c answer left middle → AfterTried first second answer left middle Pending n d
      → (p : List ℕ) → TryPlaces a.waits_in b.waits_in n p → listed_at d p
  after_tried f c (Ready (Ok g)) left middle n d polled rest p is = next_listed g rest.middle n d rest.second_polled p is
  after_tried f c (Ready (Err e)) left middle n d polled rest p is = absurd (no_answer (Err e) rest.0)
  after_tried f c Pending left middle n d polled rest p is = subst (λ e. listed_at e p) (sym rest.2) (a.listed f c left middle polled p (subst (λ v. TryPlaces a.waits_in b.waits_in v p) rest.1 is))

  pub try_listed : (m : TryFlatten A B) (c : C) (n : TryFlatten A B) (d : C) → TryPolls first second m c Pending n d → (p : List ℕ) → TryPlaces a.waits_in b.waits_in n p → listed_at d p
  try_listed (try.First f) c n d q p is = after_tried f c q.answer q.left q.middle n d q.polled q.rest p is
  try_listed (try.Second g) c n d q p is = next_listed g c n d q p is
  try_listed try.Over c n d q p is = absurd q

module _ {A B C T U : Type 0} (listed_at : C → List ℕ → Type 0) (first : FutureOf A C (Result T B)) (second : FutureOf B C (Result T U)) (a : Placed listed_at first) (b : Placed listed_at second) where
  after_other : (g : B) (c : C) (answer : Poll (Result T U)) (left : B) (middle : C) (n : TryFlattenErr A B) (d : C) → second.polls g c answer left middle → AfterOther second answer left middle Pending n d
      → (p : List ℕ) → RescuePlaces a.waits_in b.waits_in n p → listed_at d p
  after_other g c (Ready y) left middle n d polled rest p is = absurd (no_answer y rest.0)
  after_other g c Pending left middle n d polled rest p is = subst (λ e. listed_at e p) (sym rest.2) (b.listed g c left middle polled p (subst (λ v. RescuePlaces a.waits_in b.waits_in v p) rest.1 is))

  other_listed : (g : B) (c : C) (n : TryFlattenErr A B) (d : C) → PollsOther second g c Pending n d → (p : List ℕ) → RescuePlaces a.waits_in b.waits_in n p → listed_at d p
  other_listed g c n d q p is = after_other g c q.answer q.left q.middle n d q.polled q.rest p is

  after_rescued : (f : A) (c : C) (answer : Poll (Result T B)) (left : A) (middle : C) (n : TryFlattenErr A B) (d : C) → first.polls f c answer left middle → AfterRescued first second answer left middle Pending n d
      → (p : List ℕ) → RescuePlaces a.waits_in b.waits_in n p → listed_at d p
  after_rescued f c (Ready (Ok x)) left middle n d polled rest p is = absurd (no_answer (Ok x) rest.0)
  after_rescued f c (Ready (Err g)) left middle n d polled rest p is = other_listed g rest.middle n d rest.second_polled p is
  after_rescued f c Pending left middle n d polled rest p is = subst (λ e. listed_at e p) (sym rest.2) (a.listed f c left middle polled p (subst (λ v. RescuePlaces a.waits_in b.waits_in v p) rest.1 is))

  pub rescue_listed : (m : TryFlattenErr A B) (c : C) (n : TryFlattenErr A B) (d : C) → RescuePolls first second m c Pending n d → (p : List ℕ) → RescuePlaces a.waits_in b.waits_in n p → listed_at d p
  rescue_listed (rescue.First f) c n d q p is = after_rescued f c q.answer q.left q.middle n d q.polled q.rest p is
  rescue_listed (rescue.Second g) c n d q p is = other_listed g c n d q p is
  rescue_listed rescue.Over c n d q p is = absurd q

module _ {A B C X : Type 0} (listed_at : C → List ℕ → Type 0) (first : FutureOf A C X) (second : FutureOf B C X) where
  pub either_listed : (a : Placed listed_at first) (b : Placed listed_at second) (m : Either A B) (c : C) (n : Either A B) (d : C) → EitherPolls first.polls second.polls m c Pending n d
      → (p : List ℕ) → EitherPlaces a.waits_in b.waits_in n p → listed_at d p
  either_listed a b (Left f) c (Left f') d q p is = a.listed f c f' d q p is
  either_listed a b (Left f) c (Right g') d q p is = absurd q
  either_listed a b (Right g) c (Left f') d q p is = absurd q
  either_listed a b (Right g) c (Right g') d q p is = b.listed g c g' d q p is

  module _ (b : Placed listed_at second) where
    after_later : (f : A) (g : B) (c : C) (answer : Poll X) (left : B) (middle : C) (n : Option (A × B)) (d : C) → second.polls g c answer left middle → AfterLater first second answer f left middle Pending n d
        → (p : List ℕ) → RacePlaces b.waits_in n p → listed_at d p
    after_later f g c (Ready y) left middle n d polled rest p is = absurd (no_answer y rest.0)
    after_later f g c Pending left middle n d polled rest p is = subst (λ e. listed_at e p) (sym rest.2) (b.listed g c left middle polled p (subst (λ v. RacePlaces b.waits_in v p) rest.1 is))

    after_earlier : (answer : Poll X) (left : A) (g : B) (middle : C) (n : Option (A × B)) (d : C) → AfterEarlier first second answer left g middle Pending n d → (p : List ℕ) → RacePlaces b.waits_in n p → listed_at d p
    after_earlier (Ready x) left g middle n d rest p is = absurd (no_answer x rest.0)
    after_earlier Pending left g middle n d rest p is = after_later left g middle rest.answer rest.left rest.middle n d rest.polled rest.rest p is

    pub race_listed : (m : Option (A × B)) (c : C) (n : Option (A × B)) (d : C) → RacePolls first second m c Pending n d → (p : List ℕ) → RacePlaces b.waits_in n p → listed_at d p
    race_listed (Some q) c n d polls p is = after_earlier polls.answer polls.left q.1 polls.middle n d polls.rest p is
    race_listed None c n d polls p is = absurd polls

module _ {A B C X Y : Type 0} (listed_at : C → List ℕ → Type 0) (first : FutureOf A C X) (second : FutureOf B C Y) (b : Placed listed_at second) where
  after_unlike : (f : A) (g : B) (c : C) (answer : Poll Y) (left : B) (middle : C) (n : Option (A × B)) (d : C) → second.polls g c answer left middle → unlike.AfterOther first second answer f left middle Pending n d
      → (p : List ℕ) → RacePlaces b.waits_in n p → listed_at d p
  after_unlike f g c (Ready y) left middle n d polled rest p is = absurd (no_answer (Right y) rest.0)
  after_unlike f g c Pending left middle n d polled rest p is = subst (λ e. listed_at e p) (sym rest.2) (b.listed g c left middle polled p (subst (λ v. RacePlaces b.waits_in v p) rest.1 is))

  after_one : (answer : Poll X) (left : A) (g : B) (middle : C) (n : Option (A × B)) (d : C) → AfterOne first second answer left g middle Pending n d → (p : List ℕ) → RacePlaces b.waits_in n p → listed_at d p
  after_one (Ready x) left g middle n d rest p is = absurd (no_answer (Left x) rest.0)
  after_one Pending left g middle n d rest p is = after_unlike left g middle rest.answer rest.left rest.middle n d rest.polled rest.rest p is

  pub either_race_listed : (m : Option (A × B)) (c : C) (n : Option (A × B)) (d : C) → EitherRacePolls first second m c Pending n d → (p : List ℕ) → RacePlaces b.waits_in n p → listed_at d p
  either_race_listed (Some q) c n d polls p is = after_one polls.answer polls.left q.1 polls.middle n d polls.rest p is
  either_race_listed None c n d polls p is = absurd polls
