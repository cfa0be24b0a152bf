-- The sources of one future after another.
use Rattle.std.specs.Prelude.{◌≡◌, Result, Ok, Err}
use Rattle.std.proofs.Common.{sym, subst}
use Rattle.mono_model.specs.declared.poll.Poll.{Poll}
use Rattle.mono_model.specs.declared.poll.Poll.TheVariants.{Ready, Pending}
use Rattle.mono_task.specs.Members.{FutureOf}
use Rattle.mono_forms.specs.Flattens.{FlattenCancels, AfterSecond, PollsSecond, AfterFirst, FlattenPolls}
use Rattle.mono_forms.specs.declared.flatten.Flatten.{Flatten}
use Rattle.mono_forms.specs.declared.flatten.Flatten.TheVariants as flat
use Rattle.mono_forms.specs.Tries.{TryCancels, AfterNext, PollsNext, AfterTried, TryPolls}
use Rattle.mono_forms.specs.declared.tries.TryFlatten.{TryFlatten}
use Rattle.mono_forms.specs.declared.tries.TryFlatten.TheVariants as try
use Rattle.mono_forms.specs.Rescues.{RescueCancels, AfterOther, PollsOther, AfterRescued, RescuePolls}
use Rattle.mono_forms.specs.declared.rescues.TryFlattenErr.{TryFlattenErr}
use Rattle.mono_forms.specs.declared.rescues.TryFlattenErr.TheVariants as rescue
use Rattle.mono_wait.specs.Sources.{Source}
use Rattle.mono_wait.specs.Frames.{Frame, Part, Needs, CoversIn, same_reached, covers_after}

-- those of the running step
abbrev pub FlattenNeeds : {A B : Type 0} → Needs A → Needs B → Flatten A B → Source → Type 0
FlattenNeeds a b (flat.First f) x = a f x
FlattenNeeds a b (flat.Second g) x = b g x
FlattenNeeds a b flat.Over x = ⊥

abbrev pub TryNeeds : {A B : Type 0} → Needs A → Needs B → TryFlatten A B → Source → Type 0
TryNeeds a b (try.First f) x = a f x
TryNeeds a b (try.Second g) x = b g x
TryNeeds a b try.Over x = ⊥

abbrev pub RescueNeeds : {A B : Type 0} → Needs A → Needs B → TryFlattenErr A B → Source → Type 0
RescueNeeds a b (rescue.First f) x = a f x
RescueNeeds a b (rescue.Second g) x = b g x
RescueNeeds a b rescue.Over x = ⊥

no_answer : {Z : Type 0} (z : Z) → Pending ≡ Ready z → ⊥
no_answer z e = cc

module _ {A B C Y : Type 0} (w : Frame C) (first : FutureOf A C B) (second : FutureOf B C Y) (a : Part w first) (b : Part w second) where
  pub flatten_left : (m : Flatten A B) (c d : C) → FlattenCancels first.cancels second.cancels m c d → w.reaches c d
  flatten_left (flat.First f) c d q = a.left f c d q
  flatten_left (flat.Second g) c d q = b.left g c d q
  flatten_left flat.Over c d q = same_reached w c d q

  after_second : (answer : Poll Y) (left : B) (c : C) (r : Poll Y) (n : Flatten A B) (d : C) → AfterSecond second answer left c r n d → w.reaches c d
  after_second (Ready y) left c r n d q = b.left left c d q.1
  after_second Pending left c r n d q = same_reached w c d q.2

  second_reached : (g : B) (c : C) (r : Poll Y) (n : Flatten A B) (d : C) → PollsSecond second g c r n d → w.reaches c d
  second_reached g c r n d q = w.on c q.middle d (b.reach g c q.answer q.left q.middle q.polled) (after_second q.answer q.left q.middle r n d q.rest)

  after_first : (answer : Poll B) (left : A) (c : C) (r : Poll Y) (n : Flatten A B) (d : C) → AfterFirst first second answer left c r n d → w.reaches c d
  after_first (Ready g) left c r n d q = w.on c q.middle d (a.left left c q.middle q.cancelled) (second_reached g q.middle r n d q.second_polled)
  after_first Pending left c r n d q = same_reached w c d q.2

  pub flatten_reached : (m : Flatten A B) (c : C) (r : Poll Y) (n : Flatten A B) (d : C) → FlattenPolls first second m c r n d → w.reaches c d
  flatten_reached (flat.First f) c r n d q = w.on c q.middle d (a.reach f c q.answer q.left q.middle q.polled) (after_first q.answer q.left q.middle r n d q.rest)
  flatten_reached (flat.Second g) c r n d q = second_reached g c r n d q
  flatten_reached flat.Over c r n d q = absurd q

  abbrev Covered : C → C → Flatten A B → Type 0
  Covered c d n = CoversIn w c d (FlattenNeeds a.needs b.needs n)

  waits_second : (g : B) (c : C) (answer : Poll Y) (left : B) (middle : C) (n : Flatten A B) (d : C) → second.polls g c answer left middle → AfterSecond second answer left middle Pending n d → Covered c d n
  waits_second g c (Ready y) left middle n d polled rest = absurd (no_answer y rest.0)
  waits_second g c Pending left middle n d polled rest = subst (Covered c d) (sym rest.1) (subst (λ e. CoversIn w c e (b.needs left)) (sym rest.2) (b.covers g c left middle polled))

  second_covers : (g : B) (c : C) (n : Flatten A B) (d : C) → PollsSecond second g c Pending n d → Covered c d n
  second_covers g c n d q = waits_second g c q.answer q.left q.middle n d q.polled q.rest

  waits_first : (f : A) (c : C) (answer : Poll B) (left : A) (middle : C) (n : Flatten A B) (d : C) → first.polls f c answer left middle → AfterFirst first second answer left middle Pending n d → Covered c d n
  waits_first f c (Ready g) left middle n d polled rest =
      covers_after w c rest.middle d (FlattenNeeds a.needs b.needs n) (w.on c middle rest.middle (a.reach f c (Ready g) left middle polled) (a.left left middle rest.middle rest.cancelled)) (second_covers g rest.middle n d rest.second_polled)
  waits_first f c Pending left middle n d polled rest = subst (Covered c d) (sym rest.1) (subst (λ e. CoversIn w c e (a.needs left)) (sym rest.2) (a.covers f c left middle polled))

  pub flattens_cover : (m : Flatten A B) (c : C) (n : Flatten A B) (d : C) → FlattenPolls first second m c Pending n d → Covered c d n
  flattens_cover (flat.First f) c n d q = waits_first f c q.answer q.left q.middle n d q.polled q.rest
  flattens_cover (flat.Second g) c n d q = second_covers g c n d q
  flattens_cover flat.Over c n d q = absurd q

module _ {A B C U E : Type 0} (w : Frame C) (first : FutureOf A C (Result B E)) (second : FutureOf B C (Result U E)) (a : Part w first) (b : Part w second) where
  pub try_left : (m : TryFlatten A B) (c d : C) → TryCancels first.cancels second.cancels m c d → w.reaches c d
  try_left (try.First f) c d q = a.left f c d q
  try_left (try.Second g) c d q = b.left g c d q
  try_left try.Over c d q = same_reached w c d q

  after_next : (answer : Poll (Result U E)) (left : B) (c : C) (r : Poll (Result U E)) (n : TryFlatten A B) (d : C) → AfterNext second answer left c r n d → w.reaches c d
  after_next (Ready y) left c r n d q = b.left left c d q.1
  after_next Pending left c r n d q = same_reached w c d q.2

  next_reached : (g : B) (c : C) (r : Poll (Result U E)) (n : TryFlatten A B) (d : C) → PollsNext second g c r n d → w.reaches c d
  next_reached g c r n d q = w.on c q.middle d (b.reach g c q.answer q.left q.middle q.polled) (after_next q.answer q.left q.middle r n d q.rest)

  after_tried : (answer : Poll (Result B E)) (left : A) (c : C) (r : Poll (Result U E)) (n : TryFlatten A B) (d : C) → AfterTried first second answer left c r n d → w.reaches c d
  after_tried (Ready (Ok g)) left c r n d q = w.on c q.middle d (a.left left c q.middle q.cancelled) (next_reached g q.middle r n d q.second_polled)
  after_tried (Ready (Err e)) left c r n d q = a.left left c d q.1
  after_tried Pending left c r n d q = same_reached w c d q.2

  pub try_reached : (m : TryFlatten A B) (c : C) (r : Poll (Result U E)) (n : TryFlatten A B) (d : C) → TryPolls first second m c r n d → w.reaches c d
  try_reached (try.First f) c r n d q = w.on c q.middle d (a.reach f c q.answer q.left q.middle q.polled) (after_tried q.answer q.left q.middle r n d q.rest)
  try_reached (try.Second g) c r n d q = next_reached g c r n d q
  try_reached try.Over c r n d q = absurd q

  abbrev TriedCovers : C → C → TryFlatten A B → Type 0
  TriedCovers c d n = CoversIn w c d (TryNeeds a.needs b.needs n)

  waits_next : (g : B) (c : C) (answer : Poll (Result U E)) (left : B) (middle : C) (n : TryFlatten A B) (d : C) → second.polls g c answer left middle → AfterNext second answer left middle Pending n d → TriedCovers c d n
  waits_next g c (Ready y) left middle n d polled rest = absurd (no_answer y rest.0)
  waits_next g c Pending left middle n d polled rest = subst (TriedCovers c d) (sym rest.1) (subst (λ e. CoversIn w c e (b.needs left)) (sym rest.2) (b.covers g c left middle polled))

  next_covers : (g : B) (c : C) (n : TryFlatten A B) (d : C) → PollsNext second g c Pending n d → TriedCovers c d n
  next_covers g c n d q = waits_next g c q.answer q.left q.middle n d q.polled q.rest

  waits_tried : (f : A) (c : C) (answer : Poll (Result B E)) (left : A) (middle : C) (n : TryFlatten A B) (d : C) → first.polls f c answer left middle → AfterTried first second answer left middle Pending n d → TriedCovers c d n
  waits_tried f c (Ready (Ok g)) left middle n d polled rest =
      covers_after w c rest.middle d (TryNeeds a.needs b.needs n) (w.on c middle rest.middle (a.reach f c (Ready (Ok g)) left middle polled) (a.left left middle rest.middle rest.cancelled)) (next_covers g rest.middle n d rest.second_polled)
  waits_tried f c (Ready (Err e)) left middle n d polled rest = absurd (no_answer (Err e) rest.0)
  waits_tried f c Pending left middle n d polled rest = subst (TriedCovers c d) (sym rest.1) (subst (λ e. CoversIn w c e (a.needs left)) (sym rest.2) (a.covers f c left middle polled))

  pub tries_cover : (m : TryFlatten A B) (c : C) (n : TryFlatten A B) (d : C) → TryPolls first second m c Pending n d → TriedCovers c d n
  tries_cover (try.First f) c n d q = waits_tried f c q.answer q.left q.middle n d q.polled q.rest
  tries_cover (try.Second g) c n d q = next_covers g c n d q
  tries_cover try.Over c n d q = absurd q

module _ {A B C T U : Type 0} (w : Frame C) (first : FutureOf A C (Result T B)) (second : FutureOf B C (Result T U)) (a : Part w first) (b : Part w second) where
  pub rescue_left : (m : TryFlattenErr A B) (c d : C) → RescueCancels first.cancels second.cancels m c d → w.reaches c d
  rescue_left (rescue.First f) c d q = a.left f c d q
  rescue_left (rescue.Second g) c d q = b.left g c d q
  rescue_left rescue.Over c d q = same_reached w c d q

  after_other : (answer : Poll (Result T U)) (left : B) (c : C) (r : Poll (Result T U)) (n : TryFlattenErr A B) (d : C) → AfterOther second answer left c r n d → w.reaches c d
  after_other (Ready y) left c r n d q = b.left left c d q.1
  after_other Pending left c r n d q = same_reached w c d q.2

  other_reached : (g : B) (c : C) (r : Poll (Result T U)) (n : TryFlattenErr A B) (d : C) → PollsOther second g c r n d → w.reaches c d
  other_reached g c r n d q = w.on c q.middle d (b.reach g c q.answer q.left q.middle q.polled) (after_other q.answer q.left q.middle r n d q.rest)

  after_rescued : (answer : Poll (Result T B)) (left : A) (c : C) (r : Poll (Result T U)) (n : TryFlattenErr A B) (d : C) → AfterRescued first second answer left c r n d → w.reaches c d
  after_rescued (Ready (Ok x)) left c r n d q = a.left left c d q.1
  after_rescued (Ready (Err g)) left c r n d q = w.on c q.middle d (a.left left c q.middle q.cancelled) (other_reached g q.middle r n d q.second_polled)
  after_rescued Pending left c r n d q = same_reached w c d q.2

  pub rescue_reached : (m : TryFlattenErr A B) (c : C) (r : Poll (Result T U)) (n : TryFlattenErr A B) (d : C) → RescuePolls first second m c r n d → w.reaches c d
  rescue_reached (rescue.First f) c r n d q = w.on c q.middle d (a.reach f c q.answer q.left q.middle q.polled) (after_rescued q.answer q.left q.middle r n d q.rest)
  rescue_reached (rescue.Second g) c r n d q = other_reached g c r n d q
  rescue_reached rescue.Over c r n d q = absurd q

  abbrev RescueCovers : C → C → TryFlattenErr A B → Type 0
  RescueCovers c d n = CoversIn w c d (RescueNeeds a.needs b.needs n)

  waits_other : (g : B) (c : C) (answer : Poll (Result T U)) (left : B) (middle : C) (n : TryFlattenErr A B) (d : C) → second.polls g c answer left middle → AfterOther second answer left middle Pending n d → RescueCovers c d n
  waits_other g c (Ready y) left middle n d polled rest = absurd (no_answer y rest.0)
  waits_other g c Pending left middle n d polled rest = subst (RescueCovers c d) (sym rest.1) (subst (λ e. CoversIn w c e (b.needs left)) (sym rest.2) (b.covers g c left middle polled))

  other_covers : (g : B) (c : C) (n : TryFlattenErr A B) (d : C) → PollsOther second g c Pending n d → RescueCovers c d n
  other_covers g c n d q = waits_other g c q.answer q.left q.middle n d q.polled q.rest

  waits_rescued : (f : A) (c : C) (answer : Poll (Result T B)) (left : A) (middle : C) (n : TryFlattenErr A B) (d : C) → first.polls f c answer left middle → AfterRescued first second answer left middle Pending n d → RescueCovers c d n
  waits_rescued f c (Ready (Ok x)) left middle n d polled rest = absurd (no_answer (Ok x) rest.0)
  waits_rescued f c (Ready (Err g)) left middle n d polled rest =
      covers_after w c rest.middle d (RescueNeeds a.needs b.needs n) (w.on c middle rest.middle (a.reach f c (Ready (Err g)) left middle polled) (a.left left middle rest.middle rest.cancelled)) (other_covers g rest.middle n d rest.second_polled)
  waits_rescued f c Pending left middle n d polled rest = subst (RescueCovers c d) (sym rest.1) (subst (λ e. CoversIn w c e (a.needs left)) (sym rest.2) (a.covers f c left middle polled))

  pub rescues_cover : (m : TryFlattenErr A B) (c : C) (n : TryFlattenErr A B) (d : C) → RescuePolls first second m c Pending n d → RescueCovers c d n
  rescues_cover (rescue.First f) c n d q = waits_rescued f c q.answer q.left q.middle n d q.polled q.rest
  rescues_cover (rescue.Second g) c n d q = other_covers g c n d q
  rescues_cover rescue.Over c n d q = absurd q
