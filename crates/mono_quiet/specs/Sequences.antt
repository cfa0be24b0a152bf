-- One future after another makes no task, if each of them makes none.
use Rattle.std.specs.Prelude.{⊤, Result, Ok, Err}
use Rattle.mono_model.specs.Tasks.{Tasks}
use Rattle.mono_model.specs.declared.poll.Poll.{Poll}
use Rattle.mono_model.specs.declared.poll.Poll.TheVariants.{Ready, Pending}
use Rattle.mono_task.specs.Members.{FutureOf}
use Rattle.mono_forms.specs.Flattens.{FlattenCancels, AfterSecond, PollsSecond, AfterFirst, FlattenPolls}
use Rattle.mono_forms.specs.declared.flatten.Flatten.{Flatten}
use Rattle.mono_forms.specs.declared.flatten.Flatten.TheVariants as flat
use Rattle.mono_forms.specs.Tries.{TryCancels, AfterNext, PollsNext, AfterTried, TryPolls}
use Rattle.mono_forms.specs.declared.tries.TryFlatten.{TryFlatten}
use Rattle.mono_forms.specs.declared.tries.TryFlatten.TheVariants as try
use Rattle.mono_forms.specs.Rescues.{RescueCancels, AfterOther, PollsOther, AfterRescued, RescuePolls}
use Rattle.mono_forms.specs.declared.rescues.TryFlattenErr.{TryFlattenErr}
use Rattle.mono_forms.specs.declared.rescues.TryFlattenErr.TheVariants as rescue
use Rattle.mono_quiet.specs.Numbers.{MakesNone, none_at_all, none_on, PollsMakeNone, CancelsMakeNone}

module _ {A B C Y : Type 0} (work : C → Tasks ⊤) (first : FutureOf A C B) (second : FutureOf B C Y) (a_polls : PollsMakeNone work first) (a_cancels : CancelsMakeNone work first) (b_polls : PollsMakeNone work second) (b_cancels : CancelsMakeNone work second) where
  pub flatten_left : (m : Flatten A B) (c d : C) → FlattenCancels first.cancels second.cancels m c d → MakesNone work c d
  flatten_left (flat.First f) c d q = a_cancels f c d q
  flatten_left (flat.Second g) c d q = b_cancels g c d q
  flatten_left flat.Over c d q = none_at_all work c d q

  after_second : (answer : Poll Y) (left : B) (c : C) (r : Poll Y) (n : Flatten A B) (d : C) → AfterSecond second answer left c r n d → MakesNone work c d
  after_second (Ready y) left c r n d q = b_cancels left c d q.1
  after_second Pending left c r n d q = none_at_all work c d q.2

  second_none : (g : B) (c : C) (r : Poll Y) (n : Flatten A B) (d : C) → PollsSecond second g c r n d → MakesNone work c d
  second_none g c r n d q = none_on work c q.middle d (b_polls g c q.answer q.left q.middle q.polled) (after_second q.answer q.left q.middle r n d q.rest)

  after_first : (answer : Poll B) (left : A) (c : C) (r : Poll Y) (n : Flatten A B) (d : C) → AfterFirst first second answer left c r n d → MakesNone work c d
  after_first (Ready g) left c r n d q = none_on work c q.middle d (a_cancels left c q.middle q.cancelled) (second_none g q.middle r n d q.second_polled)
  after_first Pending left c r n d q = none_at_all work c d q.2

  pub flatten_makes_none : (m : Flatten A B) (c : C) (r : Poll Y) (n : Flatten A B) (d : C) → FlattenPolls first second m c r n d → MakesNone work c d
  flatten_makes_none (flat.First f) c r n d q = none_on work c q.middle d (a_polls f c q.answer q.left q.middle q.polled) (after_first q.answer q.left q.middle r n d q.rest)
  flatten_makes_none (flat.Second g) c r n d q = second_none g c r n d q
  flatten_makes_none flat.Over c r n d q = absurd q

module _ {A B C U E : Type 0} (work : C → Tasks ⊤) (first : FutureOf A C (Result B E)) (second : FutureOf B C (Result U E)) (a_polls : PollsMakeNone work first) (a_cancels : CancelsMakeNone work first) (b_polls : PollsMakeNone work second) (b_cancels : CancelsMakeNone work second) where
  pub try_left : (m : TryFlatten A B) (c d : C) → TryCancels first.cancels second.cancels m c d → MakesNone work c d
  try_left (try.First f) c d q = a_cancels f c d q
  try_left (try.Second g) c d q = b_cancels g c d q
  try_left try.Over c d q = none_at_all work c d q

  after_next : (answer : Poll (Result U E)) (left : B) (c : C) (r : Poll (Result U E)) (n : TryFlatten A B) (d : C) → AfterNext second answer left c r n d → MakesNone work c d
  after_next (Ready y) left c r n d q = b_cancels left c d q.1
  after_next Pending left c r n d q = none_at_all work c d q.2

  next_none : (g : B) (c : C) (r : Poll (Result U E)) (n : TryFlatten A B) (d : C) → PollsNext second g c r n d → MakesNone work c d
  next_none g c r n d q = none_on work c q.middle d (b_polls g c q.answer q.left q.middle q.polled) (after_next q.answer q.left q.middle r n d q.rest)

  after_tried : (answer : Poll (Result B E)) (left : A) (c : C) (r : Poll (Result U E)) (n : TryFlatten A B) (d : C) → AfterTried first second answer left c r n d → MakesNone work c d
  after_tried (Ready (Ok g)) left c r n d q = none_on work c q.middle d (a_cancels left c q.middle q.cancelled) (next_none g q.middle r n d q.second_polled)
  after_tried (Ready (Err e)) left c r n d q = a_cancels left c d q.1
  after_tried Pending left c r n d q = none_at_all work c d q.2

  pub try_makes_none : (m : TryFlatten A B) (c : C) (r : Poll (Result U E)) (n : TryFlatten A B) (d : C) → TryPolls first second m c r n d → MakesNone work c d
  try_makes_none (try.First f) c r n d q = none_on work c q.middle d (a_polls f c q.answer q.left q.middle q.polled) (after_tried q.answer q.left q.middle r n d q.rest)
  try_makes_none (try.Second g) c r n d q = next_none g c r n d q
  try_makes_none try.Over c r n d q = absurd q

module _ {A B C T U : Type 0} (work : C → Tasks ⊤) (first : FutureOf A C (Result T B)) (second : FutureOf B C (Result T U)) (a_polls : PollsMakeNone work first) (a_cancels : CancelsMakeNone work first) (b_polls : PollsMakeNone work second) (b_cancels : CancelsMakeNone work second) where
  pub rescue_left : (m : TryFlattenErr A B) (c d : C) → RescueCancels first.cancels second.cancels m c d → MakesNone work c d
  rescue_left (rescue.First f) c d q = a_cancels f c d q
  rescue_left (rescue.Second g) c d q = b_cancels g c d q
  rescue_left rescue.Over c d q = none_at_all work c d q

  after_other : (answer : Poll (Result T U)) (left : B) (c : C) (r : Poll (Result T U)) (n : TryFlattenErr A B) (d : C) → AfterOther second answer left c r n d → MakesNone work c d
  after_other (Ready y) left c r n d q = b_cancels left c d q.1
  after_other Pending left c r n d q = none_at_all work c d q.2

  other_none : (g : B) (c : C) (r : Poll (Result T U)) (n : TryFlattenErr A B) (d : C) → PollsOther second g c r n d → MakesNone work c d
  other_none g c r n d q = none_on work c q.middle d (b_polls g c q.answer q.left q.middle q.polled) (after_other q.answer q.left q.middle r n d q.rest)

  after_rescued : (answer : Poll (Result T B)) (left : A) (c : C) (r : Poll (Result T U)) (n : TryFlattenErr A B) (d : C) → AfterRescued first second answer left c r n d → MakesNone work c d
  after_rescued (Ready (Ok x)) left c r n d q = a_cancels left c d q.1
  after_rescued (Ready (Err g)) left c r n d q = none_on work c q.middle d (a_cancels left c q.middle q.cancelled) (other_none g q.middle r n d q.second_polled)
  after_rescued Pending left c r n d q = none_at_all work c d q.2

  pub rescue_makes_none : (m : TryFlattenErr A B) (c : C) (r : Poll (Result T U)) (n : TryFlattenErr A B) (d : C) → RescuePolls first second m c r n d → MakesNone work c d
  rescue_makes_none (rescue.First f) c r n d q = none_on work c q.middle d (a_polls f c q.answer q.left q.middle q.polled) (after_rescued q.answer q.left q.middle r n d q.rest)
  rescue_makes_none (rescue.Second g) c r n d q = other_none g c r n d q
  rescue_makes_none rescue.Over c r n d q = absurd q
