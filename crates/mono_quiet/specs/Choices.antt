-- Either of two futures makes no task, if neither does; and a future that may be polled after its answer makes none, if
-- the inner one does not.
use Rattle.std.specs.Prelude.{⊤, Option, Some, None}
use Rattle.mono_model.specs.Tasks.{Tasks}
use Rattle.mono_model.specs.declared.poll.Poll.{Poll}
use Rattle.mono_model.specs.declared.poll.Poll.TheVariants.{Ready, Pending}
use Rattle.mono_task.specs.Members.{FutureOf}
use Rattle.mono_forms.specs.Eithers.{EitherPolls, EitherCancels}
use Rattle.mono_forms.specs.declared.eithers.Either.{Either}
use Rattle.mono_forms.specs.declared.eithers.Either.TheVariants.{Left, Right}
use Rattle.mono_forms.specs.Fuses.{FuseCancels, AfterFused, FusePolls}
use Rattle.mono_quiet.specs.Numbers.{MakesNone, none_at_all, none_on, PollsMakeNone, CancelsMakeNone}

module _ {A B C X : Type 0} (work : C → Tasks ⊤) (first : FutureOf A C X) (second : FutureOf B C X) where
  pub either_left : CancelsMakeNone work first → CancelsMakeNone work second → (m : Either A B) (c d : C) → EitherCancels first.cancels second.cancels m c d → MakesNone work c d
  either_left a_cancels b_cancels (Left f) c d q = a_cancels f c d q
  either_left a_cancels b_cancels (Right g) c d q = b_cancels g c d q

  pub either_makes_none : PollsMakeNone work first → PollsMakeNone work second → (m : Either A B) (c : C) (r : Poll X) (n : Either A B) (d : C) → EitherPolls first.polls second.polls m c r n d → MakesNone work c d
  either_makes_none a_polls b_polls (Left f) c r (Left n) d q = a_polls f c r n d q
  either_makes_none a_polls b_polls (Left f) c r (Right n) d q = absurd q
  either_makes_none a_polls b_polls (Right g) c r (Left n) d q = absurd q
  either_makes_none a_polls b_polls (Right g) c r (Right n) d q = b_polls g c r n d q

module _ {A C X : Type 0} (work : C → Tasks ⊤) (future : FutureOf A C X) (cancels : CancelsMakeNone work future) where
  pub fuse_left : (m : Option A) (c d : C) → FuseCancels future.cancels m c d → MakesNone work c d
  fuse_left (Some a) c d q = cancels a c d q
  fuse_left None c d q = none_at_all work c d q

  after_fused : (answer : Poll X) (left : A) (c : C) (r : Poll X) (n : Option A) (d : C) → AfterFused future answer left c r n d → MakesNone work c d
  after_fused (Ready x) left c r n d q = cancels left c d q.2
  after_fused Pending left c r n d q = none_at_all work c d q.2

  pub fuse_makes_none : PollsMakeNone work future → (m : Option A) (c : C) (r : Poll X) (n : Option A) (d : C) → FusePolls future m c r n d → MakesNone work c d
  fuse_makes_none polls (Some a) c r n d q = none_on work c q.middle d (polls a c q.answer q.left q.middle q.polled) (after_fused q.answer q.left q.middle r n d q.rest)
  fuse_makes_none polls None c r n d q = none_at_all work c d q.2
