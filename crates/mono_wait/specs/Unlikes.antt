-- The sources of one of three to five unlike futures: those of the future that the branch holds.
use Rattle.std.specs.Prelude.{◌≡◌}
use Rattle.std.proofs.Common.{sym, subst, refl}
use Rattle.mono_model.specs.declared.poll.Poll.{Poll}
use Rattle.mono_model.specs.declared.poll.Poll.TheVariants.{Ready, Pending}
use Rattle.mono_task.specs.Members.{FutureOf}
use Rattle.mono_combine.specs.Unlikes.{answer_under, HeldPolls, One3Cancels, One3Polls, One4Cancels, One4Polls, One5Cancels, One5Polls}
use Rattle.mono_combine.specs.declared.unlikes.OneOf3.{OneOf3}
use Rattle.mono_combine.specs.declared.unlikes.OneOf3.TheVariants as one3
use Rattle.mono_combine.specs.declared.unlikes.Out3.{Out3}
use Rattle.mono_combine.specs.declared.unlikes.Out3.TheVariants as out3
use Rattle.mono_combine.specs.declared.unlikes.OneOf4.{OneOf4}
use Rattle.mono_combine.specs.declared.unlikes.OneOf4.TheVariants as one4
use Rattle.mono_combine.specs.declared.unlikes.Out4.{Out4}
use Rattle.mono_combine.specs.declared.unlikes.Out4.TheVariants as out4
use Rattle.mono_combine.specs.declared.unlikes.OneOf5.{OneOf5}
use Rattle.mono_combine.specs.declared.unlikes.OneOf5.TheVariants as one5
use Rattle.mono_combine.specs.declared.unlikes.Out5.{Out5}
use Rattle.mono_combine.specs.declared.unlikes.Out5.TheVariants as out5
use Rattle.mono_wait.specs.Sources.{Source}
use Rattle.mono_wait.specs.Frames.{Frame, Part, Needs, CoversIn}

no_answer : {Z : Type 0} (z : Z) → Pending ≡ Ready z → ⊥
no_answer z e = cc

module _ {T B C X W : Type 0} (w : Frame C) (future : FutureOf T C X) (part : Part w future) (holds : T → B) (name : X → W) where
  held_reached : (f : T) (c : C) (r : Poll W) (b : B) (d : C) → HeldPolls future.polls holds name f c r b d → w.reaches c d
  held_reached f c r b d q = part.reach f c q.answer q.left d q.polled

  held_waits : (answer : Poll X) → Pending ≡ answer_under name answer → answer ≡ Pending
  held_waits (Ready x) is = absurd (no_answer (name x) is)
  held_waits Pending is = refl

  -- The branch needs what the future that it holds needs.
  held_covers : (needs : Needs B) → ((f : T) (c d : C) → CoversIn w c d (part.needs f) → CoversIn w c d (needs (holds f)))
      → (f : T) (c : C) (b : B) (d : C) → HeldPolls future.polls holds name f c Pending b d → CoversIn w c d (needs b)
  held_covers needs of_branch f c b d q =
      subst (λ v. CoversIn w c d (needs v)) (sym q.stays) (of_branch q.left c d (part.covers f c q.left d (subst (λ a. future.polls f c a q.left d) (held_waits q.answer q.names) q.polled)))

abbrev pub One3Needs : {A B D : Type 0} → Needs A → Needs B → Needs D → OneOf3 A B D → Source → Type 0
One3Needs a b d (one3.First held) x = a held x
One3Needs a b d (one3.Second held) x = b held x
One3Needs a b d (one3.Third held) x = d held x

module _ {A B D C X Y Z : Type 0} (w : Frame C) (first : FutureOf A C X) (second : FutureOf B C Y) (third : FutureOf D C Z) (a : Part w first) (b : Part w second) (d : Part w third) where
  pub one3_left : (f : OneOf3 A B D) (before after : C) → One3Cancels first.cancels second.cancels third.cancels f before after → w.reaches before after
  one3_left (one3.First held) before after q = a.left held before after q
  one3_left (one3.Second held) before after q = b.left held before after q
  one3_left (one3.Third held) before after q = d.left held before after q

  pub one3_reached : (f : OneOf3 A B D) (before : C) (r : Poll (Out3 X Y Z)) (g : OneOf3 A B D) (after : C) → One3Polls first.polls second.polls third.polls f before r g after → w.reaches before after
  one3_reached (one3.First held) before r g after q = held_reached w first a one3.First out3.First held before r g after q
  one3_reached (one3.Second held) before r g after q = held_reached w second b one3.Second out3.Second held before r g after q
  one3_reached (one3.Third held) before r g after q = held_reached w third d one3.Third out3.Third held before r g after q

  pub ones3_cover : (f : OneOf3 A B D) (before : C) (g : OneOf3 A B D) (after : C) → One3Polls first.polls second.polls third.polls f before Pending g after → CoversIn w before after (One3Needs a.needs b.needs d.needs g)
  ones3_cover (one3.First held) before g after q = held_covers w first a one3.First out3.First (One3Needs a.needs b.needs d.needs) (λ left c d it. it) held before g after q
  ones3_cover (one3.Second held) before g after q = held_covers w second b one3.Second out3.Second (One3Needs a.needs b.needs d.needs) (λ left c d it. it) held before g after q
  ones3_cover (one3.Third held) before g after q = held_covers w third d one3.Third out3.Third (One3Needs a.needs b.needs d.needs) (λ left c d it. it) held before g after q

abbrev pub One4Needs : {A B D E : Type 0} → Needs A → Needs B → Needs D → Needs E → OneOf4 A B D E → Source → Type 0
One4Needs a b d e (one4.First held) x = a held x
One4Needs a b d e (one4.Second held) x = b held x
One4Needs a b d e (one4.Third held) x = d held x
One4Needs a b d e (one4.Fourth held) x = e held x

module _ {A B D E C X Y Z U : Type 0} (w : Frame C) (first : FutureOf A C X) (second : FutureOf B C Y) (third : FutureOf D C Z) (fourth : FutureOf E C U) (a : Part w first) (b : Part w second) (d : Part w third) (e : Part w fourth) where
  pub one4_left : (f : OneOf4 A B D E) (before after : C) → One4Cancels first.cancels second.cancels third.cancels fourth.cancels f before after → w.reaches before after
  one4_left (one4.First held) before after q = a.left held before after q
  one4_left (one4.Second held) before after q = b.left held before after q
  one4_left (one4.Third held) before after q = d.left held before after q
  one4_left (one4.Fourth held) before after q = e.left held before after q

  pub one4_reached : (f : OneOf4 A B D E) (before : C) (r : Poll (Out4 X Y Z U)) (g : OneOf4 A B D E) (after : C) → One4Polls first.polls second.polls third.polls fourth.polls f before r g after → w.reaches before after
  one4_reached (one4.First held) before r g after q = held_reached w first a one4.First out4.First held before r g after q
  one4_reached (one4.Second held) before r g after q = held_reached w second b one4.Second out4.Second held before r g after q
  one4_reached (one4.Third held) before r g after q = held_reached w third d one4.Third out4.Third held before r g after q
  one4_reached (one4.Fourth held) before r g after q = held_reached w fourth e one4.Fourth out4.Fourth held before r g after q

  pub ones4_cover : (f : OneOf4 A B D E) (before : C) (g : OneOf4 A B D E) (after : C) → One4Polls first.polls second.polls third.polls fourth.polls f before Pending g after → CoversIn w before after (One4Needs a.needs b.needs d.needs e.needs g)
  ones4_cover (one4.First held) before g after q = held_covers w first a one4.First out4.First (One4Needs a.needs b.needs d.needs e.needs) (λ left c d it. it) held before g after q
  ones4_cover (one4.Second held) before g after q = held_covers w second b one4.Second out4.Second (One4Needs a.needs b.needs d.needs e.needs) (λ left c d it. it) held before g after q
  ones4_cover (one4.Third held) before g after q = held_covers w third d one4.Third out4.Third (One4Needs a.needs b.needs d.needs e.needs) (λ left c d it. it) held before g after q
  ones4_cover (one4.Fourth held) before g after q = held_covers w fourth e one4.Fourth out4.Fourth (One4Needs a.needs b.needs d.needs e.needs) (λ left c d it. it) held before g after q

abbrev pub One5Needs : {A B D E F : Type 0} → Needs A → Needs B → Needs D → Needs E → Needs F → OneOf5 A B D E F → Source → Type 0
One5Needs a b d e h (one5.First held) x = a held x
One5Needs a b d e h (one5.Second held) x = b held x
One5Needs a b d e h (one5.Third held) x = d held x
One5Needs a b d e h (one5.Fourth held) x = e held x
One5Needs a b d e h (one5.Fifth held) x = h held x

module _ {A B D E F C X Y Z U V : Type 0} (w : Frame C) (first : FutureOf A C X) (second : FutureOf B C Y) (third : FutureOf D C Z) (fourth : FutureOf E C U) (fifth : FutureOf F C V) (a : Part w first) (b : Part w second) (d : Part w third) (e : Part w fourth) (h : Part w fifth) where
  pub one5_left : (f : OneOf5 A B D E F) (before after : C) → One5Cancels first.cancels second.cancels third.cancels fourth.cancels fifth.cancels f before after → w.reaches before after
  one5_left (one5.First held) before after q = a.left held before after q
  one5_left (one5.Second held) before after q = b.left held before after q
  one5_left (one5.Third held) before after q = d.left held before after q
  one5_left (one5.Fourth held) before after q = e.left held before after q
  one5_left (one5.Fifth held) before after q = h.left held before after q

  pub one5_reached : (f : OneOf5 A B D E F) (before : C) (r : Poll (Out5 X Y Z U V)) (g : OneOf5 A B D E F) (after : C) → One5Polls first.polls second.polls third.polls fourth.polls fifth.polls f before r g after → w.reaches before after
  one5_reached (one5.First held) before r g after q = held_reached w first a one5.First out5.First held before r g after q
  one5_reached (one5.Second held) before r g after q = held_reached w second b one5.Second out5.Second held before r g after q
  one5_reached (one5.Third held) before r g after q = held_reached w third d one5.Third out5.Third held before r g after q
  one5_reached (one5.Fourth held) before r g after q = held_reached w fourth e one5.Fourth out5.Fourth held before r g after q
  one5_reached (one5.Fifth held) before r g after q = held_reached w fifth h one5.Fifth out5.Fifth held before r g after q

  pub ones5_cover : (f : OneOf5 A B D E F) (before : C) (g : OneOf5 A B D E F) (after : C) → One5Polls first.polls second.polls third.polls fourth.polls fifth.polls f before Pending g after → CoversIn w before after (One5Needs a.needs b.needs d.needs e.needs h.needs g)
  ones5_cover (one5.First held) before g after q = held_covers w first a one5.First out5.First (One5Needs a.needs b.needs d.needs e.needs h.needs) (λ left c d it. it) held before g after q
  ones5_cover (one5.Second held) before g after q = held_covers w second b one5.Second out5.Second (One5Needs a.needs b.needs d.needs e.needs h.needs) (λ left c d it. it) held before g after q
  ones5_cover (one5.Third held) before g after q = held_covers w third d one5.Third out5.Third (One5Needs a.needs b.needs d.needs e.needs h.needs) (λ left c d it. it) held before g after q
  ones5_cover (one5.Fourth held) before g after q = held_covers w fourth e one5.Fourth out5.Fourth (One5Needs a.needs b.needs d.needs e.needs h.needs) (λ left c d it. it) held before g after q
  ones5_cover (one5.Fifth held) before g after q = held_covers w fifth h one5.Fifth out5.Fifth (One5Needs a.needs b.needs d.needs e.needs h.needs) (λ left c d it. it) held before g after q
