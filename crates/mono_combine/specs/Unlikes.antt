-- One of three to five unlike futures: each relation is that of the future that the branch holds.
use Rattle.std.specs.Prelude.{◌≡◌, Bool}
use Rattle.mono_model.specs.declared.poll.Poll.{Poll}
use Rattle.mono_model.specs.declared.poll.Poll.TheVariants.{Ready, Pending}
use Rattle.mono_combine.specs.declared.unlikes.OneOf3.{OneOf3}
use Rattle.mono_combine.specs.declared.unlikes.OneOf3.TheVariants as one3
use Rattle.mono_combine.specs.declared.unlikes.Out3.{Out3}
use Rattle.mono_combine.specs.declared.unlikes.Out3.TheVariants as out3
use Rattle.mono_combine.specs.declared.unlikes.OneOf4.{OneOf4}
use Rattle.mono_combine.specs.declared.unlikes.OneOf4.TheVariants as one4
use Rattle.mono_combine.specs.declared.unlikes.Out4.{Out4}
use Rattle.mono_combine.specs.declared.unlikes.Out4.TheVariants as out4
use Rattle.mono_combine.specs.declared.unlikes.OneOf5.{OneOf5}
use Rattle.mono_combine.specs.declared.unlikes.OneOf5.TheVariants as one5
use Rattle.mono_combine.specs.declared.unlikes.Out5.{Out5}
use Rattle.mono_combine.specs.declared.unlikes.Out5.TheVariants as out5

-- A poll's answer with its output under the name of its branch.
abbrev pub answer_under : {X W : Type 0} → (X → W) → Poll X → Poll W
answer_under name (Ready x) = Ready (name x)
answer_under name Pending = Pending

-- The poll of the future that a branch holds. The branch afterwards holds the same future.
pub record HeldPolls {T B C X W : Type 0} (polls : T → C → Poll X → T → C → Type 0) (holds : T → B) (name : X → W) (f : T) (c : C) (r : Poll W) (b : B) (d : C) : Type 0 where
  pub answer : Poll X
  pub left : T
  pub polled : polls f c answer left d
  pub names : r ≡ answer_under name answer
  pub stays : b ≡ holds left

-- The future that a branch holds gives this output.
abbrev pub HeldGives : {T X W : Type 0} → (T → X → Type 0) → (X → W) → T → W → Type 0
HeldGives {T} {X} {W} gives name f out = (x : X) × gives f x × (out ≡ name x)

module _ {A B D : Type 0} where
  abbrev pub one3_spent : (A → Bool) → (B → Bool) → (D → Bool) → OneOf3 A B D → Bool
  one3_spent a b d (one3.First held) = a held
  one3_spent a b d (one3.Second held) = b held
  one3_spent a b d (one3.Third held) = d held

  abbrev pub One3CanPoll : (A → Type 0) → (B → Type 0) → (D → Type 0) → OneOf3 A B D → Type 0
  One3CanPoll a b d (one3.First held) = a held
  One3CanPoll a b d (one3.Second held) = b held
  One3CanPoll a b d (one3.Third held) = d held

  abbrev pub One3Cancels : {C : Type 0} → (A → C → C → Type 0) → (B → C → C → Type 0) → (D → C → C → Type 0) → OneOf3 A B D → C → C → Type 0
  One3Cancels a b d (one3.First held) before after = a held before after
  One3Cancels a b d (one3.Second held) before after = b held before after
  One3Cancels a b d (one3.Third held) before after = d held before after

  abbrev pub One3Polls : {C X Y Z : Type 0} → (A → C → Poll X → A → C → Type 0) → (B → C → Poll Y → B → C → Type 0) → (D → C → Poll Z → D → C → Type 0) → OneOf3 A B D → C → Poll (Out3 X Y Z) → OneOf3 A B D → C → Type 0
  One3Polls a b d (one3.First held) = HeldPolls a one3.First out3.First held
  One3Polls a b d (one3.Second held) = HeldPolls b one3.Second out3.Second held
  One3Polls a b d (one3.Third held) = HeldPolls d one3.Third out3.Third held

  abbrev pub One3Gives : {X Y Z : Type 0} → (A → X → Type 0) → (B → Y → Type 0) → (D → Z → Type 0) → OneOf3 A B D → Out3 X Y Z → Type 0
  One3Gives a b d (one3.First held) = HeldGives a out3.First held
  One3Gives a b d (one3.Second held) = HeldGives b out3.Second held
  One3Gives a b d (one3.Third held) = HeldGives d out3.Third held

module _ {A B D E : Type 0} where
  abbrev pub one4_spent : (A → Bool) → (B → Bool) → (D → Bool) → (E → Bool) → OneOf4 A B D E → Bool
  one4_spent a b d e (one4.First held) = a held
  one4_spent a b d e (one4.Second held) = b held
  one4_spent a b d e (one4.Third held) = d held
  one4_spent a b d e (one4.Fourth held) = e held

  abbrev pub One4CanPoll : (A → Type 0) → (B → Type 0) → (D → Type 0) → (E → Type 0) → OneOf4 A B D E → Type 0
  One4CanPoll a b d e (one4.First held) = a held
  One4CanPoll a b d e (one4.Second held) = b held
  One4CanPoll a b d e (one4.Third held) = d held
  One4CanPoll a b d e (one4.Fourth held) = e held

  abbrev pub One4Cancels : {C : Type 0} → (A → C → C → Type 0) → (B → C → C → Type 0) → (D → C → C → Type 0) → (E → C → C → Type 0) → OneOf4 A B D E → C → C → Type 0
  One4Cancels a b d e (one4.First held) before after = a held before after
  One4Cancels a b d e (one4.Second held) before after = b held before after
  One4Cancels a b d e (one4.Third held) before after = d held before after
  One4Cancels a b d e (one4.Fourth held) before after = e held before after

  abbrev pub One4Polls : {C X Y Z U : Type 0} → (A → C → Poll X → A → C → Type 0) → (B → C → Poll Y → B → C → Type 0) → (D → C → Poll Z → D → C → Type 0) → (E → C → Poll U → E → C → Type 0) → OneOf4 A B D E → C → Poll (Out4 X Y Z U) → OneOf4 A B D E → C → Type 0
  One4Polls a b d e (one4.First held) = HeldPolls a one4.First out4.First held
  One4Polls a b d e (one4.Second held) = HeldPolls b one4.Second out4.Second held
  One4Polls a b d e (one4.Third held) = HeldPolls d one4.Third out4.Third held
  One4Polls a b d e (one4.Fourth held) = HeldPolls e one4.Fourth out4.Fourth held

  abbrev pub One4Gives : {X Y Z U : Type 0} → (A → X → Type 0) → (B → Y → Type 0) → (D → Z → Type 0) → (E → U → Type 0) → OneOf4 A B D E → Out4 X Y Z U → Type 0
  One4Gives a b d e (one4.First held) = HeldGives a out4.First held
  One4Gives a b d e (one4.Second held) = HeldGives b out4.Second held
  One4Gives a b d e (one4.Third held) = HeldGives d out4.Third held
  One4Gives a b d e (one4.Fourth held) = HeldGives e out4.Fourth held

module _ {A B D E F : Type 0} where
  abbrev pub one5_spent : (A → Bool) → (B → Bool) → (D → Bool) → (E → Bool) → (F → Bool) → OneOf5 A B D E F → Bool
  one5_spent a b d e f (one5.First held) = a held
  one5_spent a b d e f (one5.Second held) = b held
  one5_spent a b d e f (one5.Third held) = d held
  one5_spent a b d e f (one5.Fourth held) = e held
  one5_spent a b d e f (one5.Fifth held) = f held

  abbrev pub One5CanPoll : (A → Type 0) → (B → Type 0) → (D → Type 0) → (E → Type 0) → (F → Type 0) → OneOf5 A B D E F → Type 0
  One5CanPoll a b d e f (one5.First held) = a held
  One5CanPoll a b d e f (one5.Second held) = b held
  One5CanPoll a b d e f (one5.Third held) = d held
  One5CanPoll a b d e f (one5.Fourth held) = e held
  One5CanPoll a b d e f (one5.Fifth held) = f held

  abbrev pub One5Cancels : {C : Type 0} → (A → C → C → Type 0) → (B → C → C → Type 0) → (D → C → C → Type 0) → (E → C → C → Type 0) → (F → C → C → Type 0) → OneOf5 A B D E F → C → C → Type 0
  One5Cancels a b d e f (one5.First held) before after = a held before after
  One5Cancels a b d e f (one5.Second held) before after = b held before after
  One5Cancels a b d e f (one5.Third held) before after = d held before after
  One5Cancels a b d e f (one5.Fourth held) before after = e held before after
  One5Cancels a b d e f (one5.Fifth held) before after = f held before after

  abbrev pub One5Polls : {C X Y Z U V : Type 0} → (A → C → Poll X → A → C → Type 0) → (B → C → Poll Y → B → C → Type 0) → (D → C → Poll Z → D → C → Type 0) → (E → C → Poll U → E → C → Type 0) → (F → C → Poll V → F → C → Type 0) → OneOf5 A B D E F → C → Poll (Out5 X Y Z U V) → OneOf5 A B D E F → C → Type 0
  One5Polls a b d e f (one5.First held) = HeldPolls a one5.First out5.First held
  One5Polls a b d e f (one5.Second held) = HeldPolls b one5.Second out5.Second held
  One5Polls a b d e f (one5.Third held) = HeldPolls d one5.Third out5.Third held
  One5Polls a b d e f (one5.Fourth held) = HeldPolls e one5.Fourth out5.Fourth held
  One5Polls a b d e f (one5.Fifth held) = HeldPolls f one5.Fifth out5.Fifth held

  abbrev pub One5Gives : {X Y Z U V : Type 0} → (A → X → Type 0) → (B → Y → Type 0) → (D → Z → Type 0) → (E → U → Type 0) → (F → V → Type 0) → OneOf5 A B D E F → Out5 X Y Z U V → Type 0
  One5Gives a b d e f (one5.First held) = HeldGives a out5.First held
  One5Gives a b d e f (one5.Second held) = HeldGives b out5.Second held
  One5Gives a b d e f (one5.Third held) = HeldGives d out5.Third held
  One5Gives a b d e f (one5.Fourth held) = HeldGives e out5.Fourth held
  One5Gives a b d e f (one5.Fifth held) = HeldGives f out5.Fifth held
