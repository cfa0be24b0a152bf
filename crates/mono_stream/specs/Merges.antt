-- The items of two streams, as they come.
use Rattle.std.specs.Prelude.{◌≡◌, Bool, true, false, List, Option, Some, None}
use Rattle.mono_model.specs.declared.poll.Poll.{Poll}
use Rattle.mono_model.specs.declared.poll.Poll.TheVariants.{Ready, Pending}
use Rattle.mono_stream.specs.JoinedItems.{Interleaves}
use Rattle.mono_stream.specs.Sides.{SidePolls, SideMayCome, SideCancels}
use Rattle.mono_stream.specs.declared.merges.Merge.{Merge}

-- The answer of the stream that is polled after one that waits.
abbrev pub or_pending : {X : Type 0} → Poll (Option X) → Poll (Option X)
or_pending (Ready (Some x)) = Ready (Some x)
or_pending (Ready None) = Pending
or_pending Pending = Pending

module _ {A B C X : Type 0} (polls : A → C → Poll (Option X) → A → C → Type 0) (cancels : A → C → C → Type 0) (far_polls : B → C → Poll (Option X) → B → C → Type 0) (far_cancels : B → C → C → Type 0) where
  -- The far stream is polled unless the near one has an item.
  abbrev pub AfterNear : Poll (Option X) → Option B → C → Poll (Option X) → Option B → C → Type 0
  AfterNear (Ready (Some x)) far c r left d = (r ≡ Ready (Some x)) × (left ≡ far) × (d ≡ c)
  AfterNear (Ready None) far c r left d = SidePolls far_polls far_cancels far c r left d
  AfterNear Pending far c r left d = (answer : Poll (Option X)) × SidePolls far_polls far_cancels far c answer left d × (r ≡ or_pending answer)

  pub record BothPoll (near : Option A) (far : Option B) (c : C) (r : Poll (Option X)) (near_left : Option A) (far_left : Option B) (d : C) : Type 0 where
    pub answer : Poll (Option X)
    pub middle : C
    pub polled : SidePolls polls cancels near c answer near_left middle
    pub rest : AfterNear answer far middle r far_left d

module _ {A B C X : Type 0} (polls : A → C → Poll (Option X) → A → C → Type 0) (cancels : A → C → C → Type 0) (second_polls : B → C → Poll (Option X) → B → C → Type 0) (second_cancels : B → C → C → Type 0) where
  -- The stream that is due is polled first, and the other one is due next.
  abbrev pub ByTurn : Bool → Merge A B → C → Poll (Option X) → Merge A B → C → Type 0
  ByTurn true m c r n d = (n.is_second_due ≡ false) × BothPoll second_polls second_cancels polls cancels m.second m.first c r n.second n.first d
  ByTurn false m c r n d = (n.is_second_due ≡ true) × BothPoll polls cancels second_polls second_cancels m.first m.second c r n.first n.second d

  abbrev pub MergePolls : Merge A B → C → Poll (Option X) → Merge A B → C → Type 0
  MergePolls m c r n d = ByTurn m.is_second_due m c r n d

module _ {A B C : Type 0} (cancels : A → C → C → Type 0) (second_cancels : B → C → C → Type 0) where
  abbrev pub MergeCancels : Merge A B → C → C → Type 0
  MergeCancels m c d = (middle : C) × SideCancels cancels m.first c middle × SideCancels second_cancels m.second middle d

module _ {A B X : Type 0} (gives : A → List X → Type 0) (far_gives : B → List X → Type 0) where
  -- Items of both streams, each stream's in its order.
  pub record BothGive (near : Option A) (far : Option B) (zs : List X) : Type 0 where
    pub nears : List X
    pub fars : List X
    pub first : SideMayCome gives near nears
    pub second : SideMayCome far_gives far fars
    pub are : Interleaves nears fars zs

  abbrev pub MergeGives : Merge A B → List X → Type 0
  MergeGives m zs = BothGive m.first m.second zs
