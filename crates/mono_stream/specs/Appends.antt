-- The items of two streams, one stream after the other.
use Rattle.std.specs.Prelude.{◌≡◌, List, ◌++◌, Option, Some, None}
use Rattle.mono_model.specs.declared.poll.Poll.{Poll}
use Rattle.mono_model.specs.declared.poll.Poll.TheVariants.{Ready, Pending}
use Rattle.mono_stream.specs.Comes.{MayCome}
use Rattle.mono_stream.specs.Sides.{SidePolls, SideMayCome, SideCancels}
use Rattle.mono_stream.specs.declared.appends.Chain.{Chain}

module _ {A B C X : Type 0} (polls : A → C → Poll (Option X) → A → C → Type 0) (cancels : A → C → C → Type 0) (second_polls : B → C → Poll (Option X) → B → C → Type 0) where
  -- The second stream is polled once the first has ended.
  abbrev pub AfterFirst : Poll (Option X) → B → C → Poll (Option X) → B → C → Type 0
  AfterFirst (Ready (Some x)) s c r t d = (r ≡ Ready (Some x)) × (t ≡ s) × (d ≡ c)
  AfterFirst (Ready None) s c r t d = second_polls s c r t d
  AfterFirst Pending s c r t d = (r ≡ Pending) × (t ≡ s) × (d ≡ c)

  pub record ChainPolls (m : Chain A B) (c : C) (r : Poll (Option X)) (n : Chain A B) (d : C) : Type 0 where
    pub answer : Poll (Option X)
    pub middle : C
    pub first : SidePolls polls cancels m.first c answer n.first middle
    pub rest : AfterFirst answer m.second middle r n.second d

module _ {A B C : Type 0} (cancels : A → C → C → Type 0) (second_cancels : B → C → C → Type 0) where
  abbrev pub ChainCancels : Chain A B → C → C → Type 0
  ChainCancels m c d = (middle : C) × SideCancels cancels m.first c middle × second_cancels m.second middle d

module _ {A B X : Type 0} (gives : A → List X → Type 0) (second_gives : B → List X → Type 0) where
  -- Items of the first stream, and items of the second after them.
  pub record ChainGives (m : Chain A B) (zs : List X) : Type 0 where
    pub firsts : List X
    pub seconds : List X
    pub first : SideMayCome gives m.first firsts
    pub second : MayCome second_gives m.second seconds
    pub are : zs ≡ firsts ++ seconds
